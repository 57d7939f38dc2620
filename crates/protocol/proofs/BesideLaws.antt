-- Two protocols side by side are one.
use Rattle.std.proofs.Common.{ℕ, ◌+◌, ◌<◌, List, refl}
use Rattle.graph.specs.Model.{Model, Proper}
use Rattle.protocol.specs.Protocols.{Protocol, Registers, Laws}
use Rattle.protocol.specs.Layers.{under, over}
use Rattle.protocol.specs.Beside.{beside}
use Rattle.protocol.proofs.LayerTurns.{registers_front, registers_back, then_still, then_keeps, apart_settles}
use Rattle.protocol.proofs.LayerLaws.{tall_same}

module _ (m : Model) (p q : Protocol) (left : Laws m p) (right_side : Laws m q) where
  abbrev own : ℕ → List ℕ → List ℕ → List ℕ
  own v below xs = q.turn v xs

  keeps_own : (v : ℕ) (below xs : List ℕ) → v < m.nodes → Registers q.size xs → Registers q.size (own v below xs)
  keeps_own v below xs l r = right_side.keeps v xs l r

  front : (xs : List ℕ) → Registers (p.size + q.size) xs → Registers p.size (under p xs)
  front xs r = registers_front p.size q.size xs r

  back : (xs : List ℕ) → Registers (p.size + q.size) xs → Registers q.size (over p xs)
  back xs r = registers_back p.size q.size xs r

  both_laws : Laws m (beside p q)
  both_laws = record {
    keeps = λ v xs l r. then_keeps m.nodes q.size p own left.keeps keeps_own v xs l r;
    near = λ xs v u l r e. left.near (under p xs) v u l (front xs r) e;
    still = λ xs r s v l. then_still p own v xs (left.still (under p xs) (front xs r) s.0 v l) (right_side.still (over p xs) (back xs r) s.1 v l);
    right = λ xs r s. (((λ v. (p.output (under p xs) v).mate), left.right (under p xs) (front xs r) s.0), (q.output (over p xs), right_side.right (over p xs) (back xs r) s.1));
    settles = λ xs ts r b k. apart_settles m.nodes q.size p own left.keeps keeps_own q.turn (λ v below ys. refl) p.Rest q.Rest p.bound q.bound (λ xs ts r b k. left.settles xs ts r b k) (λ xs ts r b k. right_side.settles xs ts r b k) xs ts r b k;
    tall = λ xs r s. tall_same ((beside p q).output xs) (p.output (under p xs)) (λ v. refl) m.nodes p.height (left.tall (under p xs) (front xs r) s.0);
  }

pub beside_laws : (m : Model) (p q : Protocol) → Proper m → Laws m p → Laws m q → Laws m (beside p q)
beside_laws m p q proper left right_side = both_laws m p q left right_side
