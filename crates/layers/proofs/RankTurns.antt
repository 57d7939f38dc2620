-- A node's rank is written, and then its slots: the rule of the ranks, and whether it changed the registers.
use Rattle.std.proofs.Common.{◌≡◌, ℕ, suc, ◌+◌, ◌<◌, ◌≤◌, Bool, ◌||◌, List, [], ◌∷◌, length, take, drop, set, refl, ap, ◌∙◌, arith}
use Rattle.std.proofs.lemmas.List.{drop-set-lt}
use Rattle.std.proofs.Math.Seq.{take-set-lt}
use Rattle.graph.specs.Model.{Model, ports, arcs, arcs_before}
use Rattle.protocol.specs.declared.Output.{Output}
use Rattle.protocol.specs.Rank.{put, rank_from, ranker, slots}
use Rattle.protocol.proofs.RankSlots.{arcs_next, slots_length}
use Rattle.registers.specs.declared.Block.{Block}
use Rattle.registers.specs.Blocks.{front, held}
use Rattle.registers.specs.Fronts.{front_set, take_changed}
use Rattle.registers.specs.Lists.{Changed}
use Rattle.layers.specs.Below.{Ruled}
use Rattle.layers.proofs.Changes.{later_changed}

take_put : (n : ℕ) (ys xs : List ℕ) (i : ℕ) → i + length ys ≤ n → take n (put xs i ys) ≡ put (take n xs) i ys
take_put n [] xs i l = refl
take_put n (y ∷ ys) xs i l = take_put n ys (set xs i y) (suc i) (omega arith) ∙ ap (λ (zs : List ℕ). put zs (suc i) ys) (take-set-lt n xs i y (omega arith))

drop_put : (n : ℕ) (ys xs : List ℕ) (i : ℕ) → i + length ys ≤ n → drop n (put xs i ys) ≡ drop n xs
drop_put n [] xs i l = refl
drop_put n (y ∷ ys) xs i l = drop_put n ys (set xs i y) (suc i) (omega arith) ∙ drop-set-lt n xs i y (omega arith)

pub rank_ruled :
    (m : Model) (t : ℕ → Output) (v r : ℕ) (x y z : Block 2304) (p q : Bool)
    → r ≡ rank_from m (t v).parent v (front (m.nodes + arcs m) x) → held y ≡ set (held x) v r → Changed (held x) p (held y)
    → held z ≡ put (held y) (m.nodes + arcs_before m v) (slots m.nodes t v (r + 1) (ports m v)) → Changed (held y) q (held z)
    → v < m.nodes → Ruled (ranker m) t v x (p || q) z
rank_ruled m t v r x y z p q e w h f k l =
    let size = m.nodes + arcs m in
    let first = m.nodes + arcs_before m v in
    let new = slots m.nodes t v (r + 1) (ports m v) in
    let low : v < size = omega arith in
    let fits : first + length new ≤ size = let c = arcs_next m v m.nodes l in let d = slots_length m.nodes t v (ports m v) (r + 1) in omega arith in
    let rest : drop size (held z) ≡ drop size (held x) = ap (drop size) f ∙ drop_put size new (held y) first fits ∙ ap (drop size) w ∙ drop-set-lt size (held x) v r low in (
      ap (take size) f
          ∙ take_put size new (held y) first fits
          ∙ ap (λ (us : List ℕ). put us first new) (front_set size x y v r w)
          ∙ ap (λ (n : ℕ). put (set (front size x) v n) first (slots m.nodes t v (n + 1) (ports m v))) e,
      take_changed size (held x) (held z) (p || q) rest (later_changed (held x) (held y) (held z) new v r first p q (omega arith) w f h k),
    )
