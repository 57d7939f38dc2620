-- What a turn of Tree owes, over its two blocks of registers.
use Rattle.std.proofs.Common.{◌≡◌, ℕ, ◌+◌, ◌-◌, ◌<◌, ◌≤◌, slice_index, slice_set, min, Bool, true, false, cond, length, length-set, arith, ◌||◌, eqb, List, ◌++◌, get_or, set, None, Ok, Option, sym, ap, ◌∙◌, ap₂}
use Rattle.std.proofs.lemmas.List.{get_or_append_left, get_or-append_right, set-append_left, set-append_right}
use Rattle.graph.specs.Model.{Model, Proper, ports}
use Rattle.graph.proofs.Drawn.{inside}
use Rattle.protocol.specs.First.{first, least}
use Rattle.protocol.specs.Outputs.{stored}
use Rattle.protocol.specs.Tree.{new_distance, new_parent, tree}
use Rattle.protocol.proofs.FirstLaws.{first_cong, stored_first_most}
use Rattle.silent.specs.Answers.{Turned}
use Rattle.registers.specs.declared.Block.{Block}
use Rattle.registers.specs.Blocks.{front, held, register}
use Rattle.registers.specs.Fronts.{either_changed, front_changed, front_read, front_registers, front_set}
use Rattle.registers.specs.Lists.{Changed}
use Rattle.bases.proofs.Scans.{least_cong}

-- the rules read the distances of nodes alone
module _ (m : Model) (p : Proper m) (f g : ℕ → ℕ) (same : (u : ℕ) → u < m.nodes → f u ≡ g u) (v : ℕ) where
  least_same : least f (ports m v) ≡ least g (ports m v)
  least_same = least_cong f g (ports m v) (λ u a. same u (inside m p.drawn u v a).1)

  distance_same : new_distance m f v ≡ new_distance m g v
  distance_same = ap (λ (k : ℕ). cond (eqb v m.root) 0 (min (k + 1) (m.nodes - 1))) least_same

  parent_same : new_parent m f v ≡ new_parent m g v
  parent_same =
      ap (λ (o : Option ℕ). cond (eqb v m.root) None o)
      (first_cong (λ u. eqb (f u) (least f (ports m v))) (λ u. eqb (g u) (least g (ports m v))) (ports m v) (λ u a. ap₂ eqb (same u (inside m p.drawn u v a).1) least_same))

-- a parent's number plus 1 fits a register
pub parent_low : (m : Model) → Proper m → (f : ℕ → ℕ) (v : ℕ) → stored (new_parent m f v) < 65536
parent_low m p f v =
    let few = p.drawn.limit in
    let most = stored_first_most m.nodes (λ u. eqb (f u) (least f (ports m v))) (ports m v) (λ u a. (inside m p.drawn u v a).1) in
    go (eqb v m.root) (first (λ u. eqb (f u) (least f (ports m v))) (ports m v)) (omega arith)
  where
    go : (b : Bool) (o : Option ℕ) → stored o < 65536 → stored (cond b None o) < 65536
    go true o l = omega arith
    go false o l = l

-- a write in each of two lists
sets_apart : (xs ys : List ℕ) (n v x y : ℕ) → length xs ≡ n → v < n → set (set (xs ++ ys) v x) (n + v) y ≡ set xs v x ++ set ys v y
sets_apart xs ys n v x y e l =
    let place : n + v - n ≡ v = omega arith in
    ap (λ (zs : List ℕ). set zs (n + v) y) (set-append_left xs ys v x (omega arith))
    ∙ set-append_right (set xs v x) ys n (n + v) y (length-set xs v x ∙ e) (omega arith)
    ∙ ap (λ (k : ℕ). set xs v x ++ set ys k y) place

-- both registers of v are written, by what the distances were
pub tree_turned :
    (m : Model) (p : Proper m) (a b c d : Block 256) (v x y : ℕ) (r s : Bool) → v < m.nodes
    → x ≡ new_distance m (register a) v → y ≡ stored (new_parent m (register a) v)
    → held c ≡ set (held a) v x → Changed (held a) r (held c) → held d ≡ set (held b) v y → Changed (held b) s (held d)
    → Turned m (tree m) v (front m.nodes a ++ front m.nodes b) (Ok (r || s)) (front m.nodes c ++ front m.nodes d)
tree_turned m p a b c d v x y r s l e h w j u k =
    let n = m.nodes in
    let xs = front n a in
    let ys = front n b in
    let few = p.drawn.limit in
    let size = (front_registers n a few).0 in
    let f : ℕ → ℕ = λ i. get_or (xs ++ ys) i 0 in
    let g : ℕ → ℕ = register a in
    let same : (i : ℕ) → i < n → f i ≡ g i = λ i q. get_or_append_left xs ys 0 i (omega arith) ∙ front_read n a i q in (
      l,
      ap₂ ◌++◌ (front_set n a c v x w) (front_set n b d v y u)
          ∙ sym (sets_apart xs ys n v x y size l)
          ∙ ap₂ (λ (z q : ℕ). set (set (xs ++ ys) v z) (n + v) q) (e ∙ sym (distance_same m p f g same v)) (h ∙ ap stored (sym (parent_same m p f g same v))),
      either_changed n xs ys (front n c) (front n d) r s size (front_registers n c few).0 (front_changed n a c v x w r l j) (front_changed n b d v y u s l k),
    )

-- the first registers of one block and then those of another, by their places
module _ {room : ℕ} (n : ℕ) (few : n ≤ room) (a b : Block room) where
  abbrev both : List ℕ
  both = front n a ++ front n b

  size_is : length (front n a) ≡ n
  size_is = (front_registers n a few).0

  pub second_read : (j : ℕ) → j < n → slice_index both (n + j) ≡ register b j
  second_read j l =
      get_or-append_right (front n a) (front n b) n (n + j) 0 size_is (omega arith)
      ∙ ap (λ (k : ℕ). slice_index (front n b) k) (omega arith)
      ∙ front_read n b j l

  pub first_set : (c : Block room) (i x : ℕ) → held c ≡ slice_set (held a) i x → i < n → front n c ++ front n b ≡ slice_set both i x
  first_set c i x w l =
      let e = size_is in
      ap (λ (zs : List ℕ). zs ++ front n b) (front_set n a c i x w) ∙ sym (set-append_left (front n a) (front n b) i x (omega arith))

  pub second_set : (c : Block room) (i j x : ℕ) → held c ≡ slice_set (held b) j x → i ≡ n + j → front n a ++ front n c ≡ slice_set both i x
  second_set c i j x w e =
      let k : j ≡ i - n = omega arith in
      ap (λ (zs : List ℕ). front n a ++ zs) (front_set n b c j x w ∙ ap (λ (q : ℕ). set (front n b) q x) k)
      ∙ sym (set-append_right (front n a) (front n b) n i x size_is (omega arith))
