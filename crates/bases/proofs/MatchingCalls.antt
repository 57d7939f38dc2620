-- What a turn and an output of Matching owe, over its block.
use Rattle.std.proofs.Common.{◌≡◌, ℕ, zero, suc, ◌<◌, Bool, cond, eqb, get_or, set, Some, None, Ok, Option, sym, refl, ap, ◌∙◌, ap₂, inl, inr}
use Rattle.std.proofs.lemmas.Bool.{cond-false}
use Rattle.lists.specs.Members.{Among}
use Rattle.graph.specs.Model.{Model, Proper, ports}
use Rattle.graph.proofs.Drawn.{inside}
use Rattle.protocol.specs.First.{first, held as node_held, mem}
use Rattle.protocol.specs.Outputs.{stored}
use Rattle.protocol.specs.Matching.{mate, matching, naming, new_register, or_else, renewed}
use Rattle.protocol.proofs.FirstLaws.{first_cong, held_some, mem_tells}
use Rattle.silent.specs.Answers.{Turned}
use Rattle.registers.specs.declared.Block.{Block}
use Rattle.registers.specs.Blocks.{front, held, register}
use Rattle.registers.specs.Fronts.{front_changed, front_read, front_set}
use Rattle.registers.specs.Lists.{Changed}

-- the rules read the names of nodes alone
module _ (m : Model) (p : Proper m) (f g : ℕ → ℕ) (same : (u : ℕ) → u < m.nodes → f u ≡ g u) (v : ℕ) where
  near : (u : ℕ) → Among u (ports m v) → f u ≡ g u
  near u a = same u (inside m p.drawn u v a).1

  first_same : (x : ℕ) → first (λ u. eqb (f u) x) (ports m v) ≡ first (λ u. eqb (g u) x) (ports m v)
  first_same x = first_cong (λ u. eqb (f u) x) (λ u. eqb (g u) x) (ports m v) (λ u a. ap (λ (k : ℕ). eqb k x) (near u a))

  renewed_same : (x : ℕ) → renewed m f v x ≡ renewed m g v x
  renewed_same zero = ap₂ (λ (a b : Option ℕ). stored (or_else a b)) (first_same (suc v)) (first_same 0)
  renewed_same (suc j) =
      let kept : ℕ → ℕ = λ k. cond (eqb k 0) (suc j) (cond (eqb k (suc v)) (suc j) 0) in
      elim (mem_tells j (ports m v)) [
        | inl t ↦ ap (λ (k : ℕ). cond (mem j (ports m v)) (kept k) 0) (near j t.1)
        | inr t ↦ cond-false (mem j (ports m v)) (kept (f j)) 0 t.0 ∙ sym (cond-false (mem j (ports m v)) (kept (g j)) 0 t.0)
      ]

  register_same : v < m.nodes → new_register m f v ≡ new_register m g v
  register_same l = ap (renewed m f v) (same v l) ∙ renewed_same (g v)

  naming_same : (o : Option ℕ) → ((u : ℕ) → o ≡ Some u → f u ≡ g u) → naming f v o ≡ naming g v o
  naming_same None h = refl
  naming_same (Some u) h = ap (λ (k : ℕ). cond (eqb k (suc v)) (Some u) None) (h u refl)

  pub mate_same : v < m.nodes → mate m f v ≡ mate m g v
  mate_same l = ap (λ (k : ℕ). naming f v (node_held (ports m v) k)) (same v l) ∙ naming_same (node_held (ports m v) (g v)) (λ u e. near u (held_some (ports m v) (g v) u e).0)

-- the register of v is written, by what the names were
pub matching_turned :
    {room : ℕ} (m : Model) (p : Proper m) (a b : Block room) (v x : ℕ) (r : Bool) → v < m.nodes → x ≡ new_register m (register a) v
    → held b ≡ set (held a) v x → Changed (held a) r (held b) → Turned m (matching m) v (front m.nodes a) (Ok r) (front m.nodes b)
matching_turned m p a b v x r l e w h =
    let n = m.nodes in
    let f : ℕ → ℕ = λ u. get_or (front n a) u 0 in
    (l, front_set n a b v x w ∙ ap (set (front n a) v) (e ∙ sym (register_same m p f (register a) (front_read n a) v l)), front_changed n a b v x w r l h)
