-- A table in the midst of a loop: the nodes below i have their new entry, the others the one before.
use Rattle.std.proofs.Common.{◌≡◌, ℕ, suc, ◌<◌, ◌≤◌, List, arith}
use Rattle.std.proofs.lemmas.Bool.{cases_lt}
use Rattle.std.specs.List.{list_any}
use Rattle.graph.specs.Model.{Model, Drawn, ports, any, within}
use Rattle.graph.proofs.Drawn.{inside}
use Rattle.site.specs.declared.node.Node.{Node}
use Rattle.site.specs.Table.{entry}
use Rattle.site.specs.Levels.{near, next, marked}
use Rattle.site.proofs.Ends.{any_same}
use Rattle.site.proofs.Marks.{adds, mark_none, mark_tells, mark_tells_next}

abbrev pub Partly : (Model → ℕ → Node) → (Model → ℕ → Node) → Model → ℕ → List Node → Type 0
Partly new old m i ns = (v : ℕ) → v < m.nodes → (v < i → entry ns v ≡ new m v) × (i ≤ v → entry ns v ≡ old m v)

-- of the nodes below i, the level adds none
abbrev pub Still : Model → ℕ → ℕ → Type 0
Still m k i = (v : ℕ) → v < i → within m (suc k) v ≡ within m k v

module _ (m : Model) (k : ℕ) where
  partly_near : (i : ℕ) (ns : List Node) → Partly (marked (suc k)) (marked k) m i ns → (u : ℕ) → u < m.nodes → near k (entry ns u) ≡ within m k u
  partly_near i ns h u l = grind (arith, cases_lt u i, h u l, mark_tells m k u, mark_tells_next m k u)

  -- the test of the node at hand says whether the level adds it
  pub partly_next : Drawn m → (i : ℕ) (ns : List Node) → i < m.nodes → Partly (marked (suc k)) (marked k) m i ns → next k ns i ≡ adds m k i
  partly_next d i ns l h =
      let some : list_any (λ u. near k (entry ns u)) (ports m i) ≡ any (within m k) (ports m i) = any_same _ _ (ports m i) (λ u a. partly_near i ns h u (inside m d u i a).1) in
      grind (arith, h i l, mark_none m k i, some)
