-- Pairs of neighbours that name each other: they never part, and each new one adds two to the paired nodes.
use Rattle.std.proofs.Common.{◌≡◌, ℕ, suc, ◌+◌, ◌<◌, ◌≤◌, ◌⊎◌, sym, ◌∙◌, subst, inl, inr, arith}
use Rattle.std.proofs.lemmas.Bool.{cases_eq}
use Rattle.lists.specs.Members.{Among}
use Rattle.lists.proofs.Decisions.{Decided, any?, both?}
use Rattle.graph.specs.Model.{Model, ports, Drawn}
use Rattle.graph.proofs.Drawn.{inside, both, apart}
use Rattle.rounds.proofs.Counting.{tally, tally_le, tally_two, tally_all}
use Rattle.protocol.specs.Matching.{new_register}
use Rattle.protocol.proofs.MatchingRules.{Way, way, new_holds, new_accepts}

-- v and a neighbour name each other
abbrev pub Paired : Model → (ℕ → ℕ) → ℕ → Type 0
Paired m f v = (u : ℕ) × Among u (ports m v) × ((f v ≡ suc u) × (f u ≡ suc v))

pub paired? : (m : Model) (f : ℕ → ℕ) (v : ℕ) → Decided (Paired m f v)
paired? m f v = any? (λ u. (f v ≡ suc u) × (f u ≡ suc v)) (λ u. both? (cases_eq (f v) (suc u)) (cases_eq (f u) (suc v))) (ports m v)

-- how many nodes are paired
abbrev pub pairs : Model → (ℕ → ℕ) → ℕ
pairs m f = tally (Paired m f) (paired? m f) m.nodes

-- v names none, and a neighbour names it
abbrev pub Courted : Model → (ℕ → ℕ) → ℕ → Type 0
Courted m f v = (f v ≡ 0) × (u : ℕ) × Among u (ports m v) × (f u ≡ suc v)

-- a turn of v leads from the registers f to the registers g
pub record Moves (m : Model) (v : ℕ) (f g : ℕ → ℕ) : Type 0 where
  pub here : g v ≡ new_register m f v
  pub there : (u : ℕ) → (u ≡ v → ⊥) → g u ≡ f u

pub free_unpaired : (m : Model) (f : ℕ → ℕ) (v : ℕ) → f v ≡ 0 → Paired m f v → ⊥
free_unpaired m f v e p = omega (arith, p.2.0)

-- who names a node that names none is not paired
pub suitor_unpaired : (m : Model) (f : ℕ → ℕ) (v u : ℕ) → f v ≡ 0 → f u ≡ suc v → Paired m f u → ⊥
suitor_unpaired m f v u e q p = let a : p.0 ≡ v = omega (arith, p.2.0) in let b : f v ≡ suc u = subst (λ z. f z ≡ suc u) a p.2.1 in omega arith

pub pairs_most : (m : Model) (f : ℕ → ℕ) → pairs m f ≤ m.nodes
pairs_most m f = let t = tally_le (Paired m f) (λ _. Unit {0}) (paired? m f) (λ _. inl tt) m.nodes (λ _ _ _. tt) in omega (arith, tally_all m.nodes)

-- two different nodes that are not paired
pub pairs_two_free : (m : Model) (f : ℕ → ℕ) (v u : ℕ) → (v ≡ u → ⊥) → v < m.nodes → u < m.nodes → (Paired m f v → ⊥) → (Paired m f u → ⊥) → pairs m f + 2 ≤ m.nodes
pairs_two_free m f v u d l k a b = let t = tally_two (Paired m f) (λ _. Unit {0}) (paired? m f) (λ _. inl tt) m.nodes v u (λ _ _ _. tt) d l a tt k b tt in omega (arith, tally_all m.nodes)

module _ (m : Model) (drawn : Drawn m) (v : ℕ) (f g : ℕ → ℕ) (moves : Moves m v f g) where
  pub move_way : Way m f v (g v)
  move_way = subst (Way m f v) (sym moves.here) (way m f v)

  -- who names a neighbour that names none, or that names it, goes on naming it
  holds_on : (w u : ℕ) → Among u (ports m w) → f w ≡ suc u → (f u ≡ 0) ⊎ (f u ≡ suc w) → g w ≡ suc u
  holds_on w u a e h = elim (cases_eq w v) [ inl q ↦ subst (λ z. g z ≡ new_register m f z) (sym q) moves.here ∙ new_holds m f w u e a h | inr d ↦ moves.there w d ∙ e ]

  pub paired_stays : (w : ℕ) → Paired m f w → Paired m g w
  paired_stays w p = (p.0, p.1, (holds_on w p.0 p.1 p.2.0 (inr p.2.1), holds_on p.0 w (both m drawn p.0 w p.1) p.2.1 (inr p.2.0)))

  pub pairs_grow : pairs m f ≤ pairs m g
  pairs_grow = tally_le (Paired m f) (Paired m g) (paired? m f) (paired? m g) m.nodes (λ w _ p. paired_stays w p)

  -- naming a neighbour that names it makes a pair
  pub pairs_more : (u : ℕ) → f v ≡ 0 → Among u (ports m v) → f u ≡ suc v → g v ≡ suc u → pairs m f + 2 ≤ pairs m g
  pairs_more u e a h r =
      let i = inside m drawn u v a in
      let gu : g u ≡ suc v = moves.there u (apart m drawn u v a) ∙ h in
      tally_two (Paired m f) (Paired m g) (paired? m f) (paired? m g) m.nodes v u (λ w _ p. paired_stays w p) (λ q. apart m drawn u v a (sym q))
      i.0 (free_unpaired m f v e) (u, a, (r, gu)) i.1 (suitor_unpaired m f v u e h) (v, both m drawn u v a, (gu, r))

  -- a courted node pairs at its turn
  pub courted_pairs : Courted m f v → pairs m f + 2 ≤ pairs m g
  courted_pairs c = let t = new_accepts m f v c.1 c.0 c.2 c.3 in pairs_more t.0 c.0 t.1 t.2 (moves.here ∙ t.3)

  -- and until then stays courted
  pub courted_stays : (w : ℕ) → (w ≡ v → ⊥) → Courted m f w → Courted m g w
  courted_stays w d c = (moves.there w d ∙ c.0, c.1, c.2, holds_on c.1 w (both m drawn c.1 w c.2) c.3 (inl c.0))
