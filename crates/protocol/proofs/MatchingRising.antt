-- Turns that lead to a new pair: some node is courted until it pairs, and otherwise nodes come to rest.
use Rattle.std.proofs.Common.{◌≡◌, ℕ, suc, ◌+◌, ◌<◌, ◌≤◌, ◌⊎◌, sym, ◌∙◌, subst, inl, inr, arith}
use Rattle.std.proofs.lemmas.Bool.{cases_eq}
use Rattle.lists.specs.Members.{Among}
use Rattle.lists.proofs.Decisions.{Decided, any?, both?, below?}
use Rattle.graph.specs.Model.{Model, ports, Drawn}
use Rattle.graph.proofs.Drawn.{inside, both, apart}
use Rattle.protocol.specs.Matching.{new_register}
use Rattle.protocol.proofs.MatchingRules.{Way, strays, accepts, proposes, abandons, waits, mated, alone, way}
use Rattle.protocol.proofs.MatchingPairs.{Paired, pairs, Courted, Moves, suitor_unpaired, move_way, paired_stays, pairs_grow, pairs_more, courted_pairs, courted_stays}

-- two more than c nodes are paired, or some node is courted
abbrev pub Rising : Model → ℕ → (ℕ → ℕ) → Type 0
Rising m c f = (c + 2 ≤ pairs m f) ⊎ ((v : ℕ) × (v < m.nodes) × Courted m f v)

-- v is paired or names none
abbrev pub Calm : Model → (ℕ → ℕ) → ℕ → Type 0
Calm m f v = Paired m f v ⊎ (f v ≡ 0)

-- two neighbours that name none
abbrev pub BothFree : Model → (ℕ → ℕ) → Type 0
BothFree m f = (v : ℕ) × (v < m.nodes) × ((f v ≡ 0) × ((u : ℕ) × Among u (ports m v) × (f u ≡ 0)))

pub both_free? : (m : Model) (f : ℕ → ℕ) → Decided (BothFree m f)
both_free? m f = below? (λ v. (f v ≡ 0) × ((u : ℕ) × Among u (ports m v) × (f u ≡ 0))) (λ v. both? (cases_eq (f v) 0) (any? (λ u. f u ≡ 0) (λ u. cases_eq (f u) 0) (ports m v))) m.nodes

-- where all are calm and no two neighbours name none, no register would change
pub calm_rests : (m : Model) (drawn : Drawn m) (f : ℕ → ℕ) → ((v : ℕ) → v < m.nodes → Calm m f v) → (BothFree m f → ⊥) → (v : ℕ) → v < m.nodes → new_register m f v ≡ f v
calm_rests m drawn f calm none v l = go (way m f v) (calm v l)
  where
    go : Way m f v (new_register m f v) → Calm m f v → new_register m f v ≡ f v
    go (strays j x y r) (inl p) = absurd (y (subst (λ t. Among t (ports m v)) (omega (arith, p.2.0)) p.1))
    go (strays j x y r) (inr p) = absurd (omega arith)
    go (accepts u x y z i r) k = absurd (elim (calm u (inside m drawn u v y).1) [ inl p ↦ suitor_unpaired m f v u x z p | inr p ↦ (let o : ⊥ = omega arith in o) ])
    go (proposes u x n y z i r) k = absurd (none (v, l, (x, (u, y, z))))
    go (abandons j x y z t r) (inl p) = absurd (t (subst (λ t. f t ≡ suc v) (omega (arith, p.2.0)) p.2.1))
    go (abandons j x y z t r) (inr p) = absurd (omega arith)
    go (waits j x y z r) k = r ∙ sym x
    go (mated j x y z r) k = r ∙ sym x
    go (alone x y z r) k = r ∙ sym x

module _ (m : Model) (drawn : Drawn m) (c w : ℕ) (f g : ℕ → ℕ) (l : w < m.nodes) (moves : Moves m w f g) (most : c ≤ pairs m f) where
  pub courted_turn : Courted m f w → c + 2 ≤ pairs m g
  courted_turn k = let t = courted_pairs m drawn w f g moves k in omega arith

  pub more_stays : c + 2 ≤ pairs m f → c + 2 ≤ pairs m g
  more_stays h = let t = pairs_grow m drawn w f g moves in omega arith

  -- a courted node pairs or stays courted
  pub courted_on : (v : ℕ) → Courted m f v → (c + 2 ≤ pairs m g) ⊎ Courted m g v
  courted_on v k = elim (cases_eq v w) [ inl e ↦ inl (courted_turn (subst (Courted m f) e k)) | inr d ↦ inr (courted_stays m drawn w f g moves v d k) ]

  pub rising_stays : Rising m c f → Rising m c g
  rising_stays (inl a) = inl (more_stays a)
  rising_stays (inr k) = elim (courted_on k.0 k.2) [ inl a ↦ inl a | inr a ↦ inr (k.0, k.1, a) ]

  accepts_rises : (u : ℕ) → f w ≡ 0 → Among u (ports m w) → f u ≡ suc w → g w ≡ suc u → Rising m c g
  accepts_rises u e a h r = inl (let t = pairs_more m drawn w f g moves u e a h r in omega arith)

  -- naming a neighbour that names none courts it
  courts : (u : ℕ) → Among u (ports m w) → f u ≡ 0 → g w ≡ suc u → Rising m c g
  courts u a e r = inr (u, (inside m drawn u w a).1, (moves.there u (apart m drawn u w a) ∙ e, w, both m drawn u w a, r))

  pub calm_turn : Rising m c g ⊎ Calm m g w
  calm_turn = go (move_way m drawn w f g moves)
    where
      go : Way m f w (g w) → Rising m c g ⊎ Calm m g w
      go (strays j x y r) = inr (inr r)
      go (accepts u x y z i r) = inl (accepts_rises u x y z r)
      go (proposes u x n y z i r) = inl (courts u y z r)
      go (abandons j x y z t r) = inr (inr r)
      go (waits j x y z r) = inl (courts j y z r)
      go (mated j x y z r) = inr (inl (j, y, (r, moves.there j (apart m drawn j w y) ∙ z)))
      go (alone x y z r) = inr (inr r)

  pub calm_stays : (v : ℕ) → Rising m c f ⊎ Calm m f v → Rising m c g ⊎ Calm m g v
  calm_stays v (inl a) = inl (rising_stays a)
  calm_stays v (inr (inl p)) = inr (inl (paired_stays m drawn w f g moves v p))
  calm_stays v (inr (inr e)) = elim (cases_eq v w) [ inl q ↦ subst (λ z. Rising m c g ⊎ Calm m g z) (sym q) calm_turn | inr d ↦ inr (inr (moves.there v d ∙ e)) ]

  -- of two neighbours that name none, the first to have its turn courts or pairs
  pub free_turn : (u : ℕ) → Among u (ports m w) → f w ≡ 0 → f u ≡ 0 → Rising m c g
  free_turn u a e h = go (move_way m drawn w f g moves)
    where
      go : Way m f w (g w) → Rising m c g
      go (strays j x y r) = absurd (omega arith)
      go (accepts u x y z i r) = accepts_rises u x y z r
      go (proposes u x n y z i r) = courts u y z r
      go (abandons j x y z t r) = absurd (omega arith)
      go (waits j x y z r) = absurd (omega arith)
      go (mated j x y z r) = absurd (omega arith)
      go (alone x y z r) = absurd (z u a h)

  pub free_stays : (v u : ℕ) → Among u (ports m v) → Rising m c f ⊎ ((f v ≡ 0) × (f u ≡ 0)) → Rising m c g ⊎ ((g v ≡ 0) × (g u ≡ 0))
  free_stays v u a (inl r) = inl (rising_stays r)
  free_stays v u a (inr t) = go (cases_eq v w) (cases_eq u w)
    where
      go : Decided (v ≡ w) → Decided (u ≡ w) → Rising m c g ⊎ ((g v ≡ 0) × (g u ≡ 0))
      go (inl e) d = inl (free_turn u (subst (λ z. Among u (ports m z)) e a) (subst (λ z. f z ≡ 0) e t.0) t.1)
      go (inr e) (inl d) = inl (free_turn v (subst (λ z. Among v (ports m z)) d (both m drawn u v a)) (subst (λ z. f z ≡ 0) d t.1) t.0)
      go (inr e) (inr d) = inr (moves.there v e ∙ t.0, moves.there u d ∙ t.1)
