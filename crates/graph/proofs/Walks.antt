-- Walks to the root, and how many links they have.
use Rattle.std.proofs.Common.{◌≡◌, ℕ, zero, suc, ◌<◌, ◌≤◌, Bool, true, false, ◌⊎◌, List, [], ◌∷◌, sym, refl, ◌∙◌, subst, inl, inr, arith}
use Rattle.std.proofs.lemmas.Bool.{cases_eq, cases_Bool, eq-eqb, eqb-true, or_cases, or_left, or_right, both_ways}
use Rattle.lists.specs.Members.{Among}
use Rattle.lists.proofs.Decisions.{Decided, any?, least_of}
use Rattle.graph.specs.Model.{Model, Drawn, Distance, ports, Walk, any, within}
use Rattle.graph.proofs.Drawn.{inside}

pub any_from : (p : ℕ → Bool) (u : ℕ) (xs : List ℕ) → Among u xs → p u ≡ true → any p xs ≡ true
any_from p u [] h e = absurd h
any_from p u (x ∷ xs) (inl q) e = or_left (p x) (any p xs) (subst (λ z. p z ≡ true) q e)
any_from p u (x ∷ xs) (inr h) e = or_right (p x) (any p xs) (any_from p u xs h e)

pub any_cases : (p : ℕ → Bool) (xs : List ℕ) → any p xs ≡ true → (u : ℕ) × Among u xs × (p u ≡ true)
any_cases p [] e = absurd (both_ways false refl e)
any_cases p (x ∷ xs) e = go (or_cases (p x) (any p xs) e) (λ q. any_cases p xs q)
  where
    go : (p x ≡ true) ⊎ (any p xs ≡ true) → (any p xs ≡ true → (u : ℕ) × Among u xs × (p u ≡ true)) → (u : ℕ) × Among u (x ∷ xs) × (p u ≡ true)
    go (inl a) r = (x, inl refl, a)
    go (inr b) r = let t = r b in (t.0, inr t.1, t.2)

pub walk? : (m : Model) (k v : ℕ) → Decided (Walk m k v)
walk? m zero v = cases_eq v m.root
walk? m (suc k) v = any? (Walk m k) (λ u. walk? m k u) (ports m v)

module _ (m : Model) where
  pub within_root : (k : ℕ) → within m k m.root ≡ true
  unfolding within
  within_root zero = eq-eqb m.root m.root refl
  within_root (suc k) = or_left (within m k m.root) (any (within m k) (ports m m.root)) (within_root k)

  pub within_zero : (v : ℕ) → within m 0 v ≡ true → v ≡ m.root
  unfolding within
  within_zero v e = eqb-true v m.root e

  -- within one link more: already, or by a neighbour
  pub within_step : (k v : ℕ) → within m (suc k) v ≡ true → (within m k v ≡ true) ⊎ ((u : ℕ) × Among u (ports m v) × (within m k u ≡ true))
  unfolding within
  within_step k v e = elim (or_cases (within m k v) (any (within m k) (ports m v)) e) [ inl a ↦ inl a | inr b ↦ inr (any_cases (within m k) (ports m v) b) ]

  pub within_more : (k v : ℕ) → within m k v ≡ true → within m (suc k) v ≡ true
  unfolding within
  within_more k v e = or_left (within m k v) (any (within m k) (ports m v)) e

  pub within_next : (k u v : ℕ) → Among u (ports m v) → within m k u ≡ true → within m (suc k) v ≡ true
  unfolding within
  within_next k u v h e = or_right (within m k v) (any (within m k) (ports m v)) (any_from (within m k) u (ports m v) h e)

  pub within_mono : (j k v : ℕ) → j ≤ k → within m j v ≡ true → within m k v ≡ true
  within_mono j zero v l e = let q : j ≡ 0 = omega arith in subst (λ z. within m z v ≡ true) q e
  within_mono j (suc k) v l e = elim (cases_eq j (suc k)) [ inl q ↦ subst (λ z. within m z v ≡ true) q e | inr d ↦ within_more k v (within_mono j k v (omega arith) e) ]

  -- not within k, then not within less
  pub within_not : (j k v : ℕ) → j ≤ k → within m k v ≡ false → within m j v ≡ false
  within_not j k v l e = elim (cases_Bool (within m j v)) [ inl t ↦ absurd (both_ways (within m k v) e (within_mono j k v l t)) | inr f ↦ f ]

  pub walk_within : (k v : ℕ) → Walk m k v → within m k v ≡ true
  walk_within zero v e = subst (λ z. within m 0 z ≡ true) (sym e) (within_root 0)
  walk_within (suc k) v t = within_next k t.0 v t.1 (walk_within k t.0 t.2)

  pub within_walk : (k v : ℕ) → within m k v ≡ true → (j : ℕ) × (j ≤ k) × Walk m j v
  within_walk zero v e = (0, omega arith, within_zero v e)
  within_walk (suc k) v e = go (within_step k v e) (λ u q. within_walk k u q)
    where
      go : (within m k v ≡ true) ⊎ ((u : ℕ) × Among u (ports m v) × (within m k u ≡ true)) → ((u : ℕ) → within m k u ≡ true → (j : ℕ) × (j ≤ k) × Walk m j u) → (j : ℕ) × (j ≤ suc k) × Walk m j v
      go (inl a) r = let t = r v a in (t.0, omega (arith, t.1), t.2)
      go (inr s) r = let t = r s.0 s.2 in (suc t.0, omega (arith, t.1), (s.0, s.1, t.2))

  -- the shortest walk, from any
  pub shortest : (k v : ℕ) → Walk m k v → (d : ℕ) × (d ≤ k) × Distance m v d
  shortest k v w =
      let t = least_of (λ j. Walk m j v) (λ j. walk? m j v) k w in
      (t.0, t.2 k w, record { way = t.1; least = t.2 })

  pub distance_unique : (v d e : ℕ) → Distance m v d → Distance m v e → d ≡ e
  distance_unique v d e a b = omega (arith, a.least e b.way, b.least d a.way)

  pub distance_within : (v d k : ℕ) → Distance m v d → d ≤ k → within m k v ≡ true
  distance_within v d k t l = within_mono d k v l (walk_within d v t.way)

  pub within_distance : (v d k : ℕ) → Distance m v d → within m k v ≡ true → d ≤ k
  within_distance v d k t e = let w = within_walk k v e in omega (arith, t.least w.0 w.2, w.1)

  pub distance_not_within : (v d k : ℕ) → Distance m v d → k < d → within m k v ≡ false
  distance_not_within v d k t l = elim (cases_Bool (within m k v)) [ inl e ↦ absurd (let q = within_distance v d k t e in omega arith) | inr f ↦ f ]

  -- the second node of a shortest walk is one link nearer
  pub distance_step : (v d : ℕ) → Distance m v (suc d) → (u : ℕ) × Among u (ports m v) × Distance m u d
  distance_step v d t =
      let w = t.way in
      (w.0, w.1, record { way = w.2; least = λ e q. let z = t.least (suc e) (w.0, w.1, q) in omega arith })

  module _ (drawn : Drawn m) where
    pub walk_inside : (k v : ℕ) → Walk m k v → v < m.nodes
    walk_inside zero v e = let r = drawn.rooted in omega arith
    walk_inside (suc k) v t = (inside m drawn t.0 v t.1).0

    pub within_inside : (k v : ℕ) → within m k v ≡ true → v < m.nodes
    within_inside k v e = let t = within_walk k v e in walk_inside t.0 v t.2

    -- where one link more reaches no other node, no number of links does
    pub stuck : (k : ℕ) → ((v : ℕ) → v < m.nodes → within m (suc k) v ≡ true → within m k v ≡ false → ⊥) → (j v : ℕ) → k ≤ j → v < m.nodes → within m j v ≡ within m k v
    stuck k h j v l i = elim (cases_Bool (within m k v)) [
      | inl e ↦ within_mono k j v l e ∙ sym e
      | inr f ↦ elim (cases_Bool (within m j v)) [ inl e ↦ absurd (both_ways (within m k v) f (falls j v e)) | inr g ↦ g ∙ sym f ]
    ]
      where
        ends : (v : ℕ) → within m (suc k) v ≡ true → within m k v ≡ true
        ends v e = elim (cases_Bool (within m k v)) [ inl t ↦ t | inr f ↦ absurd (h v (within_inside (suc k) v e) e f) ]

        falls : (j v : ℕ) → within m j v ≡ true → within m k v ≡ true
        falls zero v e = within_mono 0 k v (omega arith) e
        falls (suc j) v e = elim (within_step j v e) [ inl a ↦ falls j v a | inr t ↦ ends v (within_next k t.0 v t.1 (falls j t.0 t.2)) ]
