-- The computed distance of a node that has a walk to the root is the fewest links of one.
use Rattle.std.proofs.Common.{◌≡◌, ℕ, zero, suc, ◌+◌, ◌-◌, ◌<◌, ◌≤◌, true, false, cond, ◌⊎◌, sym, refl, ap, ◌∙◌, subst, inl, inr, arith}
use Rattle.std.proofs.lemmas.Bool.{cases_eq, cases_lt, cases_Bool, both_ways, cond-true, cond-false}
use Rattle.lists.proofs.Decisions.{Decided, all_below?}
use Rattle.lists.proofs.Pigeonhole.{onto}
use Rattle.graph.specs.Model.{Model, Drawn, Reached, Distance, Walk, within, misses, distance}
use Rattle.graph.proofs.Walks.{within_mono, walk_within, within_walk, shortest, distance_within, within_distance, distance_not_within, distance_step, walk_inside}

module _ (m : Model) where
  misses_in : (v k : ℕ) → within m k v ≡ true → misses m v (suc k) ≡ misses m v k
  unfolding misses
  misses_in v k e = let c : ◌≡◌ {A = ℕ} (cond (within m k v) 0 1) 0 = cond-true (within m k v) 0 1 e in omega arith

  misses_out : (v k : ℕ) → within m k v ≡ false → misses m v (suc k) ≡ suc (misses m v k)
  unfolding misses
  misses_out v k e = let c : ◌≡◌ {A = ℕ} (cond (within m k v) 0 1) 1 = cond-false (within m k v) 0 1 e in omega arith

  misses_none : (v : ℕ) → misses m v 0 ≡ 0
  unfolding misses
  misses_none v = refl

  -- every number below the distance is missed
  misses_all : (v d k : ℕ) → Distance m v d → k ≤ d → misses m v k ≡ k
  misses_all v d zero t l = misses_none v
  misses_all v d (suc k) t l = misses_out v k (distance_not_within m v d k t (omega arith)) ∙ ap suc (misses_all v d k t (omega arith))

  -- and no other
  pub misses_are : (v d k : ℕ) → Distance m v d → d ≤ k → misses m v k ≡ d
  misses_are v d zero t l = misses_all v d 0 t (omega arith) ∙ (omega arith)
  misses_are v d (suc k) t l = elim (cases_eq d (suc k)) [
    | inl e ↦ subst (λ z. misses m v z ≡ d) e (misses_all v d d t (omega arith))
    | inr n ↦ misses_in v k (distance_within m v d k t (omega arith)) ∙ misses_are v d k t (omega arith)
  ]

  pub distance_from : (v d : ℕ) → Distance m v d → d ≤ m.nodes → distance m v ≡ d
  unfolding distance
  distance_from v d t l = misses_are v d m.nodes t l

  -- the first number of links within which a node is reached
  pub first_level_is : (k v : ℕ) → within m k v ≡ true → (k ≡ 0) ⊎ (within m (k - 1) v ≡ false) → Distance m v k
  first_level_is k v e h =
      let w = within_walk m k v e in
      let s = shortest m w.0 v w.2 in
      let l : k ≤ s.0 = elim h [ inl z ↦ omega arith | inr f ↦ elim (cases_lt s.0 k) [ inl q ↦ absurd (both_ways (within m (k - 1) v) f (distance_within m v s.0 (k - 1) s.2 (omega arith))) | inr q ↦ q ] ] in
      let q : s.0 ≡ k = omega (arith, s.1, w.1) in
      subst (λ z. Distance m v z) q s.2

  pub first_level : (k v : ℕ) → within m k v ≡ true → (k ≡ 0) ⊎ (within m (k - 1) v ≡ false) → k ≤ m.nodes → distance m v ≡ k
  first_level k v e h l = distance_from v k (first_level_is k v e h) l

  module _ (drawn : Drawn m) where
    -- on the way to the root every smaller distance is met
    levels : (d v : ℕ) → Distance m v d → (e : ℕ) → e < suc d → (u : ℕ) × (u < m.nodes) × (misses m u (suc d) ≡ e)
    levels d v t e l = let s = down (d - e) d v t e (omega arith) in (s.0, s.1, misses_are s.0 e (suc d) s.2 (omega arith))
      where
        down : (j d v : ℕ) → Distance m v d → (e : ℕ) → e + j ≡ d → (u : ℕ) × (u < m.nodes) × Distance m u e
        down zero d v t e q = let p : d ≡ e = omega arith in (v, walk_inside m drawn d v t.way, subst (λ z. Distance m v z) p t)
        down (suc j) d v t e q =
            let p : d ≡ suc (e + j) = omega arith in
            let s = distance_step m v (e + j) (subst (λ z. Distance m v z) p t) in
            down j (e + j) s.0 s.2 e refl

    -- so a shortest walk has fewer links than there are nodes
    pub shortest_below : (v d : ℕ) → Distance m v d → d < m.nodes
    shortest_below v d t = onto (suc d) m.nodes (λ u. misses m u (suc d)) (levels d v t)

    -- a node with a walk to the root has its computed distance
    pub walk_distance : (k v : ℕ) → Walk m k v → Distance m v (distance m v)
    walk_distance k v w =
        let s = shortest m k v w in
        let b = shortest_below v s.0 s.2 in
        let e = distance_from v s.0 s.2 (omega arith) in
        subst (λ z. Distance m v z) (sym e) s.2

    pub walk_distance_below : (k v : ℕ) → Walk m k v → distance m v < m.nodes
    walk_distance_below k v w = shortest_below v (distance m v) (walk_distance k v w)

    -- where there is a walk, there is one of fewer links than there are nodes
    pub walk_short : (k v : ℕ) → Walk m k v → (j : ℕ) × (j < m.nodes) × Walk m j v
    walk_short k v w = (distance m v, walk_distance_below k v w, (walk_distance k v w).way)

    pub within_nodes : (k v : ℕ) → within m k v ≡ true → within m (m.nodes - 1) v ≡ true
    within_nodes k v e =
        let w = within_walk m k v e in
        let d = walk_distance w.0 v w.2 in
        let b = shortest_below v (distance m v) d in
        distance_within m v (distance m v) (m.nodes - 1) d (omega arith)

    -- within k links, where the distance is at most k
    pub within_reads : (k v : ℕ) → within m k v ≡ true → distance m v ≤ k
    within_reads k v e = let w = within_walk m k v e in within_distance m v (distance m v) k (walk_distance w.0 v w.2) e

    pub reads_within : (k j v : ℕ) → Walk m j v → distance m v ≤ k → within m k v ≡ true
    reads_within k j v w l = distance_within m v (distance m v) k (walk_distance j v w) l

    pub reached_within : Reached m → (v : ℕ) → v < m.nodes → within m (m.nodes - 1) v ≡ true
    reached_within h v l = let w = h v l in within_nodes w.0 v (walk_within m w.0 v w.1)

    pub reached_within_nodes : Reached m → (v : ℕ) → v < m.nodes → within m m.nodes v ≡ true
    reached_within_nodes h v l = within_mono m (m.nodes - 1) m.nodes v (omega arith) (reached_within h v l)

    pub within_reached : (k : ℕ) → ((v : ℕ) → v < m.nodes → within m k v ≡ true) → Reached m
    within_reached k h v l = let t = within_walk m k v (h v l) in (t.0, t.2)

    -- every node is reached, exactly where each is within as many links as there are nodes, or one less
    pub reached_by : (Reached m → (v : ℕ) → v < m.nodes → within m m.nodes v ≡ true) × (((v : ℕ) → v < m.nodes → within m m.nodes v ≡ true) → Reached m)
    reached_by = (reached_within_nodes, within_reached m.nodes)

    pub reached_by_less : (Reached m → (v : ℕ) → v < m.nodes → within m (m.nodes - 1) v ≡ true) × (((v : ℕ) → v < m.nodes → within m (m.nodes - 1) v ≡ true) → Reached m)
    reached_by_less = (reached_within, within_reached (m.nodes - 1))

    pub reached? : Decided (Reached m)
    reached? = elim (all_below? (λ v. within m m.nodes v ≡ true) (λ v. elim (cases_Bool (within m m.nodes v)) [ inl t ↦ inl t | inr f ↦ inr (λ e. both_ways (within m m.nodes v) f e) ]) m.nodes) [ inl a ↦ inl (within_reached m.nodes a) | inr n ↦ inr (λ h. n (reached_within_nodes h)) ]
