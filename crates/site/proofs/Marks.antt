-- What a node has after some levels of the search, and what one level more makes of it.
use Rattle.std.proofs.Common.{◌≡◌, ℕ, suc, ◌+◌, ◌-◌, ◌<◌, ◌≤◌, Bool, true, false, not, ◌&&◌, None, Some, is_none, ap, ◌∙◌, inl, inr, arith, eq-eqb, ne_eqb}
use Rattle.std.proofs.lemmas.Bool.{cases_Bool, cond-true, cond-false}
use Rattle.std.proofs.lemmas.Bool.Decides.{nat_tests}
use Rattle.graph.specs.Model.{Model, Drawn, Distance, ports, any, within, misses, distance}
use Rattle.graph.proofs.Walks.{distance_within, shortest, stuck, within_more, within_walk}
use Rattle.graph.proofs.Distances.{first_level_is, misses_are}
use Rattle.site.specs.Levels.{at_most, mark}

module _ (m : Model) where
  -- a node within k links has a distance of at most k
  near : (k v : ℕ) → within m k v ≡ true → (d : ℕ) × (d ≤ k) × Distance m v d
  near k v e = let w = within_walk m k v e in let s = shortest m w.0 v w.2 in (s.0, omega (arith, s.1, w.1), s.2)

  mark_in : (k v : ℕ) → within m k v ≡ true → mark m k v ≡ Some (misses m v k)
  unfolding mark
  mark_in k v e = cond-true (within m k v) (Some (misses m v k)) None e

  mark_out : (k v : ℕ) → within m k v ≡ false → mark m k v ≡ None
  unfolding mark
  mark_out k v e = cond-false (within m k v) (Some (misses m v k)) None e

  mark_is : (k v d : ℕ) → Distance m v d → d ≤ k → mark m k v ≡ Some d
  mark_is k v d t l = mark_in k v (distance_within m v d k t l) ∙ ap (λ (n : ℕ). Some n) (misses_are m v d k t l)

  -- a node has a distance once it is reached
  pub mark_none : (k v : ℕ) → is_none (mark m k v) ≡ not (within m k v)
  mark_none k v = grind (arith, cases_Bool (within m k v), mark_in k v, mark_out k v)

  pub mark_reached : (k v d : ℕ) → mark m k v ≡ Some d → within m k v ≡ true
  mark_reached k v d e = grind (arith, cases_Bool (within m k v), mark_out k v)

  -- a distance of at most k, after this level or the next, says that the node is within k
  pub mark_tells : (k v : ℕ) → at_most k (mark m k v) ≡ within m k v
  mark_tells k v = elim (cases_Bool (within m k v)) [
    | inl t ↦ let d = near k v t in grind (arith, nat_tests, mark_is k v d.0 d.2 d.1)
    | inr f ↦ grind (arith, mark_out k v f)
  ]

  mark_old : (j k v : ℕ) → k ≤ j → within m k v ≡ true → mark m j v ≡ mark m k v
  mark_old j k v l t = let d = near k v t in let e = mark_is j v d.0 d.2 (omega (arith, d.1)) in let f = mark_is k v d.0 d.2 d.1 in cc

  mark_new : (k v : ℕ) → within m k v ≡ false → within m (suc k) v ≡ true → mark m (suc k) v ≡ Some (k + 1)
  mark_new k v f t =
      let before : within m (suc k - 1) v ≡ false = ap (λ (j : ℕ). within m j v) (omega arith) ∙ f in
      mark_is (suc k) v (suc k) (first_level_is m (suc k) v t (inr before)) (omega arith) ∙ ap (λ (n : ℕ). Some n) (omega arith)

  pub mark_tells_next : (k v : ℕ) → at_most k (mark m (suc k) v) ≡ within m k v
  mark_tells_next k v =
      grind (arith, nat_tests, cases_Bool (within m k v), cases_Bool (within m (suc k) v), mark_old (suc k) k v, mark_tells k v, mark_new k v, mark_out (suc k) v)

  -- whether the next level adds a node
  abbrev pub adds : ℕ → ℕ → Bool
  adds k v = not (within m k v) && any (within m k) (ports m v)

  -- one that is not reached yet is within the next level if it is added
  next_level : (k v : ℕ) → within m k v ≡ false → within m (suc k) v ≡ adds k v
  unfolding within
  next_level k v f = grind (arith, nat_tests, f)

  pub level_adds : (k v : ℕ) → adds k v ≡ true → mark m (suc k) v ≡ Some (k + 1)
  level_adds k v e = grind (arith, nat_tests, cases_Bool (within m k v), mark_new k v, next_level k v)

  pub level_leaves : (k v : ℕ) → adds k v ≡ false → (mark m (suc k) v ≡ mark m k v) × (within m (suc k) v ≡ within m k v)
  level_leaves k v e = grind (arith, nat_tests, cases_Bool (within m k v), mark_old (suc k) k v, within_more m k v, mark_out (suc k) v, mark_out k v, next_level k v)

  -- at the start the root alone is reached
  pub mark_start : (v : ℕ) → (v ≡ m.root → mark m 0 v ≡ Some 0) × ((v ≡ m.root → ⊥) → mark m 0 v ≡ None)
  unfolding within misses
  mark_start v = (λ e. mark_in 0 v (eq-eqb v m.root e), λ n. mark_out 0 v (ne_eqb v m.root n))

  -- after as many levels as there are nodes, a node that is reached has its distance
  pub mark_final : (v : ℕ) → within m m.nodes v ≡ true → mark m m.nodes v ≡ Some (distance m v)
  unfolding distance
  mark_final v e = mark_in m.nodes v e

  -- a level that added no node was the last
  pub mark_stuck : Drawn m → (k : ℕ) → k < m.nodes → ((v : ℕ) → v < m.nodes → within m (suc k) v ≡ within m k v) → (v : ℕ) → v < m.nodes → mark m (suc k) v ≡ mark m m.nodes v
  mark_stuck drawn k l h v i =
      let w = stuck m drawn k (λ u j t f. let e = h u j in cc) m.nodes v (omega arith) i in
      grind (arith, cases_Bool (within m k v), h v i, mark_old (suc k) k v, mark_old m.nodes k v, mark_out (suc k) v, mark_out m.nodes v)
