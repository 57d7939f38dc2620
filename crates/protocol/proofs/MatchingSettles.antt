-- Three rounds make a new pair or reach rest, and one more round cleans up.
use Rattle.std.proofs.Common.{◌≡◌, ℕ, zero, suc, ◌+◌, ◌*◌, ◌/◌, ◌<◌, ◌≤◌, ◌⊎◌, List, length, set, sym, ap, ◌∙◌, subst, inl, inr, arith, length-set}
use Rattle.std.proofs.lemmas.List.{get_or-set_same, get_or-set_other, set-get_or}
use Rattle.lists.specs.Members.{Among}
use Rattle.lists.proofs.Decisions.{either_all}
use Rattle.graph.specs.Model.{Model, ports, Drawn}
use Rattle.graph.proofs.Drawn.{inside, apart}
use Rattle.rounds.specs.Runs.{run, Kept, From}
use Rattle.rounds.proofs.RunsLaws.{kept_run, compose, one_round}
use Rattle.protocol.specs.Matching.{new_register, register, turn, Rest}
use Rattle.protocol.proofs.MatchingPairs.{Paired, pairs, Courted, Moves, free_unpaired, suitor_unpaired, pairs_most, pairs_two_free, pairs_grow}
use Rattle.protocol.proofs.MatchingRising.{Rising, Calm, both_free?, calm_rests, courted_turn, more_stays, courted_on, rising_stays, calm_turn, calm_stays, free_turn, free_stays}

-- as many registers as nodes, of which c at least are paired
abbrev AtLeast : Model → ℕ → List ℕ → Type 0
AtLeast m c xs = (length xs ≡ m.nodes) × (c ≤ pairs m (register xs))

-- and a new pair is on its way
abbrev Toward : Model → ℕ → List ℕ → Type 0
Toward m c xs = AtLeast m c xs × Rising m c (register xs)

-- or all are calm
abbrev TowardOrCalm : Model → ℕ → List ℕ → Type 0
TowardOrCalm m c xs = AtLeast m c xs × (Rising m c (register xs) ⊎ ((v : ℕ) → v < m.nodes → Calm m (register xs) v))

-- or v and u name none
abbrev TowardOrFree : Model → ℕ → ℕ → ℕ → List ℕ → Type 0
TowardOrFree m c v u xs = AtLeast m c xs × (Rising m c (register xs) ⊎ ((register xs v ≡ 0) × (register xs u ≡ 0)))

-- the new pair is there, or v is courted
abbrev Courting : Model → ℕ → ℕ → List ℕ → Type 0
Courting m c v xs = AtLeast m c xs × ((c + 2 ≤ pairs m (register xs)) ⊎ Courted m (register xs) v)

-- as many registers as nodes, and at rest
abbrev Resting : Model → List ℕ → Type 0
Resting m xs = (length xs ≡ m.nodes) × Rest m xs

pub rest_still : (m : Model) (xs : List ℕ) → Rest m xs → (v : ℕ) → v < m.nodes → turn m v xs ≡ xs
rest_still m xs r v l = ap (λ z. set xs v z) (r v l) ∙ set-get_or xs v 0

module _ (m : Model) (drawn : Drawn m) where
  abbrev Leads : (List ℕ → Type 0) → ℕ → (List ℕ → Type 0) → Type 0
  Leads P b Q = From (turn m) m.nodes P b Q

  turn_moves : (v : ℕ) (xs : List ℕ) → v < m.nodes → length xs ≡ m.nodes → Moves m v (register xs) (register (turn m v xs))
  turn_moves v xs l e = record { here = get_or-set_same xs v (new_register m (register xs) v) 0 (omega arith); there = λ u d. get_or-set_other xs v u (new_register m (register xs) v) 0 d }

  least_kept : (c : ℕ) → Kept (turn m) m.nodes (AtLeast m c)
  least_kept c v xs l b = (length-set xs v (new_register m (register xs) v) ∙ b.0, let t = pairs_grow m drawn v (register xs) (register (turn m v xs)) (turn_moves v xs l b.0) in omega (arith, b.1))

  rest_kept : Kept (turn m) m.nodes (Resting m)
  rest_kept v xs l r = subst (Resting m) (sym (rest_still m xs r.1 v l)) r

  rest_on : (b : ℕ) → Leads (Resting m) b (Resting m)
  rest_on b xs ts r bel k = kept_run (List ℕ) (turn m) (Resting m) m.nodes rest_kept ts xs bel r

  -- a round: a new pair is on its way, or all are calm
  round_calm : (c : ℕ) → Leads (AtLeast m c) 1 (TowardOrCalm m c)
  round_calm c xs ts b bel k = (
    kept_run (List ℕ) (turn m) (AtLeast m c) m.nodes (least_kept c) ts xs bel b,
    either_all (Rising m c (register (run (turn m) ts xs))) (Calm m (register (run (turn m) ts xs))) m.nodes (λ v l.
        one_round (List ℕ) (turn m) (AtLeast m c) (λ ys. Rising m c (register ys) ⊎ Calm m (register ys) v) m.nodes v l (least_kept c)
        (λ ys q. calm_turn m drawn c v (register ys) (register (turn m v ys)) l (turn_moves v ys l q.0) q.1)
        (λ u ys i q. (least_kept c u ys i q.0, calm_stays m drawn c u (register ys) (register (turn m u ys)) i (turn_moves u ys i q.0.0) q.0.1 v q.1))
        xs ts b bel k),
  )

  -- a round from a courted node: a new pair
  round_courted : (c v : ℕ) → v < m.nodes → Leads (Courting m c v) 1 (AtLeast m (c + 2))
  round_courted c v l = one_round (List ℕ) (turn m) (Courting m c v) (AtLeast m (c + 2)) m.nodes v l kept (λ ys p. paired ys p.0 p.1) (λ u ys i p. (kept u ys i p.0, least_kept (c + 2) u ys i p.1))
    where
      paired : (ys : List ℕ) → AtLeast m c ys → (c + 2 ≤ pairs m (register ys)) ⊎ Courted m (register ys) v → AtLeast m (c + 2) (turn m v ys)
      paired ys b (inl a) = least_kept (c + 2) v ys l (b.0, a)
      paired ys b (inr a) = ((least_kept c v ys l b).0, courted_turn m drawn c v (register ys) (register (turn m v ys)) l (turn_moves v ys l b.0) b.1 a)

      kept : Kept (turn m) m.nodes (Courting m c v)
      kept u ys i p = (
        least_kept c u ys i p.0,
        elim p.1 [
          | inl a ↦ inl (more_stays m drawn c u (register ys) (register (turn m u ys)) i (turn_moves u ys i p.0.0) p.0.1 a)
          | inr a ↦ courted_on m drawn c u (register ys) (register (turn m u ys)) i (turn_moves u ys i p.0.0) p.0.1 v a
        ],
      )

  round_rising : (c : ℕ) → Leads (Toward m c) 1 (AtLeast m (c + 2))
  round_rising c xs ts p bel k = elim p.1 [
    | inl a ↦ kept_run (List ℕ) (turn m) (AtLeast m (c + 2)) m.nodes (least_kept (c + 2)) ts xs bel (p.0.0, a)
    | inr a ↦ round_courted c a.0 a.1 xs ts (p.0, inr a.2) bel k
  ]

  -- a round from two neighbours that name none: a new pair is on its way
  round_free : (c v u : ℕ) → v < m.nodes → Among u (ports m v) → Leads (TowardOrFree m c v u) 1 (Toward m c)
  round_free c v u l a = one_round (List ℕ) (turn m) (TowardOrFree m c v u) (Toward m c) m.nodes v l kept (λ ys p. (least_kept c v ys l p.0, rises ys p.0 p.1)) (λ w ys i p. (kept w ys i p.0, after w ys i p.1))
    where
      kept : Kept (turn m) m.nodes (TowardOrFree m c v u)
      kept w ys i p = (least_kept c w ys i p.0, free_stays m drawn c w (register ys) (register (turn m w ys)) i (turn_moves w ys i p.0.0) p.0.1 v u a p.1)

      after : Kept (turn m) m.nodes (Toward m c)
      after w ys i p = (least_kept c w ys i p.0, rising_stays m drawn c w (register ys) (register (turn m w ys)) i (turn_moves w ys i p.0.0) p.0.1 p.1)

      rises : (ys : List ℕ) → AtLeast m c ys → Rising m c (register ys) ⊎ ((register ys v ≡ 0) × (register ys u ≡ 0)) → Rising m c (register (turn m v ys))
      rises ys b (inl r) = (after v ys l (b, r)).1
      rises ys b (inr t) = free_turn m drawn c v (register ys) (register (turn m v ys)) l (turn_moves v ys l b.0) b.1 u a t.0 t.1

  -- the second round: a new pair is on its way, or rest
  round_two : (c : ℕ) → Leads (TowardOrCalm m c) 1 (λ xs. Toward m c xs ⊎ Resting m xs)
  round_two c xs ts p bel k = go p.1
    where
      go : Rising m c (register xs) ⊎ ((v : ℕ) → v < m.nodes → Calm m (register xs) v) → Toward m c (run (turn m) ts xs) ⊎ Resting m (run (turn m) ts xs)
      go (inl h) = let t = round_rising c xs ts (p.0, h) bel k in inl ((t.0, omega (arith, t.1)), inl t.1)
      go (inr h) = elim (both_free? m (register xs)) [
        | inl a ↦ inl (round_free c a.0 a.2.1.0 a.1 a.2.1.1 xs ts (p.0, inr (a.2.0, a.2.1.2)) bel k)
        | inr n ↦ inr (rest_on 1 xs ts (p.0.0, calm_rests m drawn (register xs) h n) bel k)
      ]

  round_three : (c : ℕ) → Leads (λ xs. Toward m c xs ⊎ Resting m xs) 1 (λ xs. AtLeast m (c + 2) xs ⊎ Resting m xs)
  round_three c xs ts (inl h) bel k = inl (round_rising c xs ts h bel k)
  round_three c xs ts (inr r) bel k = inr (rest_on 1 xs ts r bel k)

  three_rounds : (c : ℕ) → Leads (λ xs. AtLeast m c xs ⊎ Resting m xs) 3 (λ xs. AtLeast m (c + 2) xs ⊎ Resting m xs)
  three_rounds c xs ts (inl b) bel k =
      compose (List ℕ) (turn m) (AtLeast m c) (λ ys. Toward m c ys ⊎ Resting m ys) (λ ys. AtLeast m (c + 2) ys ⊎ Resting m ys) m.nodes 2 1 drawn.some
      (compose (List ℕ) (turn m) (AtLeast m c) (TowardOrCalm m c) (λ ys. Toward m c ys ⊎ Resting m ys) m.nodes 1 1 drawn.some (round_calm c) (round_two c))
      (round_three c) xs ts b bel k
  three_rounds c xs ts (inr r) bel k = inr (rest_on 3 xs ts r bel k)

  stages : (j : ℕ) → Leads (λ xs. length xs ≡ m.nodes) (3 * j) (λ xs. AtLeast m (2 * j) xs ⊎ Resting m xs)
  stages zero = λ xs ts e bel k. inl (kept_run (List ℕ) (turn m) (AtLeast m 0) m.nodes (least_kept 0) ts xs bel (e, omega arith))
  stages (suc j) =
      let a : 3 * j + 3 ≡ 3 * suc j = omega arith in
      let b : 2 * j + 2 ≡ 2 * suc j = omega arith in
      subst (λ z. Leads (λ xs. length xs ≡ m.nodes) z (λ xs. AtLeast m (2 * suc j) xs ⊎ Resting m xs)) a
      (subst (λ z. Leads (λ xs. length xs ≡ m.nodes) (3 * j + 3) (λ xs. AtLeast m z xs ⊎ Resting m xs)) b
      (compose (List ℕ) (turn m) (λ xs. length xs ≡ m.nodes) (λ xs. AtLeast m (2 * j) xs ⊎ Resting m xs) (λ xs. AtLeast m (2 * j + 2) xs ⊎ Resting m xs) m.nodes (3 * j) 3 drawn.some (stages j) (three_rounds (2 * j))))

  -- no room for another pair
  full : (xs : List ℕ) → AtLeast m (2 * (m.nodes / 2)) xs → (v u : ℕ) → Among u (ports m v) → (Paired m (register xs) v → ⊥) → (Paired m (register xs) u → ⊥) → ⊥
  full xs b v u a x y =
      let i = inside m drawn u v a in
      let t = pairs_two_free m (register xs) v u (λ e. apart m drawn u v a (sym e)) i.0 i.1 x y in
      omega (arith, b.1)

  full_rests : (xs : List ℕ) → AtLeast m (2 * (m.nodes / 2)) xs → Rising m (2 * (m.nodes / 2)) (register xs) ⊎ ((v : ℕ) → v < m.nodes → Calm m (register xs) v) → Resting m xs
  full_rests xs b (inl (inl a)) = absurd (omega (arith, pairs_most m (register xs)))
  full_rests xs b (inl (inr a)) = absurd (full xs b a.0 a.2.1 a.2.2 (free_unpaired m (register xs) a.0 a.2.0) (suitor_unpaired m (register xs) a.0 a.2.1 a.2.0 a.2.3))
  full_rests xs b (inr h) = (b.0, calm_rests m drawn (register xs) h (λ t. full xs b t.0 t.2.1.0 t.2.1.1 (free_unpaired m (register xs) t.0 t.2.0) (free_unpaired m (register xs) t.2.1.0 t.2.1.2)))

  round_last : Leads (λ xs. AtLeast m (2 * (m.nodes / 2)) xs ⊎ Resting m xs) 1 (Resting m)
  round_last xs ts (inl b) bel k = let t = round_calm (2 * (m.nodes / 2)) xs ts b bel k in full_rests (run (turn m) ts xs) t.0 t.1
  round_last xs ts (inr r) bel k = rest_on 1 xs ts r bel k

  pub matching_settles : Leads (λ xs. length xs ≡ m.nodes) (3 * (m.nodes / 2) + 1) (Rest m)
  matching_settles xs ts e bel k =
      (compose (List ℕ) (turn m) (λ xs. length xs ≡ m.nodes) (λ xs. AtLeast m (2 * (m.nodes / 2)) xs ⊎ Resting m xs) (Resting m) m.nodes (3 * (m.nodes / 2)) 1 drawn.some (stages (m.nodes / 2)) round_last xs ts e bel k).1
