-- Waiting in a list of names that goes round and round.
use Rattle.std.specs.Prelude.{◌≡◌, ℕ, suc, ◌+◌, ◌%◌, ◌<◌, ◌≤◌, Bool, cond, List, [], ◌∷◌, ◌++◌, length, take, drop, ◌==◌, ◌≢◌, slice_index, slice_index_or}
use Rattle.std.proofs.Common.{sym, ap, subst, ◌∙◌, inl, inr, append_assoc, append-nil, mod-eq_of_lt, arith, eq-eqb, length-append, take-append-drop}
use Rattle.std.proofs.Math.Nat.{mod_self}
use Rattle.std.proofs.lemmas.List.{take_more, drop_more, drop_all, take_all}
use Rattle.std.proofs.lemmas.Bool.{cases_Bool, cases_lt, ne_eqb}
use Rattle.lists.specs.Members.{Among}
use Rattle.lists.proofs.Elements.{among_append_left, among_append_right, among_append_cases}
use Rattle.rounds.specs.Rounds.{Covers}
use Rattle.rounds.specs.Patience.{DueWithin}
use Rattle.daemon.specs.Scripts.{upcoming, wait}

wait_some : (v : ℕ) (xs : List ℕ) → 1 ≤ wait v xs
wait_some v [] = omega arith
wait_some v (x ∷ xs) = elim (cases_Bool (v == x)) [ inl e ↦ rw e (omega arith) | inr e ↦ rw e (omega arith) ]

-- one step further in the list waits at most one more
wait_cons : (v x : ℕ) (xs : List ℕ) → wait v (x ∷ xs) ≤ suc (wait v xs)
wait_cons v x xs = elim (cases_Bool (v == x)) [ inl e ↦ rw e (omega arith) | inr e ↦ rw e (omega arith) ]

wait_most : (v : ℕ) (xs : List ℕ) → Among v xs → wait v xs ≤ length xs
wait_most v [] h = absurd h
wait_most v (x ∷ xs) (inl e) = rw (eq-eqb v x e) (omega arith)
wait_most v (x ∷ xs) (inr h) = let a = wait_most v xs h in let b = wait_cons v x xs in omega arith

-- what comes after a name does not matter to it
wait_front : (v : ℕ) (xs ys : List ℕ) → Among v xs → wait v (xs ++ ys) ≡ wait v xs
wait_front v [] ys h = absurd h
wait_front v (x ∷ xs) ys (inl e) = rw (eq-eqb v x e)
wait_front v (x ∷ xs) ys (inr h) = ap (λ (k : ℕ). cond (v == x) 1 (suc k)) (wait_front v xs ys h)

among_upcoming : (v : ℕ) (names : List ℕ) (place : ℕ) → Among v names → Among v (upcoming names place)
among_upcoming v names place h =
    elim (among_append_cases v (take place names) (drop place names) (subst (Among v) (sym (take-append-drop place names)) h)) [
      | inl a ↦ among_append_right v (drop place names) (take place names) a
      | inr b ↦ among_append_left v (drop place names) (take place names) b
    ]

length_upcoming : (names : List ℕ) (place : ℕ) → length (upcoming names place) ≡ length names
length_upcoming names place =
    let a = length-append (drop place names) (take place names) in
    let b = length-append (take place names) (drop place names) in
    let e = ap length (take-append-drop place names) in
    omega arith

-- the names that come after the next
later : List ℕ → ℕ → List ℕ
later names place = drop (place + 1) names ++ take place names

upcoming_first : (names : List ℕ) (place : ℕ) → place < length names → upcoming names place ≡ slice_index names place ∷ later names place
unfolding later
upcoming_first names place l = ap (λ (z : List ℕ). z ++ take place names) (drop_more names place 0 l)

upcoming_next : (names : List ℕ) (place : ℕ) → place < length names → upcoming names ((place + 1) % length names) ≡ later names place ++ (slice_index names place ∷ [])
unfolding later
upcoming_next names place l =
    let x = slice_index_or names place 0 in
    let more = take_more names place 0 l in
    elim (cases_lt (place + 1) (length names)) [
      | inl k ↦
          ap (upcoming names) (mod-eq_of_lt k)
          ∙ ap (λ (z : List ℕ). drop (place + 1) names ++ z) more
          ∙ sym (append_assoc (drop (place + 1) names) (take place names) (x ∷ []))
      | inr k ↦
          let e : place + 1 ≡ length names = omega arith in
          ap (λ (m : ℕ). upcoming names (m % length names)) e
          ∙ ap (upcoming names) (mod_self (length names))
          ∙ append-nil names
          ∙ sym (take_all (place + 1) names k)
          ∙ more
          ∙ sym (ap (λ (z : List ℕ). (z ++ take place names) ++ (x ∷ [])) (drop_all (place + 1) names k))
    ]

pub waits_within : (n : ℕ) (names : List ℕ) (place : ℕ) → Covers n names → DueWithin n (length names) (λ v. wait v (upcoming names place))
waits_within n names place c v l =
    let a = wait_most v (upcoming names place) (among_upcoming v names place (c v l)) in
    let e = length_upcoming names place in
    (wait_some v (upcoming names place), omega arith)

-- a node that is not named waits less
pub waits_fall : (names : List ℕ) (place v : ℕ) → place < length names → Among v names → (v ≢ slice_index names place) → wait v (upcoming names ((place + 1) % length names)) < wait v (upcoming names place)
waits_fall names place v l h ne =
    let x = slice_index_or names place 0 in
    let rest = later names place in
    let first = upcoming_first names place l in
    let at : Among v (x ∷ rest) = subst (Among v) first (among_upcoming v names place h) in
    let in_rest : Among v rest = elim at [ inl e ↦ absurd (ne e) | inr m ↦ m ] in
    let before : wait v (upcoming names place) ≡ suc (wait v rest) = ap (wait v) first ∙ ap (λ (b : Bool). cond b 1 (suc (wait v rest))) (ne_eqb v x ne) in
    let after : wait v (upcoming names ((place + 1) % length names)) ≡ wait v rest = ap (wait v) (upcoming_next names place l) ∙ wait_front v rest (x ∷ []) in_rest in
    omega arith
