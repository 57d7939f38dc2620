-- A list in which each of another's elements stands, the other's all different, is at least as long.
use Rattle.std.proofs.Common.{◌≡◌, ℕ, zero, suc, ◌<◌, ◌≤◌, List, [], ◌∷◌, length, sym, refl, ap, ◌∙◌, subst, inl, inr, arith}
use Rattle.std.proofs.lemmas.Bool.{cases_eq}
use Rattle.lists.specs.Members.{Among, Once}

module _ {X : Type 0} where
  -- a list without one of its places
  pub without : (v : X) (xs : List X) → Among v xs → (ys : List X) × (length xs ≡ suc (length ys)) × ((u : X) → (u ≡ v → ⊥) → Among u xs → Among u ys)
  without v [] h = absurd h
  without v (x ∷ xs) (inl e) = (xs, refl, λ u d m. elim m [ inl a ↦ absurd (d (a ∙ sym e)) | inr b ↦ b ])
  without v (x ∷ xs) (inr h) = let t = without v xs h in (x ∷ t.0, ap suc t.1, λ u d m. elim m [ inl a ↦ inl a | inr b ↦ inr (t.2 u d b) ])

  pub once_length : (xs ys : List X) → Once xs → ((x : X) → Among x xs → Among x ys) → length xs ≤ length ys
  once_length [] ys o h = omega arith
  once_length (x ∷ xs) ys o h =
      let t = without x ys (h x (inl refl)) in
      let c = once_length xs t.0 o.1 (λ u m. t.2 u (λ e. o.0 (subst (λ z. Among z xs) e m)) (h u (inr m))) in
      omega (arith, t.1)

-- the numbers below n, the greatest first, each under f
abbrev pub values : {X : Type 0} → (ℕ → X) → ℕ → List X
values f zero = []
values f (suc n) = f n ∷ values f n

pub length_values : {X : Type 0} (f : ℕ → X) (n : ℕ) → length (values f n) ≡ n
length_values f zero = refl
length_values f (suc n) = ap suc (length_values f n)

pub among_values : {X : Type 0} (f : ℕ → X) (n u : ℕ) → u < n → Among (f u) (values f n)
among_values f zero u h = absurd (omega arith)
among_values f (suc n) u h = elim (cases_eq u n) [ inl e ↦ inl (ap f e) | inr d ↦ inr (among_values f n u (omega arith)) ]

pub among_values_cases : {X : Type 0} (f : ℕ → X) (n : ℕ) (x : X) → Among x (values f n) → (u : ℕ) × (u < n) × (x ≡ f u)
among_values_cases f zero x h = absurd h
among_values_cases f (suc n) x (inl e) = (n, omega arith, e)
among_values_cases f (suc n) x (inr h) = let t = among_values_cases f n x h in (t.0, omega (arith, t.1), t.2)

-- a list of different numbers below n has at most n
pub once_below : (n : ℕ) (xs : List ℕ) → Once xs → ((x : ℕ) → Among x xs → x < n) → length xs ≤ n
once_below n xs o h = omega (arith, once_length xs (values (λ u. u) n) o (λ x m. among_values (λ u. u) n x (h x m)), length_values (λ u. u) n)

-- what has every number below m has at least m places
pub covers_length : (m : ℕ) (xs : List ℕ) → ((v : ℕ) → v < m → Among v xs) → m ≤ length xs
covers_length zero xs h = omega arith
covers_length (suc m) xs h =
    let t = without m xs (h m (omega arith)) in
    let c = covers_length m t.0 (λ v l. t.2 v (λ e. absurd (omega arith)) (h v (omega arith))) in
    omega (arith, t.1)

-- f takes every value below m at some number below n
pub onto : (m n : ℕ) (f : ℕ → ℕ) → ((e : ℕ) → e < m → (u : ℕ) × (u < n) × (f u ≡ e)) → m ≤ n
onto m n f h = omega (arith, covers_length m (values f n) (λ e l. let t = h e l in subst (λ z. Among z (values f n)) t.2 (among_values f n t.0 t.1)), length_values f n)
