-- What the rules of the matching make of a register.
use Rattle.std.proofs.Common.{◌≡◌, ℕ, zero, suc, ◌<◌, ◌≤◌, Bool, true, false, eqb, ◌⊎◌, List, Some, None, sym, refl, ap, ◌∙◌, subst, inl, inr, arith}
use Rattle.std.proofs.lemmas.Bool.{cases_order, eqb-true, eqb-false, eq-eqb}
use Rattle.std.proofs.lemmas.Bool.Decides.{eqb_tells}
use Rattle.lists.specs.Members.{Among}
use Rattle.graph.specs.Model.{Model, ports, Drawn}
use Rattle.graph.proofs.Drawn.{inside}
use Rattle.protocol.specs.First.{mem, first, IsFirst}
use Rattle.protocol.specs.Matching.{Rule, M0, M1, M2, M3, Stays, place, Asks, Fits, Gives, renewed, new_register, RuleFits}
use Rattle.protocol.proofs.FirstLaws.{mem_tells, first_cases, first_some, first_exists, is_first_among}

-- the ways in which a turn of v makes its register x: the rules M0 to M3, and three ways to stay
pub data Way (m : Model) (f : ℕ → ℕ) (v x : ℕ) : Type 0 where
  strays : (j : ℕ) → f v ≡ suc j → (Among j (ports m v) → ⊥) → x ≡ 0 → Way m f v x
  accepts : (u : ℕ) → f v ≡ 0 → Among u (ports m v) → f u ≡ suc v → IsFirst (λ w. eqb (f w) (suc v)) (ports m v) u → x ≡ suc u → Way m f v x
  proposes : (u : ℕ) → f v ≡ 0 → ((w : ℕ) → Among w (ports m v) → f w ≡ suc v → ⊥) → Among u (ports m v) → f u ≡ 0 → IsFirst (λ w. eqb (f w) 0) (ports m v) u → x ≡ suc u → Way m f v x
  abandons : (j : ℕ) → f v ≡ suc j → Among j (ports m v) → (f j ≡ 0 → ⊥) → (f j ≡ suc v → ⊥) → x ≡ 0 → Way m f v x
  waits : (j : ℕ) → f v ≡ suc j → Among j (ports m v) → f j ≡ 0 → x ≡ suc j → Way m f v x
  mated : (j : ℕ) → f v ≡ suc j → Among j (ports m v) → f j ≡ suc v → x ≡ suc j → Way m f v x
  alone : f v ≡ 0 → ((u : ℕ) → Among u (ports m v) → f u ≡ suc v → ⊥) → ((u : ℕ) → Among u (ports m v) → f u ≡ 0 → ⊥) → x ≡ 0 → Way m f v x

-- a test with what it tells
abbrev pub Tells : Bool → Type 0 → Type 0
Tells b P = ((b ≡ true) × P) ⊎ ((b ≡ false) × (P → ⊥))

-- the first of a list whose register is a, or that there is none
abbrev FirstWith : (ℕ → ℕ) → ℕ → List ℕ → Type 0
FirstWith f a xs = ((u : ℕ) × Among u xs × (f u ≡ a) × (first (λ w. eqb (f w) a) xs ≡ Some u)) ⊎ ((first (λ w. eqb (f w) a) xs ≡ None) × ((u : ℕ) → Among u xs → f u ≡ a → ⊥))

first_with : (f : ℕ → ℕ) (a : ℕ) (xs : List ℕ) → FirstWith f a xs
first_with f a xs = elim (first_cases (λ w. eqb (f w) a) xs) [
  | inl t ↦ inl (t.0, t.1, eqb-true (f t.0) a t.2, t.3)
  | inr t ↦ inr (t.0, λ u h. eqb-false (f u) a (t.1 u h))
]

module _ (m : Model) (f : ℕ → ℕ) (v : ℕ) where
  way_at : (x : ℕ) → f v ≡ x → Way m f v (renewed m f v x)
  way_at zero e = go (first_with f (suc v) (ports m v)) (first_with f 0 (ports m v))
    where
      go : FirstWith f (suc v) (ports m v) → FirstWith f 0 (ports m v) → Way m f v (renewed m f v zero)
      go (inl a) b = accepts a.0 e a.1 a.2 (first_some (λ u. eqb (f u) (suc v)) (ports m v) a.0 a.3) (rw a.3)
      go (inr a) (inl b) = proposes b.0 e a.1 b.1 b.2 (first_some (λ u. eqb (f u) 0) (ports m v) b.0 b.3) (rw (a.0, b.3))
      go (inr a) (inr b) = alone e a.1 b.1 (rw (a.0, b.0))
  way_at (suc j) e = go (mem_tells j (ports m v)) (eqb_tells (f j) 0) (eqb_tells (f j) (suc v))
    where
      go : Tells (mem j (ports m v)) (Among j (ports m v)) → Tells (eqb (f j) 0) (f j ≡ 0) → Tells (eqb (f j) (suc v)) (f j ≡ suc v) → Way m f v (renewed m f v (suc j))
      go (inr a) b c = strays j e a.1 (rw a.0)
      go (inl a) (inl b) c = waits j e a.1 b.1 (rw (a.0, b.0))
      go (inl a) (inr b) (inl c) = mated j e a.1 c.1 (rw (a.0, b.0, c.0))
      go (inl a) (inr b) (inr c) = abandons j e a.1 b.1 c.1 (rw (a.0, b.0, c.0))

  pub way : Way m f v (new_register m f v)
  way = way_at (f v) refl

  -- a neighbour that names none, or that names v, stays named
  pub new_holds : (j : ℕ) → f v ≡ suc j → Among j (ports m v) → (f j ≡ 0) ⊎ (f j ≡ suc v) → new_register m f v ≡ suc j
  new_holds j e a h = go way
    where
      same : (i : ℕ) → f v ≡ suc i → j ≡ i
      same i q = omega arith

      go : Way m f v (new_register m f v) → new_register m f v ≡ suc j
      go (strays i x y z) = absurd (y (subst (λ t. Among t (ports m v)) (same i x) a))
      go (accepts u x y z i r) = absurd (omega arith)
      go (proposes u x k y z i r) = absurd (omega arith)
      go (abandons i x y z t r) = absurd (elim h [ inl p ↦ z (subst (λ t. f t ≡ 0) (same i x) p) | inr p ↦ t (subst (λ t. f t ≡ suc v) (same i x) p) ])
      go (waits i x y z r) = omega arith
      go (mated i x y z r) = omega arith
      go (alone x y z r) = absurd (omega arith)

  -- where a neighbour names v, v names one that does
  pub new_accepts : (u : ℕ) → f v ≡ 0 → Among u (ports m v) → f u ≡ suc v → (w : ℕ) × Among w (ports m v) × (f w ≡ suc v) × (new_register m f v ≡ suc w)
  new_accepts u e a h =
      let t = first_exists (λ u. eqb (f u) (suc v)) (ports m v) u a (eq-eqb (f u) (suc v) h) in
      let r : renewed m f v zero ≡ suc t.0 = rw t.1 in
      (t.0, is_first_among (λ u. eqb (f u) (suc v)) (ports m v) t.0 t.2, eqb-true (f t.0) (suc v) t.2.passes, ap (renewed m f v) e ∙ r)

  -- a new register is 0 or names a neighbour
  pub new_near : (x : ℕ) → Way m f v x → (x ≡ 0) ⊎ ((u : ℕ) × Among u (ports m v) × (x ≡ suc u))
  new_near x (strays j e a r) = inl r
  new_near x (accepts u e a h i r) = inr (u, a, r)
  new_near x (proposes u e n a h i r) = inr (u, a, r)
  new_near x (abandons j e a h k r) = inl r
  new_near x (waits j e a h r) = inr (j, a, r)
  new_near x (mated j e a h r) = inr (j, a, r)
  new_near x (alone e n k r) = inl r

  pub new_low : Drawn m → new_register m f v ≤ 256
  new_low drawn = elim (new_near (new_register m f v) way) [ inl e ↦ omega arith | inr t ↦ omega (arith, t.2, (inside m drawn t.0 v t.1).1, drawn.limit) ]

  -- what no earlier rule gets is said of each in turn
  earlier : (k : ℕ) → k ≤ 4 → (0 < k → Asks m f v M0 → ⊥) → (1 < k → Asks m f v M1 → ⊥) → (2 < k → Asks m f v M2 → ⊥) → (3 < k → Asks m f v M3 → ⊥) → (q : Rule) → place q < k → Asks m f v q → ⊥
  earlier k l a b c d M0 h = a h
  earlier k l a b c d M1 h = b h
  earlier k l a b c d M2 h = c h
  earlier k l a b c d M3 h = d h
  earlier k l a b c d Stays h = absurd (omega arith)

  named_near : (j : ℕ) → f v ≡ suc j → Among j (ports m v) → Asks m f v M0 → ⊥
  named_near j e a t = t.2 (subst (λ z. Among z (ports m v)) (omega (arith, t.1)) a)

  fitting : (x : ℕ) → Way m f v x → (r : Rule) × Fits m f v r × Gives m f v r x
  fitting x (strays j e a r) = (M0, ((j, e, a), λ q l. absurd (omega arith)), r)
  fitting x (accepts u e a h i r) = (M1, ((e, u, a, h), earlier 1 (omega arith) (λ _ t. omega (arith, t.1)) (λ l. absurd (omega arith)) (λ l. absurd (omega arith)) (λ l. absurd (omega arith))), (u, i, r))
  fitting x (proposes u e n a h i r) = (M2, ((e, u, a, h), earlier 2 (omega arith) (λ _ t. omega (arith, t.1)) (λ _ t. n t.1 t.2 t.3) (λ l. absurd (omega arith)) (λ l. absurd (omega arith))), (u, i, r))
  fitting x (abandons j e a h k r) = (M3, ((j, e, h, k), earlier 3 (omega arith) (λ _ t. named_near j e a t) (λ _ t. omega (arith, t.0)) (λ _ t. omega (arith, t.0)) (λ l. absurd (omega arith))), r)
  fitting x (waits j e a h r) = (Stays, (tt, earlier 4 (omega arith) (λ _ t. named_near j e a t) (λ _ t. omega (arith, t.0)) (λ _ t. omega (arith, t.0)) (λ _ t. t.2 (subst (λ z. f z ≡ 0) (omega (arith, t.1)) h))), r ∙ sym e)
  fitting x (mated j e a h r) = (Stays, (tt, earlier 4 (omega arith) (λ _ t. named_near j e a t) (λ _ t. omega (arith, t.0)) (λ _ t. omega (arith, t.0)) (λ _ t. t.3 (subst (λ z. f z ≡ suc v) (omega (arith, t.1)) h))), r ∙ sym e)
  fitting x (alone e n k r) = (Stays, (tt, earlier 4 (omega arith) (λ _ t. omega (arith, t.1)) (λ _ t. n t.1 t.2 t.3) (λ _ t. k t.1 t.2 t.3) (λ _ t. omega (arith, t.1))), r ∙ sym e)

rule_at : ℕ → Rule
rule_at zero = M0
rule_at (suc zero) = M1
rule_at (suc (suc zero)) = M2
rule_at (suc (suc (suc zero))) = M3
rule_at (suc (suc (suc (suc k)))) = Stays

rule_at_place : (r : Rule) → rule_at (place r) ≡ r
unfolding rule_at
rule_at_place M0 = refl
rule_at_place M1 = refl
rule_at_place M2 = refl
rule_at_place M3 = refl
rule_at_place Stays = refl

pub fits_once : (m : Model) (f : ℕ → ℕ) (v : ℕ) (q r : Rule) → Fits m f v q → Fits m f v r → q ≡ r
fits_once m f v q r a b = elim (cases_order (place q) (place r)) [ inl e ↦ sym (rule_at_place q) ∙ (ap rule_at e ∙ rule_at_place r) | inr t ↦ elim t [ inl l ↦ absurd (b.1 q l a.0) | inr l ↦ absurd (a.1 r l b.0) ] ]

pub rule_fits : RuleFits
rule_fits m f v = let t = fitting m f v (new_register m f v) (way m f v) in (t.0, t.1, (λ q h. fits_once m f v q t.0 h t.1), t.2)
