-- What chains over lists of numbers and over ranges tell.
use Rattle.std.proofs.Common.{◌≡◌, ℕ, zero, suc, ◌+◌, ◌<◌, ◌≤◌, ◌⊎◌, Bool, true, not, eqb, leb, List, refl, subst, map, [], ◌∷◌, ◌||◌, ap, ap₂, inl, inr, arith}
use Rattle.std.specs.Prelude.{Decides}
use Rattle.std.specs.List.{list_any, range_with_len}
use Rattle.std.proofs.lemmas.Bool.{cases_lt, eq-eqb, eqb-true, le-leb, leb-true, not-true, not_from_false, false_from_ne_true, both_ways}
use Rattle.std.proofs.lemmas.List.Folds.{Any-from_list_any, list_any_at}
use Rattle.lists.specs.Members.{Among}
use Rattle.lists.proofs.Elements.{among_get_d, among_place}

any_among : (p : ℕ → Bool) (xs : List ℕ) → Decides (list_any p xs) ((v : ℕ) × Among v xs × (p v ≡ true))
any_among p xs =
    (λ e. let a = Any-from_list_any p xs e in (a.1, subst (λ z. Among z xs) a.3 (among_get_d xs a.0 a.1 a.2), a.4), λ t. let i = among_place t.0 xs t.1 in list_any_at p xs i.0 0 i.1 (rw (i.2 0) t.2))

among_range : (v a n : ℕ) → Among v (range_with_len a n) → v < a + n
among_range v a zero h = absurd h
among_range v a (suc n) (inl e) = omega arith
among_range v a (suc n) (inr h) = let l = among_range v (a + 1) n h in omega arith

range_among : (v a n : ℕ) → a ≤ v → v < a + n → Among v (range_with_len a n)
range_among v a zero h l = absurd (omega arith)
range_among v a (suc n) h l = elim (same_or_more v a h) [ inl e ↦ inl e | inr m ↦ inr (range_among v (a + 1) n m (omega arith)) ]
  where
    same_or_more : (v a : ℕ) → a ≤ v → (v ≡ a) ⊎ (a + 1 ≤ v)
    same_or_more v a h = elim (cases_lt a v) [ inl l ↦ inr (omega arith) | inr l ↦ inl (omega arith) ]

-- a name that is none of n nodes
pub strays_decides : (n : ℕ) (names : List ℕ) → Decides (list_any (leb n) names) ((v : ℕ) × Among v names × (n ≤ v))
strays_decides n names = let d = any_among (leb n) names in (λ e. let t = d.0 e in (t.0, t.1, leb-true n t.0 t.2), λ t. d.1 (t.0, t.1, le-leb n t.0 t.2))

-- whether names contain one
contains_decides : (names : List ℕ) (v : ℕ) → Decides (list_any (λ y. eqb y v) names) (Among v names)
contains_decides names v =
    let d = any_among (λ y. eqb y v) names in
    (λ e. let t = d.0 e in subst (λ z. Among z names) (eqb-true t.0 v t.2) t.1, λ m. d.1 (v, m, eq-eqb v v refl))

-- a node, of n, that names lack
pub lacks_decides : (n : ℕ) (names : List ℕ) → Decides (list_any (λ v. not (list_any (λ y. eqb y v) names)) (range_with_len 0 n)) ((v : ℕ) × (v < n) × (Among v names → ⊥))
lacks_decides n names =
    let d = any_among (λ v. not (list_any (λ y. eqb y v) names)) (range_with_len 0 n) in (
      λ e. let t = d.0 e in (t.0, (let l = among_range t.0 0 n t.1 in omega arith), λ m. both_ways _ (not-true _ t.2) ((contains_decides names t.0).1 m)),
      λ t. d.1 (t.0, range_among t.0 0 n (omega arith) (let l = t.1 in omega arith), not_from_false _ (false_from_ne_true _ (λ e. t.2 ((contains_decides names t.0).0 e)))),
    )

-- asking the images of elements
pub any_map : {X : Type 0} (f : X → ℕ) (p : ℕ → Bool) (xs : List X) → list_any (λ x. p (f x)) xs ≡ list_any p (map f xs)
any_map f p [] = refl
any_map f p (x ∷ xs) = ap (λ (b : Bool). p (f x) || b) (any_map f p xs)

-- asking each number of a range by two tests that agree
pub any_same : {X : Type 0} (p q : X → Bool) (xs : List X) → ((x : X) → p x ≡ q x) → list_any p xs ≡ list_any q xs
any_same p q [] e = refl
any_same p q (x ∷ xs) e = ap₂ (λ (a b : Bool). a || b) (e x) (any_same p q xs e)
