-- Rounds of a list of turns: the split, and what one more turn does to it.
use Rattle.std.proofs.Common.{◌≡◌, ℕ, zero, suc, ◌+◌, ◌*◌, ◌<◌, ◌≤◌, ◌⊎◌, List, [], ◌∷◌, ◌++◌, length, sym, refl, ap, ◌∙◌, subst, inl, inr, append_assoc, append-nil, mul-le-mul_right, mul-le-mul_left, mul-zero, mul-suc, arith, length-append}
use Rattle.lists.specs.Members.{Among}
use Rattle.lists.proofs.Decisions.{Decided, all_below?, among_number?}
use Rattle.lists.proofs.Elements.{among_append_left, among_append_right}
use Rattle.lists.proofs.Pigeonhole.{covers_length}
use Rattle.rounds.specs.Rounds.{Covers, Round, Splits, Completes, Unique, Exists, Closes, Extends, Grows, Monotone, Adds, BlocksComplete, TurnsOfRounds, RoundsBelowTurns, Laws}
use Rattle.rounds.proofs.Fronts.{fronts, push_cases}

pub covers? : (n : ℕ) (xs : List ℕ) → Decided (Covers n xs)
covers? n xs = all_below? (λ v. Among v xs) (λ v. among_number? v xs) n

pub covers_left : (n : ℕ) (xs ys : List ℕ) → Covers n xs → Covers n (xs ++ ys)
covers_left n xs ys h v l = among_append_left v xs ys (h v l)

pub covers_right : (n : ℕ) (xs ys : List ℕ) → Covers n ys → Covers n (xs ++ ys)
covers_right n xs ys h v l = among_append_right v xs ys (h v l)

pub nil_covers_none : (n : ℕ) → 0 < n → Covers n [] → ⊥
nil_covers_none n l h = h 0 l

pub open_rest : (n k : ℕ) (xs r : List ℕ) → Splits n k xs r → Covers n r → ⊥
open_rest n zero xs r s = s.1
open_rest n (suc k) xs r s = open_rest n k s.1 r s.4

pub splits_covers : (n k : ℕ) (xs r : List ℕ) → Splits n (suc k) xs r → Covers n xs
splits_covers n k xs r s = subst (Covers n) s.2 (covers_left n s.0 s.1 s.3.covers)

pub completes_covers : (n k : ℕ) (xs : List ℕ) → Completes n (suc k) xs → Covers n xs
completes_covers n k xs (zero, r, l, s) = absurd (omega arith)
completes_covers n k xs (suc j, r, l, s) = splits_covers n j xs r s

pub splits_completes : (n k : ℕ) (xs r : List ℕ) → Splits n k xs r → Completes n k xs
splits_completes n k xs r s = (k, r, omega arith, s)

pub completes_fewer : (n j k : ℕ) (xs : List ℕ) → j ≤ k → Completes n k xs → Completes n j xs
completes_fewer n j k xs l c = (c.0, c.1, omega (arith, c.2), c.3)

first_round_same : (n : ℕ) (a b c d : List ℕ) → a ++ b ≡ c ++ d → Round n a → Round n c → (a ≡ c) × (b ≡ d)
first_round_same n a b c d q ra rc = elim (fronts a b c d q) [ inl t ↦ left t.0 t.1 t.2 | inr t ↦ absurd (ra.tight c t.0 t.1 t.2 rc.covers) ]
  where
    left : (e : List ℕ) → a ++ e ≡ c → b ≡ e ++ d → (a ≡ c) × (b ≡ d)
    left [] p r = (sym (append-nil a) ∙ p, r)
    left (x ∷ e) p r = absurd (rc.tight a x e p ra.covers)

pub unique : Unique
unique n zero zero xs r q s t = (refl, sym s.0 ∙ t.0)
unique n zero (suc j) xs r q s t = absurd (s.1 (subst (Covers n) s.0 (splits_covers n j xs q t)))
unique n (suc k) zero xs r q s t = absurd (t.1 (subst (Covers n) t.0 (splits_covers n k xs r s)))
unique n (suc k) (suc j) xs r q s t =
    let e = first_round_same n s.0 s.1 t.0 t.1 (s.2 ∙ sym t.2) s.3 t.3 in
    let u = unique n k j s.1 r q s.4 (subst (λ z. Splits n j z q) (sym e.1) t.4) in
    (ap suc u.0, u.1)

-- a proper front of xs and one more is a front of xs
front_of_push : (front : List ℕ) (x : ℕ) (back xs : List ℕ) (v : ℕ) → front ++ (x ∷ back) ≡ xs ++ (v ∷ []) → (e : List ℕ) × (front ++ e ≡ xs)
front_of_push front x back xs v q = elim (push_cases front x back xs v q) [ inl t ↦ ([], append-nil front ∙ t.0) | inr t ↦ (x ∷ t.0, t.1) ]

-- the split of one more turn, under the first round
push_later : (n k j : ℕ) (xs r q : List ℕ) (v : ℕ) (s : Splits n (suc k) xs r) → Splits n j (s.1 ++ (v ∷ [])) q → Splits n (suc j) (xs ++ (v ∷ [])) q
push_later n k j xs r q v s t = (s.0, s.1 ++ (v ∷ []), sym (append_assoc s.0 s.1 (v ∷ [])) ∙ ap (λ z. z ++ (v ∷ [])) s.2, s.3, t)

pub closes : Closes
closes n zero xs r v l s c = (xs ++ (v ∷ []), [], append-nil (xs ++ (v ∷ [])), now, (refl, nil_covers_none n l))
  where
    now : Round n (xs ++ (v ∷ []))
    now = record {
      covers = subst (λ z. Covers n (z ++ (v ∷ []))) (sym s.0) c;
      tight = λ front x back q h. let t = front_of_push front x back xs v q in s.1 (subst (Covers n) (t.1 ∙ s.0) (covers_left n front t.0 h));
    }
closes n (suc k) xs r v l s c = push_later n k (suc k) xs r [] v s (closes n k s.1 r v l s.4 c)

pub extends : Extends
extends n zero xs r v s c = (ap (λ z. z ++ (v ∷ [])) s.0, c)
extends n (suc k) xs r v s c = push_later n k k xs r (r ++ (v ∷ [])) v s (extends n k s.1 r v s.4 c)

pub grows : Grows
grows n k xs r v l s = elim (covers? n (r ++ (v ∷ []))) [ inl c ↦ inr (closes n k xs r v l s c) | inr c ↦ inl (extends n k xs r v s c) ]

-- more turns extend the open rest, or complete the round
further : (n k : ℕ) (xs r ys : List ℕ) → 0 < n → Splits n k xs r → Splits n k (xs ++ ys) (r ++ ys) ⊎ Completes n (suc k) (xs ++ ys)
further n k xs r [] l s = inl (rw (append-nil xs, append-nil r) s)
further n k xs r (v ∷ ys) l s = rw (← append_assoc xs (v ∷ []) ys, ← append_assoc r (v ∷ []) ys) (elim (grows n k xs r v l s) [ inl t ↦ further n k (xs ++ (v ∷ [])) (r ++ (v ∷ [])) ys l t | inr t ↦ inr (done (further n (suc k) (xs ++ (v ∷ [])) [] ys l t)) ])
  where
    done : Splits n (suc k) ((xs ++ (v ∷ [])) ++ ys) ys ⊎ Completes n (suc (suc k)) ((xs ++ (v ∷ [])) ++ ys) → Completes n (suc k) ((xs ++ (v ∷ [])) ++ ys)
    done (inl t) = splits_completes n (suc k) ((xs ++ (v ∷ [])) ++ ys) ys t
    done (inr t) = completes_fewer n (suc k) (suc (suc k)) ((xs ++ (v ∷ [])) ++ ys) (omega arith) t

pub monotone : Monotone
monotone n k xs ys l c = elim (further n c.0 xs c.1 ys l c.3) [ inl t ↦ (c.0, c.1 ++ ys, c.2, t) | inr t ↦ completes_fewer n k (suc c.0) (xs ++ ys) (omega (arith, c.2)) t ]

pub exists : Exists
exists n xs l = let t = monotone n 0 [] xs l (splits_completes n 0 [] [] (refl, nil_covers_none n l)) in (t.0, t.1, t.3)

adds_at : (n k j m : ℕ) (xs r : List ℕ) → 0 < n → k + m ≤ j → Splits n j xs r → (front : List ℕ) × (back : List ℕ) × (front ++ back ≡ xs) × Splits n k front [] × Completes n m back
adds_at n zero j m xs r l h s = ([], xs, refl, (refl, nil_covers_none n l), (j, r, omega arith, s))
adds_at n (suc k) zero m xs r l h s = absurd (omega arith)
adds_at n (suc k) (suc j) m xs r l h s =
    let t = adds_at n k j m s.1 r l (omega arith) s.4 in
    (s.0 ++ t.0, t.1, append_assoc s.0 t.0 t.1 ∙ ap (λ z. s.0 ++ z) t.2 ∙ s.2, (s.0, t.0, refl, s.3, t.3), t.4)

pub adds : Adds
adds n k m xs l c = adds_at n k c.0 m xs c.1 l c.2 c.3

pub blocks : BlocksComplete
blocks n zero xs l b = let t = exists n xs l in (t.0, t.1, omega arith, t.2)
blocks n (suc k) xs l b =
    let t = blocks n k b.0 l b.3 in
    subst (Completes n (suc k)) b.2 (elim (further n t.0 b.0 t.1 b.1 l t.3) [ inl s ↦ absurd (open_rest n t.0 (b.0 ++ b.1) (t.1 ++ b.1) s (covers_right n t.1 b.1 b.4)) | inr s ↦ completes_fewer n (suc k) (suc t.0) (b.0 ++ b.1) (omega (arith, t.2)) s ])

splits_length : (n k : ℕ) (xs r : List ℕ) → Splits n k xs r → n * k ≤ length xs
splits_length n zero xs r s = omega (arith, mul-zero n)
splits_length n (suc k) xs r s =
    let t = splits_length n k s.1 r s.4 in
    let c = covers_length n s.0 s.3.covers in
    let e = ap length s.2 in
    let q = length-append s.0 s.1 in
    omega (arith, mul-suc n k)

pub turns_of_rounds_lem : TurnsOfRounds
turns_of_rounds_lem n k xs c = let t = splits_length n c.0 xs c.1 c.3 in omega (arith, mul-le-mul_left n c.2)

pub rounds_below_turns_lem : RoundsBelowTurns
rounds_below_turns_lem n k xs l c = let t = turns_of_rounds_lem n k xs c in let m : 1 ≤ n = omega arith in omega (arith, mul-le-mul_right k m)

pub laws : Laws
laws = record { unique = unique; exists = exists; closes = closes; extends = extends; grows = grows; monotone = monotone; adds = adds; blocks = blocks; turns_of_rounds = turns_of_rounds_lem; rounds_below_turns = rounds_below_turns_lem }
