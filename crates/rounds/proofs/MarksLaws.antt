-- The counter of rounds is right after every turn.
use Rattle.std.proofs.Common.{◌≡◌, ℕ, zero, suc, ◌+◌, ◌<◌, ◌≤◌, Bool, true, false, cond, ◌&&◌, eqb, ◌⊎◌, List, [], ◌∷◌, ◌++◌, Decides, sym, refl, ap, ◌∙◌, subst, inl, inr, arith}
use Rattle.std.proofs.lemmas.Bool.{cases_eq, or_cases, or_left, or_right, and_parts, and_from, eqb-true, eq-eqb, both_ways, cond-true, cond-false, cases_Bool}
use Rattle.lists.specs.Members.{Among}
use Rattle.lists.proofs.Elements.{among_append_left, among_push, among_push_cases}
use Rattle.rounds.specs.Forest.{Counted, none, pass, fail}
use Rattle.rounds.specs.Rounds.{Splits}
use Rattle.rounds.specs.Marks.{marked, all_marked, count_marked, Marks, Tracks, TracksFirst, TracksNext, MarksAll, MarksCount, AllCount, Laws}
use Rattle.rounds.proofs.RoundsLaws.{nil_covers_none, closes, extends}

all_each : (n : ℕ) (f : ℕ → Bool) → all_marked n f ≡ true → (w : ℕ) → w < n → f w ≡ true
all_each zero f t w l = absurd (omega arith)
all_each (suc n) f t w l = let parts = and_parts (f n) (all_marked n f) t in elim (cases_eq w n) [ inl e ↦ ap f e ∙ parts.0 | inr e ↦ all_each n f parts.1 w (omega arith) ]

each_all : (n : ℕ) (f : ℕ → Bool) → ((w : ℕ) → w < n → f w ≡ true) → all_marked n f ≡ true
each_all zero f h = refl
each_all (suc n) f h = and_from (f n) (all_marked n f) (h n (omega arith)) (each_all n f (λ w l. h w (omega arith)))

pub marks_all : MarksAll
marks_all n f r m = (λ t w l. (m w l).0 (all_each n f t w l), λ c. each_all n f (λ w l. (m w l).1 (c w l)))

pub marks_more : (n : ℕ) (f : ℕ → Bool) (r : List ℕ) (v : ℕ) → Marks n f r → Marks n (marked f v) (r ++ (v ∷ []))
marks_more n f r v m w l = (λ t. elim (or_cases (eqb w v) (f w) t) [ inl e ↦ subst (λ z. Among z (r ++ (v ∷ []))) (sym (eqb-true w v e)) (among_push v r) | inr e ↦ among_append_left w r (v ∷ []) ((m w l).0 e) ], λ h. elim (among_push_cases w r v h) [ inl a ↦ or_right (eqb w v) (f w) ((m w l).1 a) | inr e ↦ or_left (eqb w v) (f w) (eq-eqb w v e) ])

marks_none : (n : ℕ) (f : ℕ → Bool) → ((w : ℕ) → w < n → f w ≡ false) → Marks n f []
marks_none n f h w l = (λ t. both_ways (f w) (h w l) t, λ m. absurd m)

marks_same : (n : ℕ) (f g : ℕ → Bool) (r : List ℕ) → ((w : ℕ) → w < n → g w ≡ f w) → Marks n f r → Marks n g r
marks_same n f g r h m w l = (λ t. (m w l).0 (sym (h w l) ∙ t), λ a. h w l ∙ (m w l).1 a)

pub tracks_first : TracksFirst
tracks_first n f l h = ([], (refl, nil_covers_none n l), marks_none n f h)

pub tracks_next : TracksNext
tracks_next n v k j f g xs l (r, split, marks) c = go (cases_Bool (all_marked n (marked f v)))
  where
    more : Marks n (marked f v) (r ++ (v ∷ []))
    more = marks_more n f r v marks

    go : (all_marked n (marked f v) ≡ true) ⊎ (all_marked n (marked f v) ≡ false) → Tracks n j g (xs ++ (v ∷ []))
    go (inl e) =
        let s : suc k ≡ j = omega (arith, c.rounds, cond-true (all_marked n (marked f v)) (k + 1) k e) in
        ([], subst (λ z. Splits n z (xs ++ (v ∷ [])) []) s (closes n k xs r v l split ((marks_all n (marked f v) (r ++ (v ∷ [])) more).0 e)), marks_none n g (λ w m. c.marks w m ∙ cond-true (all_marked n (marked f v)) false (marked f v w) e))
    go (inr e) =
        let s : k ≡ j = omega (arith, c.rounds, cond-false (all_marked n (marked f v)) (k + 1) k e) in
        (r ++ (v ∷ []), subst (λ z. Splits n z (xs ++ (v ∷ [])) (r ++ (v ∷ []))) s (extends n k xs r v split (λ h. both_ways (all_marked n (marked f v)) e ((marks_all n (marked f v) (r ++ (v ∷ [])) more).1 h))), marks_same n (marked f v) g (r ++ (v ∷ [])) (λ w m. c.marks w m ∙ cond-false (all_marked n (marked f v)) false (marked f v w) e) more)

pub marks_count : MarksCount
marks_count zero f r m = none
marks_count (suc n) f r m = go (f n) (m n (omega arith)) (marks_count n f r (λ w l. m w (omega arith)))
  where
    go : (b : Bool) → Decides b (Among n r) → Counted (λ v. Among v r) n (count_marked n f) → Counted (λ v. Among v r) (suc n) (cond b 1 0 + count_marked n f)
    go true h c = subst (Counted (λ v. Among v r) (suc n)) (omega arith) (pass (h.0 refl) c)
    go false h c = subst (Counted (λ v. Among v r) (suc n)) (omega arith) (fail (λ a. both_ways false refl (h.1 a)) c)

pub count_low : (n : ℕ) (f : ℕ → Bool) → count_marked n f ≤ n
count_low zero f = omega arith
count_low (suc n) f = go (f n) (count_low n f)
  where
    go : (b : Bool) → count_marked n f ≤ n → cond b 1 0 + count_marked n f ≤ suc n
    go true h = omega arith
    go false h = omega arith

pub all_count : AllCount
all_count zero f = (λ _. refl, λ _. refl)
all_count (suc n) f = go (f n) (all_count n f) (count_low n f)
  where
    go : (b : Bool) → Decides (all_marked n f) (count_marked n f ≡ n) → count_marked n f ≤ n → Decides (b && all_marked n f) (cond b 1 0 + count_marked n f ≡ suc n)
    go true h l = (λ t. omega (arith, h.0 t), λ e. h.1 (omega arith))
    go false h l = (λ t. absurd (both_ways false refl t), λ e. absurd (omega arith))

pub laws : Laws
laws = record { first = tracks_first; next = tracks_next; all = marks_all; count = marks_count; full = all_count }
