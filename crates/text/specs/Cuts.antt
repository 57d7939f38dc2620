-- Lists that lack a byte, and lists that are cut at its first place.
use Rattle.std.specs.Prelude.{◌≡◌, ℕ, zero, suc, ◌+◌, ◌<◌, List, [], ◌∷◌, ◌++◌, length, take, drop, Some, None, Option, MatchOption, ◌≢◌, slice_index, refl}
use Rattle.std.specs.List.{AllWithin, HoldsAt}
use Rattle.std.specs.Option.{unwrap_or}
use Rattle.std.proofs.Common.{sym, ap, ◌∙◌, subst, arith, take-append-drop}
use Rattle.std.proofs.lemmas.List.{drop_more}
use Rattle.text.specs.Page.{Lacks}
use Rattle.text.specs.Signs.{First}

pub lacks_append : (c : ℕ) (xs ys : List ℕ) → Lacks c xs → Lacks c ys → Lacks c (xs ++ ys)
lacks_append c [] ys a b = b
lacks_append c (x ∷ xs) ys a b = (a.0, lacks_append c xs ys a.1 b)

pub lacks_within : (c : ℕ) (s : List ℕ) (n : ℕ) → AllWithin (λ x. x ≢ c) s 0 n → Lacks c (take n s)
lacks_within c s zero h = tt
lacks_within c [] (suc n) h = tt
lacks_within c (x ∷ s) (suc n) h = (h 0 0 (omega arith) (omega arith), lacks_within c s n (λ k d low lt. h (suc k) d (omega arith) (omega arith)))

-- what a search found is the first place
pub first_place :
    (c : ℕ) (s : List ℕ) (r : Option ℕ) (k : ℕ)
    → MatchOption r (AllWithin (λ x. x ≢ c) s 0 (length s)) (λ i. (i < length s) × HoldsAt (λ x. x ≡ c) s i × AllWithin (λ x. x ≢ c) s 0 i)
    → k ≡ unwrap_or r (length s) → First c s k
first_place c s None k h e = subst (First c s) (sym e) (record { within = omega arith; before = lacks_within c s (length s) h; found = λ lt. absurd (omega arith) })
first_place c s (Some i) k h e = let lt = h.0 in subst (First c s) (sym e) (record { within = omega arith; before = lacks_within c s i h.2; found = λ _. h.1 0 })

-- a list is cut at its first c in one way
pub cut_once : (c : ℕ) (xs us ys vs : List ℕ) → Lacks c xs → Lacks c us → xs ++ (c ∷ ys) ≡ us ++ (c ∷ vs) → (xs ≡ us) × (ys ≡ vs)
cut_once c [] [] ys vs a b e = (refl, cc)
cut_once c [] (u ∷ us) ys vs a b e = let h : u ≡ c = cc in absurd (b.0 h)
cut_once c (x ∷ xs) [] ys vs a b e = let h : x ≡ c = cc in absurd (a.0 h)
cut_once c (x ∷ xs) (u ∷ us) ys vs a b e =
    let h : x ≡ u = cc in
    let t : xs ++ (c ∷ ys) ≡ us ++ (c ∷ vs) = cc in
    let r = cut_once c xs us ys vs a.1 b.1 t in
    let s = r.0 in
    (cc, r.1)

-- what lacks c is not cut at c
pub no_cut : (c : ℕ) (xs us vs : List ℕ) → Lacks c xs → xs ≢ us ++ (c ∷ vs)
no_cut c [] [] vs a e = let z : ◌≡◌ {A = ℕ} 0 1 = cc in omega arith
no_cut c [] (u ∷ us) vs a e = let z : ◌≡◌ {A = ℕ} 0 1 = cc in omega arith
no_cut c (x ∷ xs) [] vs a e = let h : x ≡ c = cc in a.0 h
no_cut c (x ∷ xs) (u ∷ us) vs a e = let t : xs ≡ us ++ (c ∷ vs) = cc in no_cut c xs us vs a.1 t

-- a list around its byte at k
pub around : (c : ℕ) (s : List ℕ) (k : ℕ) → k < length s → slice_index s k ≡ c → s ≡ take k s ++ (c ∷ drop (k + 1) s)
around c s k lt e = sym (take-append-drop k s) ∙ ap (λ (r : List ℕ). take k s ++ r) (drop_more s k 0 lt ∙ ap (λ (x : ℕ). x ∷ drop (k + 1) s) e)
