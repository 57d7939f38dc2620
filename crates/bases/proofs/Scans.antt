-- What is found in a list of nodes: whether one stands in it, the first that passes a test, and the least value.
use Rattle.std.proofs.Common.{◌≡◌, ℕ, min, Bool, true, false, cond, eqb, ◌||◌, List, [], ◌∷◌, map, fold, Some, None, Option, sym, refl, ap, ◌∙◌, ap₂, inl, inr, arith}
use Rattle.std.specs.List.{find, list_any, reduce}
use Rattle.std.specs.Option.{MatchOption, unwrap_or}
use Rattle.std.proofs.lemmas.List.Recursion.{same_from_clauses}
use Rattle.std.proofs.lemmas.Map.Entries.{option_filter}
use Rattle.lists.specs.Members.{Among}
use Rattle.protocol.specs.First.{first, held, least, mem}
use Rattle.protocol.specs.Matching.{or_else}
use Rattle.protocol.specs.Outputs.{stored}
use Rattle.protocol.proofs.FirstLaws.{eqb_same}

-- std's words for these
pub mem_any : (u : ℕ) (xs : List ℕ) → mem u xs ≡ list_any (λ x. eqb x u) xs
mem_any u [] = refl
mem_any u (x ∷ xs) = or_is (eqb u x) (mem u xs) ∙ ap₂ ◌||◌ (eqb_same u x x u sym sym) (mem_any u xs)
  where
    or_is : (a b : Bool) → cond a true b ≡ (a || b)
    or_is true b = refl
    or_is false b = refl

pub held_filter : (xs : List ℕ) (x : ℕ) (o : Option ℕ) → x ≡ stored o → option_filter (λ u. mem u xs) o ≡ held xs x
held_filter xs x None e = ap (held xs) (sym e)
held_filter xs x (Some u) e = ap (held xs) (sym e)

pub find_first : (p : ℕ → Bool) (xs : List ℕ) → find p xs ≡ first p xs
find_first p xs = same_from_clauses (find p) (first p) (λ (x : ℕ) (o : Option ℕ). cond (p x) (Some x) o) refl (λ x us. refl) (λ x us. refl) xs

fold_min : (a b : ℕ) (xs : List ℕ) → fold min (min a b) xs ≡ min a (fold min b xs)
fold_min a b [] = refl
fold_min a b (x ∷ xs) = let e : min (min a b) x ≡ min a (min b x) = omega arith in ap (λ (k : ℕ). fold min k xs) e ∙ fold_min a (min b x) xs

fold_least : (f : ℕ → ℕ) (x : ℕ) (xs : List ℕ) → fold min (f x) (map f xs) ≡ least f (x ∷ xs)
fold_least f x [] = refl
fold_least f x (y ∷ ys) = fold_min (f x) (f y) (map f ys) ∙ ap (min (f x)) (fold_least f y ys)

pub reduce_least : (f : ℕ → ℕ) (xs : List ℕ) → unwrap_or (reduce min (map f xs)) 0 ≡ least f xs
reduce_least f [] = refl
reduce_least f (x ∷ xs) = fold_least f x xs

pub least_cong : (f g : ℕ → ℕ) (xs : List ℕ) → ((u : ℕ) → Among u xs → f u ≡ g u) → least f xs ≡ least g xs
least_cong f g [] h = refl
least_cong f g (x ∷ []) h = h x (inl refl)
least_cong f g (x ∷ (y ∷ ys)) h = let a = h x (inl refl) in let b = least_cong f g (y ∷ ys) (λ u m. h u (inr m)) in omega arith

-- the first of two, and the second where there is none
pub else_is : (o d r : Option ℕ) (P : Type 0) → MatchOption o P (λ u. r ≡ Some u) → (P → r ≡ d) → r ≡ or_else o d
else_is None d r P h e = e h
else_is (Some u) d r P h e = h
