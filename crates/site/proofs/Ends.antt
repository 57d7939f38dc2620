-- Tests of the elements of a list, by `list_any`.
use Rattle.std.proofs.Common.{◌≡◌, ℕ, Bool, List, [], ◌∷◌, nat_eq, Decides, inr, arith}
use Rattle.std.proofs.lemmas.Bool.Decides.{nat_tests}
use Rattle.std.specs.List.{list_any}
use Rattle.lists.specs.Members.{Among}
use Rattle.graph.specs.Model.{any}

-- the test for one element says whether it stands in the list
pub among_test : (x : ℕ) (xs : List ℕ) → Decides (list_any (λ y. nat_eq y x) xs) (Among x xs)
among_test x [] = grind arith
among_test x (y ∷ ys) = grind (arith, nat_tests, among_test x ys)

-- two tests that agree on the elements
pub any_same : (p q : ℕ → Bool) (xs : List ℕ) → ((u : ℕ) → Among u xs → p u ≡ q u) → list_any p xs ≡ any q xs
any_same p q [] h = grind arith
any_same p q (x ∷ xs) h = grind (arith, h x, any_same p q xs (λ u m. h u (inr m)))
