-- The least value over a list, the first element that passes, and the element that a register holds.
use Rattle.std.specs.Prelude.{◌≡◌, ℕ, zero, suc, min, Bool, true, false, cond, List, [], ◌∷◌, ◌++◌, Some, None, Option, ◌==◌}
use Rattle.lists.specs.Members.{Among}

-- the least of f over a list; 0 of an empty one
abbrev pub least : (ℕ → ℕ) → List ℕ → ℕ
least f [] = 0
least f (x ∷ []) = f x
least f (x ∷ (y ∷ ys)) = min (f x) (least f (y ∷ ys))

-- whether x stands in the list
abbrev pub mem : ℕ → List ℕ → Bool
mem x [] = false
mem x (y ∷ ys) = cond (x == y) true (mem x ys)

-- the first element that passes, or none
abbrev pub first : (ℕ → Bool) → List ℕ → Option ℕ
first p [] = None
first p (x ∷ xs) = cond (p x) (Some x) (first p xs)

-- u is that element: it passes, and none before it does
pub record IsFirst (p : ℕ → Bool) (xs : List ℕ) (u : ℕ) : Type 0 where
  pub before : List ℕ
  pub after : List ℕ
  pub splits : xs ≡ before ++ (u ∷ after)
  pub passes : p u ≡ true
  pub earlier : (w : ℕ) → Among w before → p w ≡ false

-- the element that a register holds, stored as its number plus 1, if it stands in the list; else none
abbrev pub held : List ℕ → ℕ → Option ℕ
held xs zero = None
held xs (suc u) = cond (mem u xs) (Some u) None
