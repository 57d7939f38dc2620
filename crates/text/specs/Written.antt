-- Lines written one after the other.
use Rattle.std.specs.Prelude.{◌≡◌, ℕ, ◌<◌, ◌≤◌, List, [], ◌∷◌, ◌++◌, length, Some, None, Option}
use Rattle.std.specs.List.{flat_map}

-- the bytes of lines, each with its line feed
abbrev pub lines_of : {X : Type 0} → (X → List ℕ) → List X → List ℕ
lines_of bytes xs = flat_map (λ x. bytes x ++ (10 ∷ [])) xs

-- the number, exactly if it is at most so much
abbrev pub Within : ℕ → ℕ → Option ℕ → Type 0
Within n most (Some k) = (k ≡ n) × (k ≤ most)
Within n most None = most < n

-- how many bytes there are, exactly if they are at most so many
abbrev pub SizeWithin : List ℕ → ℕ → Option ℕ → Type 0
SizeWithin bs most r = Within (length bs) most r
