-- What the scan of a field's digits finds.
use Rattle.std.specs.Prelude.{◌≡◌, ℕ, ◌+◌, ◌-◌, ◌*◌, ◌<◌, ◌≤◌, List, [], ◌∷◌, length, Some, None, decimal, Option, ◌≢◌, slice_index}
use Rattle.std.specs.Int.{IsInRange}

-- the value of a digit, and none of any other byte
abbrev pub Digit : ℕ → Option ℕ → Type 0
Digit b (Some d) = (b ≡ 48 + d) × (d < 10)
Digit b None = IsInRange 48 57 b → ⊥

-- the field is what is written of a number of at most five digits
abbrev pub Decimal : List ℕ → Option ℕ → Type 0
Decimal l (Some n) = (n < 100000) × (l ≡ decimal n)
Decimal l None = (n : ℕ) → n < 100000 → l ≢ decimal n

-- the value of digits after those of n
abbrev pub value : ℕ → List ℕ → ℕ
value n [] = n
value n (d ∷ ds) = value (n * 10 + (d - 48)) ds

-- every byte is a digit
abbrev pub Digits : List ℕ → Type 0
Digits l = (k : ℕ) → k < length l → IsInRange 48 57 (slice_index l k)

-- one to five digits that begin with 0 only if there is one
abbrev pub Scanned : List ℕ → Option ℕ → Type 0
Scanned l (Some n) = (1 ≤ length l) × (length l ≤ 5) × Digits l × (slice_index l 0 ≡ 48 → length l ≡ 1) × (n ≡ value 0 l)
Scanned l None = 1 ≤ length l → length l ≤ 5 → Digits l → (slice_index l 0 ≡ 48 → length l ≡ 1) → ⊥

-- at most four digits after s
abbrev pub Following : ℕ → List ℕ → Option ℕ → Type 0
Following s l (Some n) = (length l ≤ 4) × Digits l × (n ≡ value s l)
Following s l None = length l ≤ 4 → Digits l → ⊥
