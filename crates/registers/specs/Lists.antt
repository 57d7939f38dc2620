-- Lists of registers.
use Rattle.std.specs.Prelude.{◌≡◌, ℕ, ◌<◌, Bool, true, false, List, ◌≢◌, slice_index}

-- each has 16 bits
abbrev pub Narrow : List ℕ → Type 0
Narrow xs = (i : ℕ) → slice_index xs i < 65536

-- whether the registers changed: those before, the answer, those after
abbrev pub Changed : List ℕ → Bool → List ℕ → Type 0
Changed xs r ys = (r ≡ true → ys ≢ xs) × (r ≡ false → ys ≡ xs)
