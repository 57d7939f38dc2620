-- Bits of words.
use Rattle.std.specs.Prelude.{ℕ, ◌/◌, ◌%◌, Bool, List, ◌==◌, slice_index}
use Rattle.std.specs.Int.{bit_at}

abbrev pub bit : ℕ → ℕ → Bool
bit x i = bit_at x i == 1

abbrev pub in_words : List ℕ → ℕ → Bool
in_words ws v = bit (slice_index ws (v / 64)) (v % 64)
