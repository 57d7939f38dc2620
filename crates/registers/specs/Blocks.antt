-- A block as the list that it holds.
use Rattle.std.specs.Prelude.{ℕ, List, take, vec_items, slice_index}
use Rattle.registers.specs.declared.Block.{Block}

module _ {room : ℕ} where
  abbrev pub held : Block room → List ℕ
  held b = vec_items b.values

  -- the register at each place, and 0 past the last
  abbrev pub register : Block room → ℕ → ℕ
  register b = λ i. slice_index (held b) i

  -- the first n of them
  abbrev pub front : ℕ → Block room → List ℕ
  front n b = take n (held b)
