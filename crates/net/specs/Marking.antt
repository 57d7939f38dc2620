-- Sets of nodes below 256, a bit for each.
use Rattle.std.specs.Prelude.{ℕ, Bool}
use Rattle.net.specs.declared.marks.Marks.{Marks}
use Rattle.net.specs.Bits.{in_words}

-- whether a node has a mark
abbrev pub has : Marks → ℕ → Bool
has m = in_words m.words
