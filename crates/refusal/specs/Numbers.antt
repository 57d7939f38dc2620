-- The number of each refusal, as reports print it.
use Rattle.std.specs.Prelude.{ℕ}
use Rattle.refusal.specs.declared.Refusal.{Refusal}
use Rattle.refusal.specs.declared.Refusal.TheVariants.{Form, Limit, Order, Repeat, Full, Unreached, Place, Node, Missing, Exhausted, Early, Held, Foreign, Short, Mismatch}

abbrev pub number_of : Refusal → ℕ
number_of Form = 1
number_of Limit = 2
number_of Order = 3
number_of Repeat = 4
number_of Full = 5
number_of Unreached = 6
number_of Place = 7
number_of Node = 8
number_of Missing = 9
number_of Exhausted = 10
number_of Early = 11
number_of Held = 12
number_of Foreign = 13
number_of Short = 14
number_of Mismatch = 15
