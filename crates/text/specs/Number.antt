-- The numbers of a file, and what is written of one.
use Rattle.std.specs.Prelude.{◌≡◌, ℕ, ◌≤◌, List, Some, None, decimal, Option}
use Rattle.std.proofs.Common.{lit<}
use Rattle.text.specs.declared.number.Number.{Number}

-- the digits of a number
abbrev pub written : Number → List ℕ
written n = decimal n.value

-- the number 0
abbrev pub zero_number : Number
zero_number = record { value = 0; five = lit< tt }

-- the number of that value, exactly if it has at most five digits
abbrev pub Below : ℕ → Option Number → Type 0
Below v (Some n) = n.value ≡ v
Below v None = 100000 ≤ v
