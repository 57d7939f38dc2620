use Rattle.std.proofs.Common.{◌≡◌, ℕ, ◌+◌, ◌^◌, ◌<◌, get_or, drop}
use Rattle.std.specs.Int.{IsInRange}
use Rattle.text.specs.Digits.{value}
use Rattle.text.proofs.number.scan_rest.Given as goal

abbrev pub invariant-loop-b : goal.invariant-loop-b
invariant-loop-b l = (l.n < 10 ^ (l.b-index + 1)) × ((k : ℕ) → k < l.b-index → IsInRange 48 57 (get_or l.rest k 0)) × (value l.n (drop l.b-index l.rest) ≡ value l.start l.rest)
