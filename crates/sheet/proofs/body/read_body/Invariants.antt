use Rattle.std.proofs.Common.{◌≡◌, ℕ, [], take, drop}
use Rattle.text.specs.Spots.{spot}
use Rattle.sheet.specs.Body.{Front}
use Rattle.sheet.proofs.body.read_body.Given as goal

abbrev pub invariant-loop-entry : goal.invariant-loop-entry
invariant-loop-entry g l =
    ((k : ℕ) → g.R.SheetLine.Holds l.initial.into k [] → g.R.SheetLine.Holds l.into k (take l.entry-index l.entry-items) × Front g.R.WriteLine.bytes g.R.SheetLine.checks k (take l.entry-index l.entry-items) (spot l.initial.rd) (spot l.rd))
    × (drop l.entry-index l.entry-items ≡ drop l.entry-index l.initial.entry-items)
