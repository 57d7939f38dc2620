use Rattle.std.proofs.Common.{ℕ, [], take}
use Rattle.sheet.specs.Body.{Good}
use Rattle.sheet.proofs.body.check_body.Given as goal

abbrev pub invariant-loop-i : goal.invariant-loop-i
invariant-loop-i g l = (k : ℕ) → g.R.SheetLine.Holds l.initial.into k [] → g.R.SheetLine.Holds l.into k (take l.i l.list) × Good g.R.SheetLine.checks k [] (take l.i l.list)
