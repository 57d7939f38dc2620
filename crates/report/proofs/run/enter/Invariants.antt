use Rattle.std.proofs.Common.{take}
use Rattle.report.specs.Runs.{Entered}
use Rattle.report.proofs.run.enter.Given as goal

abbrev pub invariant-loop-fault : goal.invariant-loop-fault
invariant-loop-fault g l = Entered g.P.Silent l.initial.net (take l.fault-index l.faults) l.net
