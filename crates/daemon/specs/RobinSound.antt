-- The dues of a round robin are 1 to its patience.
use Rattle.std.proofs.Common.{rules}
use Rattle.daemon.specs.declared.robin.RoundRobin.{RoundRobin}
use Rattle.rounds.specs.Dues.{Timely}
use Rattle.daemon.specs.RoundRobins.{robin_dues}

pub robin_timely : (d : RoundRobin) → Timely (robin_dues d)
robin_timely d = search rules
