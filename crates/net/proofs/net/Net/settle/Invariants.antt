use Rattle.std.proofs.Common.{◌≡◌, ℕ, ◌-◌, List}
use Rattle.protocol.specs.Protocols.{told_bound}
use Rattle.net.specs.Calls.{meant}
use Rattle.net.specs.Settling.{Drew}
use Rattle.net.proofs.net.Net.settle.Given as goal

abbrev pub invariant-loop-self : goal.invariant-loop-self
invariant-loop-self g l = ((vs : List ℕ) × Drew g.P.Silent g.D.Daemon l.initial.self l.initial.daemon vs l.self l.daemon) × (told_bound (meant g.P.Silent l.self) ≡ told_bound (meant g.P.Silent l.initial.self))

abbrev pub decreases-loop-self : goal.decreases-loop-self
decreases-loop-self g l = 1000000 - l.self.counters.turns
