use Rattle.std.proofs.Common.{◌≡◌, ◌≤◌, length, take, vec_capacity, vec_items}
use Rattle.report.specs.Runs.{names_of}
use Rattle.report.proofs.run.nodes_of.Given as goal

abbrev pub invariant-loop-turn : goal.invariant-loop-turn
invariant-loop-turn l = (length l.turns ≤ vec_capacity l.names) × (vec_items l.names ≡ names_of (take l.turn-index l.turns))
