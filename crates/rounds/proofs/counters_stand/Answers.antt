use Rattle.rounds.proofs.MarksLaws.{laws}
use Rattle.rounds.proofs.counters_stand.Goals as goal

pub returns : goal.returns
returns c = laws
