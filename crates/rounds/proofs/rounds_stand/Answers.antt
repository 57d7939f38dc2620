use Rattle.rounds.proofs.RoundsLaws.{laws}
use Rattle.rounds.proofs.rounds_stand.Goals as goal

pub returns : goal.returns
returns c = laws
