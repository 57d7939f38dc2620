use Rattle.rounds.proofs.SizeLaws.{laws}
use Rattle.rounds.proofs.forests_stand.Goals as goal

pub returns : goal.returns
returns c = laws
