use Rattle.rounds.proofs.PatienceLaws.{laws}
use Rattle.rounds.proofs.patience_stands.Goals as goal

pub returns : goal.returns
returns c = laws
