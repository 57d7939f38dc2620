use Rattle.rounds.proofs.ChangesLaws.{laws}
use Rattle.rounds.proofs.changes_stand.Goals as goal

pub returns : goal.returns
returns g c = laws _ _ _
