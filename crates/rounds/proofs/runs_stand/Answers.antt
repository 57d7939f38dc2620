use Rattle.rounds.proofs.PlacesLaws.{laws}
use Rattle.rounds.proofs.runs_stand.Goals as goal

pub returns : goal.returns
returns g c = laws _ _ _ _
