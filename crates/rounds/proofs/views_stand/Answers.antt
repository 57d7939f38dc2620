use Rattle.rounds.proofs.ViewsLaws.{laws}
use Rattle.rounds.proofs.views_stand.Goals as goal

pub returns : goal.returns
returns g c = laws _ _ _ _ _ _ _ _
