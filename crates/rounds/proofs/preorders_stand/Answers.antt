use Rattle.rounds.proofs.RankRules.{laws}
use Rattle.rounds.proofs.preorders_stand.Goals as goal

pub returns : goal.returns
returns c = laws
