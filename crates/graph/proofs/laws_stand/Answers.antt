use Rattle.graph.proofs.laws_stand.Goals as goal
use Rattle.graph.proofs.SiteLaws.{laws}

pub returns : goal.returns
returns c = laws
