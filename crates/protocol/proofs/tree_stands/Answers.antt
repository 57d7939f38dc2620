use Rattle.protocol.proofs.TreeLaws.{laws}
use Rattle.protocol.proofs.tree_stands.Goals as goal

pub returns : goal.returns
returns c = laws
