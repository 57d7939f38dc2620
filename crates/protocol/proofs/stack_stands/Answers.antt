use Rattle.protocol.proofs.StackLaws.{stack_stands_lem}
use Rattle.protocol.proofs.stack_stands.Goals as goal

pub returns : goal.returns
returns c = stack_stands_lem
