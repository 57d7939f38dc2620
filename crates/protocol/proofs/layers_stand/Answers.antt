use Rattle.protocol.proofs.StackLaws.{layers_stand_lem}
use Rattle.protocol.proofs.layers_stand.Goals as goal

pub returns : goal.returns
returns g c = layers_stand_lem _ _ _ _
