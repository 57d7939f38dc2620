use Rattle.registers.specs.Fronts.{front_zero}
use Rattle.bases.proofs.matching.Matching.new.Goals as goal

pub returns : goal.returns
returns c = λ m p. front_zero m.nodes c.in_ok-names.names p.drawn.limit c.in_ok-names.ensures
