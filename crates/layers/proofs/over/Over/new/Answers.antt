use Rattle.std.proofs.Common.{◌++◌, ap}
use Rattle.registers.specs.Fronts.{front_zero}
use Rattle.layers.proofs.over.Over.new.Goals as goal

pub returns-clause-registers : goal.returns-clause-registers
returns-clause-registers g c = λ m ok. ap (λ zs. g.P.Silent.registers c.args.below m ++ zs) (front_zero (g.L.Layer.meaning m).size c.in_ok-own.own (g.met.L.Layer.room m ok) c.in_ok-own.ensures)
