use Rattle.std.proofs.Common.{arith}
use Rattle.net.proofs.BitLaws.{add_bit}
use Rattle.net.proofs.marks.Marks.set.Goals as goal

pub returns : goal.returns
returns c = λ w lt. add_bit c.args.self.now.words c.args.v w (omega arith)
