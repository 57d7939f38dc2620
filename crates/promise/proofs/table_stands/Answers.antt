use Rattle.promise.proofs.CasesLaws.{table}
use Rattle.promise.proofs.table_stands.Goals as goal

pub returns : goal.returns
returns g c = table g.X.Placed.protocol
