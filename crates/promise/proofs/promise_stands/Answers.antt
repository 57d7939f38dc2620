use Rattle.promise.proofs.PromiseLaws.{promise}
use Rattle.promise.proofs.FirmLaws.{firm}
use Rattle.promise.proofs.promise_stands.Goals as goal

pub returns : goal.returns
returns g c = λ proper laws. (promise g.X.Placed.site g.X.Placed.protocol proper.drawn.some laws, firm g.X.Placed.site g.X.Placed.protocol)
