use Rattle.std.proofs.Common.{arith}
use Rattle.std.proofs.lemmas.Grind.{common_steps}
use Rattle.graph.proofs.Drawn.{ports_none}
use Rattle.site.specs.Sites.{model}
use Rattle.site.proofs.Whole.{proper}
use Rattle.site.proofs.site.Site.ports.Goals as goal

pub returns : goal.returns
returns c = let s = c.args.self.now in grind (arith, common_steps, ports_none (model s) (proper s).drawn c.args.v)
