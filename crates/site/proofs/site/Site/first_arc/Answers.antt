use Rattle.std.proofs.Common.{arith}
use Rattle.std.proofs.lemmas.Grind.{common_steps}
use Rattle.graph.proofs.Drawn.{arcs_past}
use Rattle.site.specs.Sites.{model}
use Rattle.site.proofs.Whole.{proper}
use Rattle.site.proofs.site.Site.first_arc.Goals as goal

pub returns : goal.returns
returns c = let s = c.args.self.now in grind (arith, common_steps, arcs_past (model s) (proper s).drawn c.args.v)
