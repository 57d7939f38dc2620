use Rattle.std.proofs.Common.{arith}
use Rattle.std.proofs.lemmas.Grind.{common_steps}
use Rattle.graph.proofs.Drawn.{arcs_are}
use Rattle.site.specs.Sites.{model}
use Rattle.site.proofs.Whole.{proper}
use Rattle.site.proofs.site.Site.arcs.Goals as goal

pub returns-clause-arcs : goal.returns-clause-arcs
returns-clause-arcs c = let s = c.args.self.now in grind (arith, common_steps, arcs_are (model s) (proper s).drawn)
