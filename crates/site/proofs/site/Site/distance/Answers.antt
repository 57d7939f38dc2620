use Rattle.std.proofs.Common.{arith}
use Rattle.std.proofs.lemmas.Grind.{common_steps}
use Rattle.graph.proofs.Heights.{distance_is}
use Rattle.site.specs.Sites.{model}
use Rattle.site.proofs.Whole.{proper}
use Rattle.site.proofs.site.Site.distance.Goals as goal

pub returns : goal.returns
returns c = let s = c.args.self.now in grind (arith, common_steps, distance_is (model s) (proper s) c.args.v)
