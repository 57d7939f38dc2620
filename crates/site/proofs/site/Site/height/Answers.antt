use Rattle.std.proofs.Common.{sym, subst}
use Rattle.graph.specs.Model.{Greatest}
use Rattle.graph.proofs.Heights.{height_is}
use Rattle.site.specs.Sites.{model}
use Rattle.site.proofs.Whole.{proper}
use Rattle.site.proofs.site.Site.height.Goals as goal

pub returns-clause-greatest : goal.returns-clause-greatest
returns-clause-greatest c = let s = c.args.self.now in subst (Greatest (model s)) (sym s.highest) (height_is (model s) (proper s))
