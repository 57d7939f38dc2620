-- The sizes of a site.
use Rattle.std.proofs.Common.{◌<◌, ◌≤◌, arith}
use Rattle.graph.specs.Model.{height}
use Rattle.graph.proofs.Heights.{height_below}
use Rattle.site.specs.declared.site.Site.{Site}
use Rattle.site.specs.Sites.{model}
use Rattle.site.proofs.Whole.{proper}

pub site_few : (s : Site) → (model s).nodes ≤ 256
site_few s = (proper s).drawn.limit

pub site_low : (s : Site) → height (model s) < 256
site_low s = let a = height_below (model s) (proper s) in let b = site_few s in omega arith
