use Rattle.std.proofs.Common.{suc, ◌≡◌, false}
use Rattle.graph.specs.Model.{Model}
use Rattle.site.specs.Levels.{Drawing, marked}
use Rattle.site.proofs.Partial.{Partly, Still}
use Rattle.site.proofs.levels.spread.Given as goal

abbrev pub invariant-loop-v : goal.invariant-loop-v
invariant-loop-v l =
    (m : Model) → Drawing (marked l.level) m l.initial.nodes
    → Partly (marked (suc l.level)) (marked l.level) m l.v l.nodes × (l.grew ≡ false → Still m l.level l.v)
