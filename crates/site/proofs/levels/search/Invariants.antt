use Rattle.graph.specs.Model.{Model}
use Rattle.site.specs.Kept.{Table}
use Rattle.site.specs.Levels.{Drawing, marked}
use Rattle.site.proofs.levels.search.Given as goal

abbrev pub invariant-loop-level : goal.invariant-loop-level
invariant-loop-level l =
    (m : Model) → Drawing (marked 0) m l.initial.nodes → Table (marked l.level) m l.nodes
