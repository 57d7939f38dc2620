use Rattle.std.proofs.Common.{◌≡◌, ◌*◌, ◌≤◌}
use Rattle.graph.specs.Model.{Model, arcs_before}
use Rattle.site.specs.Levels.{Drawing, marked, numbered}
use Rattle.site.proofs.Partial.{Partly}
use Rattle.site.proofs.levels.number_arcs.Given as goal

abbrev pub invariant-loop-node : goal.invariant-loop-node
invariant-loop-node l =
    (l.total ≤ 8 * l.node-index)
    × ((m : Model) → Drawing (marked m.nodes) m l.initial.nodes
    → (l.total ≡ arcs_before m l.node-index) × Partly numbered (marked m.nodes) m l.node-index l.nodes)
