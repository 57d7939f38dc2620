use Rattle.std.proofs.Common.{◌≡◌, ℕ, ◌<◌, ◌≤◌, ◌⊎◌, Some}
use Rattle.site.specs.Table.{entry}
use Rattle.site.proofs.levels.greatest.Given as goal

abbrev pub invariant-loop-node : goal.invariant-loop-node
invariant-loop-node l =
    ((v : ℕ) → v < l.node-index → (d : ℕ) × ((entry l.nodes v).distance ≡ Some d) × (d ≤ l.top))
    × (((l.node-index ≡ 0) × (l.top ≡ 0)) ⊎ ((v : ℕ) × (v < l.node-index) × ((entry l.nodes v).distance ≡ Some l.top)))
