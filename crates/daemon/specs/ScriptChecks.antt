-- The checks of a script: its names, for a number of nodes, in the order of the checks.
use Rattle.std.specs.Prelude.{ℕ, ◌<◌, ◌≤◌, List, [], ◌∷◌, length}
use Rattle.refusal.specs.declared.Refusal.TheVariants.{Limit, Node, Missing}
use Rattle.refusal.specs.Checks.{Checks}
use Rattle.lists.specs.Members.{Among}

abbrev pub script_checks : ℕ → List ℕ → Checks
script_checks n names =
    (Limit, (1 ≤ length names) × (length names ≤ 1024) × (1 ≤ n) × (n ≤ 256) → ⊥)
    ∷ (Node, (v : ℕ) × Among v names × (n ≤ v))
    ∷ (Missing, (v : ℕ) × (v < n) × (Among v names → ⊥))
    ∷ []
