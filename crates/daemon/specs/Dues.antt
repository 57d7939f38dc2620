-- Askings of a daemon one after the other, and what they name.
use Rattle.std.specs.Prelude.{◌≡◌, ℕ, ◌*◌, ◌<◌, ◌≤◌, List, [], ◌∷◌, length}
use Rattle.rounds.specs.Dues.{Dues, Asked}
use Rattle.rounds.specs.Rounds.{Completes}
use Rattle.rounds.specs.Patience.{Patient}

-- askings one after the other, the oldest first, name these nodes; R says what one asking makes of a daemon
abbrev pub Run : {X : Type 0} → (X → ℕ → X → Type 0) → X → List ℕ → X → Type 0
Run R a [] z = z ≡ a
Run {X} R a (v ∷ vs) z = (m : X) × R a v m × Run R m vs z

-- askings of any daemon
abbrev pub Askings : Dues → List ℕ → Dues → Type 0
Askings = Run Asked

-- any askings in a row, as many as the patience, name every node
abbrev pub NamesAll : Dues → Type 0
NamesAll a = (vs : List ℕ) (z : Dues) → Askings a vs z → Patient a.nodes a.patience vs

-- k times the patience of askings complete k rounds
abbrev pub CompletesRounds : Dues → Type 0
CompletesRounds a = (vs : List ℕ) (z : Dues) (k : ℕ) → 0 < a.nodes → Askings a vs z → a.patience * k ≤ length vs → Completes a.nodes k vs
