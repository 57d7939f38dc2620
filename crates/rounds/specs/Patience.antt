-- Turns that leave no node out for long, and how many of them complete a number of rounds.
use Rattle.std.specs.Prelude.{◌≡◌, ℕ, ◌*◌, ◌<◌, ◌≤◌, List, [], ◌∷◌, ◌++◌, length, ◌≢◌}
use Rattle.rounds.specs.Rounds.{Covers, Completes}

-- every node has a turn in any w turns in a row
abbrev pub Patient : ℕ → ℕ → List ℕ → Type 0
Patient n w xs = (front block back : List ℕ) → front ++ (block ++ back) ≡ xs → length block ≡ w → Covers n block

-- every node's due is 1 to w
abbrev pub DueWithin : ℕ → ℕ → (ℕ → ℕ) → Type 0
DueWithin n w due = (v : ℕ) → v < n → (1 ≤ due v) × (due v ≤ w)

-- turns with dues before and after each: the due of a node falls with every turn that is not its own
abbrev pub Due : ℕ → ℕ → (ℕ → ℕ) → List ℕ → Type 0
Due n w due [] = DueWithin n w due
Due n w due (x ∷ xs) = DueWithin n w due × ((after : ℕ → ℕ) × ((v : ℕ) → v < n → (v ≢ x) → after v < due v) × Due n w after xs)

-- turns with dues leave no node out of w in a row
abbrev pub DuePatient : Type 0
DuePatient = (n w : ℕ) (due : ℕ → ℕ) (xs : List ℕ) → Due n w due xs → Patient n w xs

-- so k times w of them complete k rounds
abbrev pub PatientCompletes : Type 0
PatientCompletes = (n w k : ℕ) (xs : List ℕ) → 0 < n → Patient n w xs → w * k ≤ length xs → Completes n k xs

-- the laws of patience
pub record Laws : Type 0 where
  pub due : DuePatient
  pub completes : PatientCompletes
