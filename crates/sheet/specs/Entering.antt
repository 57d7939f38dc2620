-- A line entered after those before it.
use Rattle.std.specs.Prelude.{ℕ, List, [], ◌∷◌, ◌++◌, Ok, Err, Result}
use Rattle.refusal.specs.declared.Refusal.{Refusal}
use Rattle.refusal.specs.Checks.{Checks, First, Free}

-- it passes its checks and the context takes it in, or the first check that it fails refuses it and the context stands for what it did
abbrev pub Entered : {X K : Type 0} → (K → ℕ → List X → Type 0) → Checks → ℕ → List X → X → Result (Unit {0}) Refusal → K → Type 0
Entered Holds checks k before x (Ok u) z = Free checks × Holds z k (before ++ (x ∷ []))
Entered Holds checks k before x (Err e) z = First checks e × Holds z k before
