-- The last turn that changed the state, and the round in which it came.
use Rattle.std.specs.Prelude.{◌≡◌, ℕ, zero, suc, ◌<◌, ◌≤◌, List, [], ◌∷◌, ◌++◌, length}
use Rattle.rounds.specs.Rounds.{Splits}
use Rattle.rounds.specs.Runs.{run, Below, From}

-- after the turns ts from the state s, a turn of v changes the state
abbrev pub Changes : {S : Type 0} → (ℕ → S → S) → S → List ℕ → ℕ → Type 0
Changes step s ts v = step v (run step ts s) ≡ run step ts s → ⊥

-- no turn of ts after the first m changed the state
abbrev pub Quiet : {S : Type 0} → (ℕ → S → S) → S → List ℕ → ℕ → Type 0
Quiet step s ts m = (front : List ℕ) (v : ℕ) (back : List ℕ) → front ++ (v ∷ back) ≡ ts → m ≤ length front → Changes step s front v → ⊥

-- the last turn of ts that changed the state came when k rounds were complete
pub record Latest {S : Type 0} (n : ℕ) (step : ℕ → S → S) (s : S) (ts : List ℕ) (k : ℕ) : Type 0 where
  pub before : List ℕ
  pub node : ℕ
  pub after : List ℕ
  pub whole : before ++ (node ∷ after) ≡ ts
  pub changes : Changes step s before node
  pub rest : List ℕ
  pub round : Splits n k before rest
  pub quiet : Quiet step s ts (suc (length before))

-- the round of the last turn that changed the state, counted from 1; 0 where none did
abbrev pub Last : {S : Type 0} → ℕ → (ℕ → S → S) → S → List ℕ → ℕ → Type 0
Last n step s ts zero = Quiet step s ts 0
Last n step s ts (suc k) = Latest n step s ts k

-- before the first turn, none did
abbrev pub LastFirst : (S : Type 0) → (ℕ → S → S) → Type 0
LastFirst S step = (n : ℕ) (s : S) → Last n step s [] 0

-- a turn that changes nothing leaves it
abbrev pub LastStays : (S : Type 0) → (ℕ → S → S) → Type 0
LastStays S step = (n : ℕ) (s : S) (ts : List ℕ) (v k : ℕ) → Last n step s ts k → (Changes step s ts v → ⊥) → Last n step s (ts ++ (v ∷ [])) k

-- a turn that changes the state comes in the round that is open
abbrev pub LastNow : (S : Type 0) → (ℕ → S → S) → Type 0
LastNow S step = (n : ℕ) (s : S) (ts r : List ℕ) (v k : ℕ) → Splits n k ts r → Changes step s ts v → Last n step s (ts ++ (v ∷ [])) (suc k)

-- there is one such round
abbrev pub LastUnique : (S : Type 0) → (ℕ → S → S) → Type 0
LastUnique S step = (n : ℕ) (s : S) (ts : List ℕ) (k j : ℕ) → Last n step s ts k → Last n step s ts j → k ≡ j

-- where b rounds from P end in states that no turn changes, it is at most b
abbrev pub LastLow : (S : Type 0) → (ℕ → S → S) → (S → Type 0) → Type 0
LastLow S step P = (n b : ℕ) (s : S) (ts : List ℕ) (k : ℕ) → From step n P b (λ z. (v : ℕ) → v < n → step v z ≡ z) → P s → Below n ts → Last n step s ts k → k ≤ b

-- the laws of the last change
pub record Laws (S : Type 0) (step : ℕ → S → S) (holds : ℕ → S → Type 0) : Type 0 where
  pub first : LastFirst S step
  pub stays : LastStays S step
  pub now : LastNow S step
  pub unique : LastUnique S step
  pub low : (i : ℕ) → LastLow S step (holds i)
