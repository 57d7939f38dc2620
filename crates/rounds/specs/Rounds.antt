-- Rounds of a list of turns: how many times all nodes had a turn.
-- The nodes are the numbers below n, and a list of turns has the oldest first.
use Rattle.std.specs.Prelude.{◌≡◌, ℕ, zero, suc, ◌+◌, ◌*◌, ◌<◌, ◌≤◌, ◌⊎◌, List, [], ◌∷◌, ◌++◌, length}
use Rattle.lists.specs.Members.{Among}

-- every node has a turn in xs
abbrev pub Covers : ℕ → List ℕ → Type 0
Covers n xs = (v : ℕ) → v < n → Among v xs

-- a round: every node has a turn in it, and in no proper front of it
pub record Round (n : ℕ) (xs : List ℕ) : Type 0 where
  pub covers : Covers n xs
  pub tight : (front : List ℕ) (x : ℕ) (back : List ℕ) → front ++ (x ∷ back) ≡ xs → Covers n front → ⊥

-- xs is k rounds, one after the other, and then the open rest r
abbrev pub Splits : ℕ → ℕ → List ℕ → List ℕ → Type 0
Splits n zero xs r = (xs ≡ r) × (Covers n r → ⊥)
Splits n (suc k) xs r = (round : List ℕ) × (later : List ℕ) × (round ++ later ≡ xs) × Round n round × Splits n k later r

-- xs completes at least k rounds
abbrev pub Completes : ℕ → ℕ → List ℕ → Type 0
Completes n k xs = (j : ℕ) × (r : List ℕ) × (k ≤ j) × Splits n j xs r

-- xs is k blocks, one after the other, in each of which every node has a turn
abbrev pub Blocks : ℕ → ℕ → List ℕ → Type 0
Blocks n zero xs = xs ≡ []
Blocks n (suc k) xs = (earlier : List ℕ) × (block : List ℕ) × (earlier ++ block ≡ xs) × Blocks n k earlier × Covers n block

-- a list splits in one way
abbrev pub Unique : Type 0
Unique = (n k j : ℕ) (xs r q : List ℕ) → Splits n k xs r → Splits n j xs q → (k ≡ j) × (r ≡ q)

-- every list splits
abbrev pub Exists : Type 0
Exists = (n : ℕ) (xs : List ℕ) → 0 < n → (k : ℕ) × (r : List ℕ) × Splits n k xs r

-- one more turn completes the round if every node now has a turn in it
abbrev pub Closes : Type 0
Closes = (n k : ℕ) (xs r : List ℕ) (v : ℕ) → 0 < n → Splits n k xs r → Covers n (r ++ (v ∷ [])) → Splits n (suc k) (xs ++ (v ∷ [])) []

-- one more turn extends the open rest if some node still has no turn in it
abbrev pub Extends : Type 0
Extends = (n k : ℕ) (xs r : List ℕ) (v : ℕ) → Splits n k xs r → (Covers n (r ++ (v ∷ [])) → ⊥) → Splits n k (xs ++ (v ∷ [])) (r ++ (v ∷ []))

-- one of the two happens
abbrev pub Grows : Type 0
Grows = (n k : ℕ) (xs r : List ℕ) (v : ℕ) → 0 < n → Splits n k xs r → Splits n k (xs ++ (v ∷ [])) (r ++ (v ∷ [])) ⊎ Splits n (suc k) (xs ++ (v ∷ [])) []

-- more turns never lose a round
abbrev pub Monotone : Type 0
Monotone = (n k : ℕ) (xs ys : List ℕ) → 0 < n → Completes n k xs → Completes n k (xs ++ ys)

-- turns that complete k + m rounds are a front of exactly k rounds and a back that completes m
abbrev pub Adds : Type 0
Adds = (n k m : ℕ) (xs : List ℕ) → 0 < n → Completes n (k + m) xs → (front : List ℕ) × (back : List ℕ) × (front ++ back ≡ xs) × Splits n k front [] × Completes n m back

-- k blocks complete k rounds, tight or not
abbrev pub BlocksComplete : Type 0
BlocksComplete = (n k : ℕ) (xs : List ℕ) → 0 < n → Blocks n k xs → Completes n k xs

-- a round of n nodes takes n turns at least
abbrev pub TurnsOfRounds : Type 0
TurnsOfRounds = (n k : ℕ) (xs : List ℕ) → Completes n k xs → n * k ≤ length xs

-- there are never more rounds than turns
abbrev pub RoundsBelowTurns : Type 0
RoundsBelowTurns = (n k : ℕ) (xs : List ℕ) → 0 < n → Completes n k xs → k ≤ length xs

-- the laws of rounds
pub record Laws : Type 0 where
  pub unique : Unique
  pub exists : Exists
  pub closes : Closes
  pub extends : Extends
  pub grows : Grows
  pub monotone : Monotone
  pub adds : Adds
  pub blocks : BlocksComplete
  pub turns_of_rounds : TurnsOfRounds
  pub rounds_below_turns : RoundsBelowTurns
