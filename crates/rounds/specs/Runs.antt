-- Runs of turns from any state, and what they settle in within a number of rounds.
-- A turn of the node v makes the state s the state step v s.
use Rattle.std.specs.Prelude.{◌≡◌, ℕ, suc, ◌+◌, ◌<◌, ◌≤◌, max, List, [], ◌∷◌, ◌++◌, ◌≢◌}
use Rattle.lists.specs.Members.{Among}
use Rattle.rounds.specs.Rounds.{Completes}

-- the state after the turns of a list, from the state s
abbrev pub run : {S : Type 0} → (ℕ → S → S) → List ℕ → S → S
run step [] s = s
run step (v ∷ ts) s = run step ts (step v s)

-- every turn is a node's
abbrev pub Below : ℕ → List ℕ → Type 0
Below n ts = (v : ℕ) → Among v ts → v < n

-- every turn keeps P
abbrev pub Kept : {S : Type 0} → (ℕ → S → S) → ℕ → (S → Type 0) → Type 0
Kept {S} step n P = (v : ℕ) (s : S) → v < n → P s → P (step v s)

-- from P, any turns that complete b rounds end in Q
abbrev pub From : {S : Type 0} → (ℕ → S → S) → ℕ → (S → Type 0) → ℕ → (S → Type 0) → Type 0
From {S} step n P b Q = (s : S) (ts : List ℕ) → P s → Below n ts → Completes n b ts → Q (run step ts s)

-- from any state, any turns that complete b rounds end in Q
abbrev pub Settles : {S : Type 0} → (ℕ → S → S) → ℕ → ℕ → (S → Type 0) → Type 0
Settles {S} step n b Q = From step n (λ _. Unit {0}) b Q

-- turns run one after the other
abbrev pub RunAppend : (S : Type 0) → (ℕ → S → S) → Type 0
RunAppend S step = (xs ys : List ℕ) (s : S) → run step (xs ++ ys) s ≡ run step ys (run step xs s)

-- what every turn keeps, every run keeps
abbrev pub KeptRun : (S : Type 0) → (ℕ → S → S) → (S → Type 0) → Type 0
KeptRun S step P = (n : ℕ) → Kept step n P → (ts : List ℕ) (s : S) → Below n ts → P s → P (run step ts s)

-- b rounds to Q, and then c rounds to R
abbrev pub Compose : (S : Type 0) → (ℕ → S → S) → (P Q R : S → Type 0) → Type 0
Compose S step P Q R = (n b c : ℕ) → 0 < n → From step n P b Q → From step n Q c R → From step n P (b + c) R

-- b rounds to Q and c rounds to R are, for the more of them, rounds to both
abbrev pub Both : (S : Type 0) → (ℕ → S → S) → (P Q R : S → Type 0) → Type 0
Both S step P Q R = (n b c : ℕ) → From step n P b Q → From step n P c R → From step n P (max b c) (λ s. Q s × R s)

-- what v's turn makes good and no turn spoils, holds after a round
abbrev pub OneRound : (S : Type 0) → (ℕ → S → S) → (P G : S → Type 0) → Type 0
OneRound S step P G = (n v : ℕ) → v < n → Kept step n P → ((s : S) → P s → G (step v s)) → Kept step n (λ s. P s × G s) → From step n P 1 G

-- waves: in each round from P k on, every node's turn makes that node good, it stays so, and once all nodes are good P (k + 1) holds
pub record Waves (S : Type 0) (step : ℕ → S → S) (n : ℕ) (P : ℕ → S → Type 0) (Good : ℕ → ℕ → S → Type 0) : Type 0 where
  pub kept : (k : ℕ) → Kept step n (P k)
  pub turn : (k v : ℕ) (s : S) → v < n → P k s → Good k v (step v s)
  pub stays : (k v u : ℕ) (s : S) → v < n → u < n → P k s → Good k v s → Good k v (step u s)
  pub joins : (k : ℕ) (s : S) → P k s → ((v : ℕ) → v < n → Good k v s) → P (suc k) s

-- b waves take b rounds
abbrev pub Induction : (S : Type 0) → (ℕ → S → S) → (ℕ → S → Type 0) → (ℕ → ℕ → S → Type 0) → Type 0
Induction S step P Good = (n : ℕ) → 0 < n → Waves S step n P Good → (b : ℕ) → From step n (P 0) b (P b)

-- every node of a place below k is good
abbrev pub GoodBelow : {S : Type 0} → ℕ → (ℕ → ℕ) → (ℕ → S → Type 0) → ℕ → S → Type 0
GoodBelow n place Good k s = (u : ℕ) → u < n → place u < k → Good u s

-- nodes settle by their places, 0 to h, each by its own turn once those of lower places are good:
-- a good node's turn then changes nothing, and no turn of a node of the same or a higher place spoils it
pub record Placed (S : Type 0) (step : ℕ → S → S) (n h : ℕ) (Ok : S → Type 0) (place : ℕ → ℕ) (Good : ℕ → S → Type 0) : Type 0 where
  pub low : (v : ℕ) → v < n → place v ≤ h
  pub kept : Kept step n Ok
  pub turn : (v : ℕ) (s : S) → v < n → Ok s → GoodBelow n place Good (place v) s → Good v (step v s)
  pub still : (v : ℕ) (s : S) → v < n → Ok s → GoodBelow n place Good (place v) s → Good v s → step v s ≡ s
  pub apart : (v u : ℕ) (s : S) → v < n → u < n → (u ≢ v) → place v ≤ place u → Ok s → Good v s → Good v (step u s)

-- a round for each place makes every node good, and no turn changes the state any more
abbrev pub ByPlaces : (S : Type 0) → (ℕ → S → S) → (S → Type 0) → (ℕ → S → Type 0) → Type 0
ByPlaces S step Ok Good = (n h : ℕ) (place : ℕ → ℕ) → 0 < n → Placed S step n h Ok place Good → From step n Ok (suc h) (λ s. Ok s × ((v : ℕ) → v < n → Good v s) × ((v : ℕ) → v < n → step v s ≡ s))

-- the same where a node is good if its turn changes nothing: h + 1 rounds reach a common fixpoint
abbrev pub Fixpoint : (S : Type 0) → (ℕ → S → S) → (S → Type 0) → Type 0
Fixpoint S step Ok = (n h : ℕ) (place : ℕ → ℕ) → 0 < n → ((v : ℕ) → v < n → place v ≤ h) → Kept step n Ok
    → ((v : ℕ) (s : S) → v < n → Ok s → step v (step v s) ≡ step v s)
    → ((v u : ℕ) (s : S) → v < n → u < n → (u ≢ v) → place v ≤ place u → Ok s → step v s ≡ s → step v (step u s) ≡ step u s)
    → From step n Ok (suc h) (λ s. Ok s × ((v : ℕ) → v < n → step v s ≡ s))

-- a state that no turn changes stays as it is
abbrev pub Rests : (S : Type 0) → (ℕ → S → S) → Type 0
Rests S step = (n : ℕ) (s : S) → ((v : ℕ) → v < n → step v s ≡ s) → (ts : List ℕ) → Below n ts → run step ts s ≡ s

-- the principles, over any states, any step, any predicates of states and of nodes in them
pub record Laws (S : Type 0) (step : ℕ → S → S) (holds : ℕ → S → Type 0) (good : ℕ → ℕ → S → Type 0) : Type 0 where
  pub append : RunAppend S step
  pub keeps : (i : ℕ) → KeptRun S step (holds i)
  pub compose : (i j k : ℕ) → Compose S step (holds i) (holds j) (holds k)
  pub both : (i j k : ℕ) → Both S step (holds i) (holds j) (holds k)
  pub one : (i j : ℕ) → OneRound S step (holds i) (holds j)
  pub induction : Induction S step holds good
  pub places : (i j : ℕ) → ByPlaces S step (holds i) (good j)
  pub fixpoint : (i : ℕ) → Fixpoint S step (holds i)
  pub rests : Rests S step
