-- Views of a state on which turns act by a step of their own: what the view settles in, the state settles in.
use Rattle.std.specs.Prelude.{◌≡◌, ℕ, ◌+◌, ◌<◌, List}
use Rattle.rounds.specs.Runs.{run, Below, Kept, From}

-- in the states P, which turns keep, a turn of v changes the view by the part's own step
pub record Views (S T : Type 0) (step : ℕ → S → S) (part : ℕ → T → T) (view : S → T) (n : ℕ) (P : S → Type 0) : Type 0 where
  pub kept : Kept step n P
  pub acts : (v : ℕ) (s : S) → v < n → P s → view (step v s) ≡ part v (view s)

-- the view of a run is the run of the view
abbrev pub RunView : (S T : Type 0) → (ℕ → S → S) → (ℕ → T → T) → (S → T) → (S → Type 0) → Type 0
RunView S T step part view P = (n : ℕ) → Views S T step part view n P → (ts : List ℕ) (s : S) → Below n ts → P s → view (run step ts s) ≡ run part ts (view s)

-- where the part goes from Q to R in b rounds, so does the view
abbrev pub FromView : (S T : Type 0) → (ℕ → S → S) → (ℕ → T → T) → (S → T) → (S → Type 0) → (Q R : T → Type 0) → Type 0
FromView S T step part view P Q R = (n b : ℕ) → Views S T step part view n P → From part n Q b R → From step n (λ s. P s × Q (view s)) b (λ s. P s × R (view s))

-- where the view comes to rest in b rounds, and over any view at rest c rounds more reach Own, b + c rounds reach both
abbrev pub Stacks : (S T : Type 0) → (ℕ → S → S) → (ℕ → T → T) → (S → T) → (S → Type 0) → (Q R : T → Type 0) → (T → S → Type 0) → Type 0
Stacks S T step part view P Q R Own = (n b c : ℕ) → 0 < n → Views S T step part view n P → From part n Q b R
    → ((z : T) → R z → (v : ℕ) → v < n → part v z ≡ z)
    → ((z : T) → R z → From step n (λ s. P s × (view s ≡ z)) c (Own z))
    → From step n (λ s. P s × Q (view s)) (b + c) (λ s. P s × R (view s) × Own (view s) s)

-- the laws of views, over any states, views, steps and predicates
pub record Laws (S T : Type 0) (step : ℕ → S → S) (part : ℕ → T → T) (view : S → T) (holds : ℕ → S → Type 0) (shows : ℕ → T → Type 0) (own : T → S → Type 0) : Type 0 where
  pub run : (i : ℕ) → RunView S T step part view (holds i)
  pub from : (i j k : ℕ) → FromView S T step part view (holds i) (shows j) (shows k)
  pub stacks : (i j k : ℕ) → Stacks S T step part view (holds i) (shows j) (shows k) own
