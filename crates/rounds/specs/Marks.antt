-- The counter of rounds: marks on the nodes that had a turn in the open round.
use Rattle.std.specs.Prelude.{◌≡◌, ℕ, zero, suc, ◌+◌, ◌<◌, Bool, true, false, cond, ◌&&◌, ◌||◌, List, [], ◌∷◌, ◌++◌, Decides, ◌==◌}
use Rattle.lists.specs.Members.{Among}
use Rattle.rounds.specs.Forest.{Counted}
use Rattle.rounds.specs.Rounds.{Covers, Splits}

-- the marks f, and one on v
abbrev pub marked : (ℕ → Bool) → ℕ → ℕ → Bool
marked f v w = w == v || f w

-- whether every node has a mark
abbrev pub all_marked : ℕ → (ℕ → Bool) → Bool
all_marked zero f = true
all_marked (suc n) f = f n && all_marked n f

-- how many nodes have a mark
abbrev pub count_marked : ℕ → (ℕ → Bool) → ℕ
count_marked zero f = 0
count_marked (suc n) f = cond (f n) 1 0 + count_marked n f

-- the nodes with a mark are those with a turn in r
abbrev pub Marks : ℕ → (ℕ → Bool) → List ℕ → Type 0
Marks n f r = (w : ℕ) → w < n → Decides (f w) (Among w r)

-- the turns xs completed k rounds, and f marks the nodes that had a turn since
abbrev pub Tracks : ℕ → ℕ → (ℕ → Bool) → List ℕ → Type 0
Tracks n k f xs = (r : List ℕ) × Splits n k xs r × Marks n f r

-- a turn of v moves the counter from k and f to j and g: it marks v, and once all nodes have a mark it counts the round and clears them
pub record Counts (n v k : ℕ) (f : ℕ → Bool) (j : ℕ) (g : ℕ → Bool) : Type 0 where
  pub rounds : j ≡ cond (all_marked n (marked f v)) (k + 1) k
  pub marks : (w : ℕ) → w < n → g w ≡ cond (all_marked n (marked f v)) false (marked f v w)

-- no mark, before the first turn
abbrev pub TracksFirst : Type 0
TracksFirst = (n : ℕ) (f : ℕ → Bool) → 0 < n → ((w : ℕ) → w < n → f w ≡ false) → Tracks n 0 f []

-- the counter is right after every turn
abbrev pub TracksNext : Type 0
TracksNext = (n v k j : ℕ) (f g : ℕ → Bool) (xs : List ℕ) → 0 < n → Tracks n k f xs → Counts n v k f j g → Tracks n j g (xs ++ (v ∷ []))

-- all nodes have a mark just if all had a turn
abbrev pub MarksAll : Type 0
MarksAll = (n : ℕ) (f : ℕ → Bool) (r : List ℕ) → Marks n f r → Decides (all_marked n f) (Covers n r)

-- the number of marks is the number of different nodes that had a turn
abbrev pub MarksCount : Type 0
MarksCount = (n : ℕ) (f : ℕ → Bool) (r : List ℕ) → Marks n f r → Counted (λ v. Among v r) n (count_marked n f)

-- all nodes have a mark just if there are n marks
abbrev pub AllCount : Type 0
AllCount = (n : ℕ) (f : ℕ → Bool) → Decides (all_marked n f) (count_marked n f ≡ n)

-- the laws of the counter
pub record Laws : Type 0 where
  pub first : TracksFirst
  pub next : TracksNext
  pub all : MarksAll
  pub count : MarksCount
  pub full : AllCount
