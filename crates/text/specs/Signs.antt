-- What a byte is to the scanner, and where a byte stands first.
use Rattle.std.specs.Prelude.{◌≡◌, ℕ, ◌+◌, ◌<◌, ◌≤◌, List, ◌∷◌, ◌++◌, Some, None, Option, length, take, ◌≢◌, slice_index}
use Rattle.std.specs.Int.{IsInRange}
use Rattle.text.specs.Page.{Lacks}
use Rattle.text.specs.declared.scan.Sign.{Sign}
use Rattle.text.specs.declared.scan.Sign.TheVariants.{Digit, Semicolon, LineFeed, Other}

-- a digit by its value, the semicolon, the line feed, or none of them
abbrev pub Signs : ℕ → Sign → Type 0
Signs b (Digit d) = (b ≡ 48 + d) × (d < 10)
Signs b Semicolon = b ≡ 59
Signs b LineFeed = b ≡ 10
Signs b Other = (IsInRange 48 57 b → ⊥) × (b ≢ 59) × (b ≢ 10)

-- k is the place of the first c in s, or the length of s
pub record First (c : ℕ) (s : List ℕ) (k : ℕ) : Type 0 where
  pub within : k ≤ length s
  pub before : Lacks c (take k s)
  pub found : k < length s → slice_index s k ≡ c

-- what stands before the first c, and what after it
abbrev pub Split : ℕ → List ℕ → Option (List ℕ × List ℕ) → Type 0
Split c l (Some p) = (l ≡ p.0 ++ (c ∷ p.1)) × Lacks c p.0
Split c l None = Lacks c l
