-- The meaning of a silent protocol at a site, and the laws that it owes.
use Rattle.std.specs.Prelude.{◌≡◌, ℕ, ◌<◌, min, List, length, Some}
use Rattle.std.specs.List.{AllByRecursion}
use Rattle.lists.specs.Members.{Among}
use Rattle.graph.specs.Model.{Model, ports}
use Rattle.rounds.specs.Rounds.{Completes}
use Rattle.rounds.specs.Runs.{Below, run}
use Rattle.protocol.specs.declared.Output.{Output}
use Rattle.protocol.specs.Outputs.{Tall}

-- how many registers there are, what a turn of a node makes of them, what each node tells, which outputs are legitimate,
-- which registers are at rest, the rounds within which rest is reached, and the longest chain of told parents at rest
pub record Protocol : Type 1 where
  pub size : ℕ
  pub turn : ℕ → List ℕ → List ℕ
  pub output : List ℕ → ℕ → Output
  pub Legitimate : (ℕ → Output) → Type 0
  pub Rest : List ℕ → Type 0
  pub bound : ℕ
  pub height : ℕ

-- so many registers, each of 16 bits
abbrev pub Registers : ℕ → List ℕ → Type 0
Registers size xs = (length xs ≡ size) × AllByRecursion (λ x. x < 65536) xs

-- the laws of a protocol at a site
pub record Laws (m : Model) (p : Protocol) : Type 0 where
  -- a turn keeps the number of registers and their width
  pub keeps : (v : ℕ) (xs : List ℕ) → v < m.nodes → Registers p.size xs → Registers p.size (p.turn v xs)
  -- a told parent is a neighbour
  pub near : (xs : List ℕ) (v u : ℕ) → v < m.nodes → Registers p.size xs → (p.output xs v).parent ≡ Some u → Among u (ports m v)
  -- at rest no turn changes a register
  pub still : (xs : List ℕ) → Registers p.size xs → p.Rest xs → (v : ℕ) → v < m.nodes → p.turn v xs ≡ xs
  -- at rest the outputs are legitimate
  pub right : (xs : List ℕ) → Registers p.size xs → p.Rest xs → p.Legitimate (p.output xs)
  -- from any registers, every list of turns that completes as many rounds as the bound ends at rest
  pub settles : (xs ts : List ℕ) → Registers p.size xs → Below m.nodes ts → Completes m.nodes p.bound ts → p.Rest (run p.turn ts xs)
  -- at rest chains of told parents end, and the longest has as many links as the height
  pub tall : (xs : List ℕ) → Registers p.size xs → p.Rest xs → Tall m.nodes (p.output xs) p.height

-- turns that a net grants between faults; a bound and a number of registers are told as no more than these
abbrev pub turn_budget : ℕ
turn_budget = 1000000

abbrev pub bound_clip : ℕ
bound_clip = 1000001

abbrev pub size_clip : ℕ
size_clip = 4294967296

abbrev pub told_bound : Protocol → ℕ
told_bound p = min p.bound bound_clip

abbrev pub told_size : Protocol → ℕ
told_size p = min p.size size_clip
