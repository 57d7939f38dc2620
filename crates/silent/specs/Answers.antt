-- What the calls of a protocol answer, and what they leave.
use Rattle.std.specs.Prelude.{◌≡◌, ℕ, ◌<◌, ◌≤◌, Bool, List, Ok, Err, Result, slice_index, slice_set}
use Rattle.refusal.specs.declared.Refusal.{Refusal}
use Rattle.refusal.specs.declared.Refusal.TheVariants.{Place, Node}
use Rattle.graph.specs.Model.{Model}
use Rattle.protocol.specs.declared.Output.{Output}
use Rattle.protocol.specs.Protocols.{Protocol, told_size}
use Rattle.registers.specs.Lists.{Changed}

-- a turn of a node does what the meaning says and tells whether a register changed; of no node, nothing changes
abbrev pub Turned : Model → Protocol → ℕ → List ℕ → Result Bool Refusal → List ℕ → Type 0
Turned m p v xs (Ok b) ys = (v < m.nodes) × (ys ≡ p.turn v xs) × Changed xs b ys
Turned m p v xs (Err e) ys = (m.nodes ≤ v) × (e ≡ Node) × (ys ≡ xs)

-- the register at a place becomes x and no other changes; a place past the last changes nothing
abbrev pub Written : Protocol → ℕ → ℕ → List ℕ → Result (Unit {0}) Refusal → List ℕ → Type 0
Written p i x xs (Ok u) ys = (i < told_size p) × (ys ≡ slice_set xs i x)
Written p i x xs (Err e) ys = (told_size p ≤ i) × (e ≡ Place) × (ys ≡ xs)

-- a register is read
abbrev pub Read : Protocol → ℕ → List ℕ → Result ℕ Refusal → Type 0
Read p i xs (Ok x) = (i < told_size p) × (x ≡ slice_index xs i)
Read p i xs (Err e) = (told_size p ≤ i) × (e ≡ Place)

-- what a node tells is told
abbrev pub Told : Model → Protocol → ℕ → List ℕ → Result Output Refusal → Type 0
Told m p v xs (Ok o) = (v < m.nodes) × (o ≡ p.output xs v)
Told m p v xs (Err e) = (m.nodes ≤ v) × (e ≡ Node)
