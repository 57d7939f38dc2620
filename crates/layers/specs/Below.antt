-- What a layer knows of the protocol that it stands over, at a site, and what it owes.
use Rattle.std.specs.Prelude.{◌≡◌, ℕ, suc, ◌+◌, ◌≤◌, Bool, ◌&&◌, cond, List, ◌++◌, Some, None, Option, ◌==◌, nat_lt}
use Rattle.graph.specs.Model.{Model}
use Rattle.protocol.specs.declared.Output.{Output}
use Rattle.protocol.specs.Layers.{Layer}
use Rattle.protocol.specs.Outputs.{stored}
use Rattle.protocol.specs.Protocols.{Protocol, Registers}
use Rattle.protocol.proofs.LayerTurns.{registers_append}
use Rattle.silent.specs.declared.Silent.{Ghosts}
use Rattle.registers.specs.declared.Block.{Block}
use Rattle.registers.specs.Blocks.{front}
use Rattle.registers.specs.Fronts.{front_registers}
use Rattle.registers.specs.Lists.{Changed}

-- what a value is
abbrev pub means : {X : Type 0} → Ghosts X → X → Model → Protocol
means g s m = g.meaning (g.plan s) m

-- what each node tells
abbrev pub told : {X : Type 0} → Ghosts X → X → Model → ℕ → Output
told g s m = (means g s m).output (g.registers s m)

-- whether u is a node of the n and tells v as its parent
abbrev pub is_child : ℕ → (ℕ → Output) → ℕ → ℕ → Bool
is_child n t v u = nat_lt u n && (stored (t u).parent == suc v)

-- what u tells, if it does
abbrev pub child_told : ℕ → (ℕ → Output) → ℕ → ℕ → Option Output
child_told n t v u = cond (is_child n t v u) (Some (t u)) None

-- a turn of v did what the layer's rule says where t is told below, and tells whether that changed its registers
abbrev pub Ruled : Layer → (ℕ → Output) → ℕ → Block 2304 → Bool → Block 2304 → Type 0
Ruled a t v b r c = (front a.size c ≡ a.rule t v (front a.size b)) × Changed (front a.size b) r (front a.size c)

-- the registers below and those of a layer are as many as both have
pub layer_sized : (p : Protocol) (a : Layer) → a.size ≤ 2304 → (xs : List ℕ) (b : Block 2304) → Registers p.size xs → Registers (p.size + a.size) (xs ++ front a.size b)
layer_sized p a few xs b h = registers_append p.size a.size xs (front a.size b) h (front_registers a.size b few)
