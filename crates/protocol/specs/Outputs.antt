-- What nodes tell: outputs with one part replaced, and chains of told parents.
use Rattle.std.specs.Prelude.{◌≡◌, ℕ, zero, suc, ◌<◌, ◌≤◌, Some, None, Option}
use Rattle.protocol.specs.declared.Output.{Output}

-- an output that a protocol neither makes nor passes on
abbrev pub plain : Output
plain = record { parent = None; count = 1; rank = 0; mate = None }

abbrev pub with_parent : Output → Option ℕ → Output
with_parent o p = record { parent = p; count = o.count; rank = o.rank; mate = o.mate }

abbrev pub with_count : Output → ℕ → Output
with_count o c = record { parent = o.parent; count = c; rank = o.rank; mate = o.mate }

abbrev pub with_rank : Output → ℕ → Output
with_rank o r = record { parent = o.parent; count = o.count; rank = r; mate = o.mate }

abbrev pub with_mate : Output → Option ℕ → Output
with_mate o u = record { parent = o.parent; count = o.count; rank = o.rank; mate = u }

-- a node or none as a register holds it: 0 for none, else the node's number plus 1
abbrev pub stored : Option ℕ → ℕ
stored None = 0
stored (Some u) = suc u

-- the chain of told parents from v has exactly k links, and ends
abbrev pub Chain : (ℕ → Output) → ℕ → ℕ → Type 0
Chain t zero v = (t v).parent ≡ None
Chain t (suc k) v = (u : ℕ) × ((t v).parent ≡ Some u) × Chain t k u

-- of n nodes, every chain ends after at most h links, and some node's has exactly h
pub record Tall (n : ℕ) (t : ℕ → Output) (h : ℕ) : Type 0 where
  pub most : (v : ℕ) → v < n → (k : ℕ) × (k ≤ h) × Chain t k v
  pub longest : (v : ℕ) × (v < n) × Chain t h v
