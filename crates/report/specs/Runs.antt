-- The run that a sheet asks for: the registers that its faults leave, the turns that its daemon names, and what is told at the end.
use Rattle.std.specs.Prelude.{◌≡◌, ℕ, ◌%◌, ◌<◌, ◌≤◌, List, [], ◌∷◌, map, length, slice_index, slice_set}
use Rattle.refusal.specs.Checks.{Free}
use Rattle.text.specs.declared.records.FaultLine.{FaultLine}
use Rattle.text.specs.declared.records.TurnLine.{TurnLine}
use Rattle.silent.specs.declared.Silent.{Ghosts}
use Rattle.daemon.specs.ScriptChecks.{script_checks}
use Rattle.promise.specs.Nets.{Fresh}
use Rattle.net.specs.declared.net.Net.{Net}
use Rattle.net.specs.Calls.{Stays, at, state}
use Rattle.net.specs.Settling.{Whole}

-- each fault writes one register
abbrev pub faulted : List FaultLine → List ℕ → List ℕ
faulted [] xs = xs
faulted (f ∷ fs) xs = faulted fs (slice_set xs f.register.value f.value.value)

-- the node that gets turn k, from 0: without names every node in its order, else the names in theirs, again and again
abbrev pub named : ℕ → List ℕ → ℕ → ℕ
named n [] k = k % n
named n (x ∷ xs) k = slice_index (x ∷ xs) (k % length (x ∷ xs))

-- turns in that order
abbrev pub Ordered : ℕ → List ℕ → List ℕ → Type 0
Ordered n names vs = (k : ℕ) → k < length vs → slice_index vs k ≡ named n names k

-- the nodes of turn lines
abbrev pub names_of : List TurnLine → List ℕ
names_of ts = map (λ t. t.node.value) ts

-- what can be run: every fault is of a register and its value has 16 bits; turn lines, if any, make a script
abbrev pub Fit : ℕ → FaultLine → Type 0
Fit size f = (f.register.value < size) × (f.value.value ≤ 65535)

abbrev pub Scripted : ℕ → List ℕ → Type 0
Scripted n [] = Unit {0}
Scripted n (x ∷ xs) = Free (script_checks n (x ∷ xs))

-- the faults were entered
pub record Entered {X : Type 0} (g : Ghosts X) (a : Net X) (fs : List FaultLine) (z : Net X) : Type 0 where
  pub stays : Stays g a z
  pub registers : (state g z).registers ≡ faulted fs (state g a).registers
  pub fresh : Fresh (at a).nodes (state g a) → Fresh (at z).nodes (state g z)

-- turns in the order of the names brought the net from a to z, just as many rounds as the bound
abbrev pub Rested : {X : Type 0} → Ghosts X → Net X → List ℕ → Net X → Type 0
Rested g a names z = (vs : List ℕ) × Ordered (at a).nodes names vs × Whole g a vs z
