-- Scripts: within how many askings a node is named, and what the calls answer.
use Rattle.std.specs.Prelude.{◌≡◌, ℕ, suc, ◌+◌, ◌%◌, cond, List, [], ◌∷◌, ◌++◌, length, take, drop, vec_items, Result, ◌==◌, slice_index}
use Rattle.refusal.specs.declared.Refusal.{Refusal}
use Rattle.refusal.specs.Checks.{Judged, Made}
use Rattle.refusal.specs.declared.fault.Fault.{Fault}
use Rattle.daemon.specs.declared.script.Script.{Script}
use Rattle.rounds.specs.Dues.{Dues}
use Rattle.daemon.specs.ScriptChecks.{script_checks}

-- the names of a script
abbrev pub names_of : Script → List ℕ
names_of s = vec_items s.names

-- the names in the order in which they come, from a place on
abbrev pub upcoming : List ℕ → ℕ → List ℕ
upcoming names place = drop place names ++ take place names

-- the askings until v is named, where these names come
abbrev pub wait : ℕ → List ℕ → ℕ
wait v [] = 1
wait v (x ∷ xs) = cond (v == x) 1 (suc (wait v xs))

-- what a script means
abbrev pub script_dues : Script → Dues
script_dues s = record { nodes = s.nodes; patience = length (names_of s); due = λ v. wait v (upcoming (names_of s) s.at) }

-- a script of these names that begins with the first
abbrev pub Begins : ℕ → List ℕ → Script → Type 0
Begins n names s = (s.nodes ≡ n) × (names_of s ≡ names) × (s.at ≡ 0)

-- such a script was made, or declined, or memory was wanting
abbrev pub ScriptMade : ℕ → List ℕ → Result Script Fault → Type 0
ScriptMade n names = Made (script_checks n names) (Begins n names)

-- names that were handed over make the same script, or are declined alike; no memory is wanted
abbrev pub ScriptOwned : ℕ → List ℕ → Result Script Refusal → Type 0
ScriptOwned n names = Judged (script_checks n names) (Begins n names)

-- a script named what stands at its place, and the next place is one on, from the last to the first
pub record ScriptAsked (a : Script) (v : ℕ) (z : Script) : Type 0 where
  pub named : v ≡ slice_index (names_of a) a.at
  pub place : z.at ≡ (a.at + 1) % length (names_of a)
  pub names : names_of z ≡ names_of a
  pub nodes : z.nodes ≡ a.nodes
