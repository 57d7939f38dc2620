-- A net as plain data: its calls, the checks of each in their order, and for each answer what it leaves.
use Rattle.std.specs.Prelude.{◌≡◌, ℕ, ◌+◌, ◌-◌, ◌<◌, ◌≤◌, Bool, true, false, cond, ◌⊎◌, List, [], ◌∷◌, Ok, Err, Result, ◌≢◌, slice_index, slice_set}
use Rattle.refusal.specs.declared.Refusal.{Refusal}
use Rattle.refusal.specs.declared.Refusal.TheVariants.{Limit, Place, Node, Exhausted, Early, Held, Foreign, Mismatch}
use Rattle.refusal.specs.Checks.{Checks, First, Free}
use Rattle.graph.specs.Model.{Model}
use Rattle.rounds.specs.Marks.{count_marked, Counts}
use Rattle.rounds.specs.Dues.{Dues as Daemon, Asked}
use Rattle.protocol.specs.declared.Output.{Output}
use Rattle.protocol.specs.Protocols.{Protocol, Registers, turn_budget, told_bound, told_size}
use Rattle.promise.specs.declared.Drawn.{Drawn}
use Rattle.promise.specs.declared.Lifted.{Lifted}

-- since the latest fault: how many turns, how many complete rounds, which nodes the open round has named, and the number of the last
-- round in which a register changed, or 0; besides, the registers, the owner's mark and whether a hold is open
pub record State : Type 0 where
  pub registers : List ℕ
  pub turns : ℕ
  pub rounds : ℕ
  pub named : ℕ → Bool
  pub last : ℕ
  pub mark : ℕ
  pub held : Bool

-- what a lift or a cancel is asked with
pub record Hold : Type 0 where
  pub mark : ℕ
  pub badge : ℕ

-- the numbers that a net tells
pub data Question : Type 0 where
  size bound height turns rounds last awaited mark : Question

abbrev pub number : Model → Protocol → State → Question → ℕ
number m p a size = told_size p
number m p a bound = told_bound p
number m p a height = p.height
number m p a turns = a.turns
number m p a rounds = a.rounds
number m p a last = a.last
number m p a awaited = m.nodes - count_marked m.nodes a.named
number m p a mark = a.mark

-- draw d y finds the daemon as d and leaves it as y; a daemon is what its dues are
pub data Call : Type 0 where
  turn : ℕ → Call
  draw : Daemon → Daemon → Call
  fault : ℕ → ℕ → Call
  ask : Question → Call
  ask_held : Call
  read : ℕ → Call
  tell : ℕ → Call
  hold : ℕ → Call
  lift : Hold → Call
  cancel : Hold → Call

-- a turn answers whether a register changed; a declined lift or cancel hands the hold back
abbrev pub Answer : Call → Type 0
Answer (turn v) = Result Bool Refusal
Answer (draw d y) = Result Drawn Refusal
Answer (fault i x) = Result (Unit {0}) Refusal
Answer (ask q) = ℕ
Answer ask_held = Bool
Answer (read i) = Result ℕ Refusal
Answer (tell v) = Result Output Refusal
Answer (hold b) = Result Hold Refusal
Answer (lift k) = Result Lifted (Refusal × Hold)
Answer (cancel k) = Result (Unit {0}) (Refusal × Hold)

-- what the checks of a net look at: whether its turns are spent, whether rounds are below the told bound, whether a hold is open, its mark
pub record Standing : Type 1 where
  pub Spent : Type 0
  pub Below : Type 0
  pub held : Bool
  pub mark : ℕ

-- the refusals of each call, in their order
abbrev pub checks : Model → Protocol → Standing → Call → Checks
checks m p s (turn v) = (Node, m.nodes ≤ v) ∷ (Exhausted, s.Spent) ∷ []
checks m p s (draw d y) = (Mismatch, (d.nodes ≢ m.nodes)) ∷ (Exhausted, s.Spent) ∷ []
checks m p s (fault i x) = (Limit, 65535 < x) ∷ (Place, told_size p ≤ i) ∷ []
checks m p s (ask q) = []
checks m p s ask_held = []
checks m p s (read i) = (Place, told_size p ≤ i) ∷ []
checks m p s (tell v) = (Node, m.nodes ≤ v) ∷ []
checks m p s (hold b) = (Held, s.held ≡ true) ∷ []
checks m p s (lift k) = (Foreign, ((k.mark ≢ s.mark) ⊎ (s.held ≡ false))) ∷ (Early, s.Below) ∷ []
checks m p s (cancel k) = (Foreign, ((k.mark ≢ s.mark) ⊎ (s.held ≡ false))) ∷ []

abbrev pub standing : Protocol → State → Standing
standing p a = record { Spent = turn_budget ≤ a.turns; Below = a.rounds < told_bound p; held = a.held; mark = a.mark }

-- nothing counted yet, of n nodes
pub record Fresh (n : ℕ) (z : State) : Type 0 where
  pub turns : z.turns ≡ 0
  pub rounds : z.rounds ≡ 0
  pub named : (w : ℕ) → w < n → z.named w ≡ false
  pub last : z.last ≡ 0

-- a net just set up over these registers
pub record Start (m : Model) (p : Protocol) (regs : List ℕ) (own : ℕ) (z : State) : Type 0 where
  pub sized : Registers p.size regs
  pub registers : z.registers ≡ regs
  pub fresh : Fresh m.nodes z
  pub mark : z.mark ≡ own
  pub held : z.held ≡ false

-- the turn of v came; changed: whether a register changed. It belongs to the round open before it
pub record Turned (m : Model) (p : Protocol) (a : State) (v : ℕ) (changed : Bool) (z : State) : Type 0 where
  pub registers : z.registers ≡ p.turn v a.registers
  pub moved : changed ≡ true → z.registers ≢ a.registers
  pub stayed : changed ≡ false → z.registers ≡ a.registers
  pub turns : z.turns ≡ a.turns + 1
  pub counts : Counts m.nodes v a.rounds a.named z.rounds z.named
  pub last : z.last ≡ cond changed (a.rounds + 1) a.last
  pub mark : z.mark ≡ a.mark
  pub held : z.held ≡ a.held

-- the register i became x, and all counters zero
pub record Faulted (m : Model) (a : State) (i x : ℕ) (z : State) : Type 0 where
  pub registers : z.registers ≡ slice_set a.registers i x
  pub fresh : Fresh m.nodes z
  pub mark : z.mark ≡ a.mark
  pub held : z.held ≡ a.held

-- the net, but for whether a hold is open
abbrev pub with_held : State → Bool → State
with_held a b = record { registers = a.registers; turns = a.turns; rounds = a.rounds; named = a.named; last = a.last; mark = a.mark; held = b }

-- the call, made of the net a, is answered so and leaves z: accepted where no check fails, else declined by the first, and nothing changes
abbrev pub Step : Model → Protocol → State → (c : Call) → Answer c → State → Type 0
Step m p a (turn v) (Ok b) z = Free (checks m p (standing p a) (turn v)) × Turned m p a v b z
Step m p a (turn v) (Err e) z = First (checks m p (standing p a) (turn v)) e × (z ≡ a)
Step m p a (draw d y) (Ok t) z = Free (checks m p (standing p a) (draw d y)) × Asked d t.node y × Turned m p a t.node t.changed z
Step m p a (draw d y) (Err e) z = First (checks m p (standing p a) (draw d y)) e × (y ≡ d) × (z ≡ a)
Step m p a (fault i x) (Ok u) z = Free (checks m p (standing p a) (fault i x)) × Faulted m a i x z
Step m p a (fault i x) (Err e) z = First (checks m p (standing p a) (fault i x)) e × (z ≡ a)
Step m p a (ask q) r z = (r ≡ number m p a q) × (z ≡ a)
Step m p a ask_held r z = (r ≡ a.held) × (z ≡ a)
Step m p a (read i) (Ok x) z = Free (checks m p (standing p a) (read i)) × (x ≡ slice_index a.registers i) × (z ≡ a)
Step m p a (read i) (Err e) z = First (checks m p (standing p a) (read i)) e × (z ≡ a)
Step m p a (tell v) (Ok o) z = Free (checks m p (standing p a) (tell v)) × (o ≡ p.output a.registers v) × (z ≡ a)
Step m p a (tell v) (Err e) z = First (checks m p (standing p a) (tell v)) e × (z ≡ a)
Step m p a (hold b) (Ok k) z = Free (checks m p (standing p a) (hold b)) × (k.mark ≡ a.mark) × (k.badge ≡ b) × (z ≡ with_held a true)
Step m p a (hold b) (Err e) z = First (checks m p (standing p a) (hold b)) e × (z ≡ a)
Step m p a (lift k) (Ok t) z = Free (checks m p (standing p a) (lift k)) × (t.bound ≡ told_bound p) × (t.last_change ≡ a.last) × (z ≡ with_held a false)
Step m p a (lift k) (Err e) z = First (checks m p (standing p a) (lift k)) e.0 × (e.1 ≡ k) × (z ≡ a)
Step m p a (cancel k) (Ok u) z = Free (checks m p (standing p a) (cancel k)) × (z ≡ with_held a false)
Step m p a (cancel k) (Err e) z = First (checks m p (standing p a) (cancel k)) e.0 × (e.1 ≡ k) × (z ≡ a)
