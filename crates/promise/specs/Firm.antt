-- What a net is said to do leaves no choice: every call has an answer, and only one, and leaves one state; and the numbers told are fixed.
use Rattle.std.specs.Prelude.{◌≡◌, ℕ, ◌<◌, ◌≤◌, List, replicate, Ok, Err, Result}
use Rattle.refusal.specs.declared.Refusal.{Refusal}
use Rattle.refusal.specs.declared.Refusal.TheVariants.{Exhausted}
use Rattle.graph.specs.Model.{Model}
use Rattle.rounds.specs.Changes.{Last}
use Rattle.protocol.specs.Protocols.{Protocol, turn_budget}
use Rattle.promise.specs.declared.Drawn.{Drawn}
use Rattle.rounds.specs.Dues.{Dues as Daemon, Asked}
use Rattle.promise.specs.Nets.{State, Call, turn, draw, fault, ask, ask_held, read, tell, hold, lift, cancel, Answer, Step}
use Rattle.promise.specs.History.{Rounds, Awaited}

-- two states that no call tells apart: of nodes past the last, no mark is looked at
pub record Same (n : ℕ) (y z : State) : Type 0 where
  pub registers : y.registers ≡ z.registers
  pub turns : y.turns ≡ z.turns
  pub rounds : y.rounds ≡ z.rounds
  pub named : (w : ℕ) → w < n → y.named w ≡ z.named w
  pub last : y.last ≡ z.last
  pub mark : y.mark ≡ z.mark
  pub held : y.held ≡ z.held

-- the daemon named the same node, if both draws asked it
abbrev pub Names : Result Drawn Refusal → Result Drawn Refusal → Type 0
Names (Ok t) (Ok u) = t.node ≡ u.node
Names (Ok t) (Err e) = Unit {0}
Names (Err e) (Ok u) = Unit {0}
Names (Err e) (Err f) = Unit {0}

-- two answers that rest on the same choices of others: only a draw has one, the node that the daemon names
abbrev pub Alike : (c : Call) → Answer c → Answer c → Type 0
Alike (turn v) r s = Unit {0}
Alike (draw d y) r s = Names r s
Alike (fault i x) r s = Unit {0}
Alike (ask q) r s = Unit {0}
Alike ask_held r s = Unit {0}
Alike (read i) r s = Unit {0}
Alike (tell v) r s = Unit {0}
Alike (hold b) r s = Unit {0}
Alike (lift k) r s = Unit {0}
Alike (cancel k) r s = Unit {0}

-- a call that asks no daemon
abbrev pub Undrawn : Call → Type 0
Undrawn (turn v) = Unit {0}
Undrawn (draw d y) = ⊥
Undrawn (fault i x) = Unit {0}
Undrawn (ask q) = Unit {0}
Undrawn ask_held = Unit {0}
Undrawn (read i) = Unit {0}
Undrawn (tell v) = Unit {0}
Undrawn (hold b) = Unit {0}
Undrawn (lift k) = Unit {0}
Undrawn (cancel k) = Unit {0}

pub record Firm (m : Model) (p : Protocol) : Type 0 where
  -- every call is answered, a draw by what the daemon names if asked
  pub answered : (a : State) (c : Call) → Undrawn c → (r : Answer c) × (z : State) × Step m p a c r z
  pub drawn : (a : State) (d : Daemon) (v : ℕ) (y : Daemon) → Asked d v y → (x : Daemon) × (r : Answer (draw d x)) × (z : State) × Step m p a (draw d x) r z
  -- in one way, which leaves one state
  pub determined : (a : State) (c : Call) (r s : Answer c) (y z : State) → Step m p a c r y → Step m p a c s z → Alike c r s → (r ≡ s) × Same m.nodes y z
  -- turns complete one number of rounds, await one number of nodes, and have one last round of a change
  pub rounds : (ts : List ℕ) (k j : ℕ) → Rounds m.nodes ts k → Rounds m.nodes ts j → k ≡ j
  pub awaited : (ts : List ℕ) (k j : ℕ) → Awaited m.nodes ts k → Awaited m.nodes ts j → k ≡ j
  pub last : (xs ts : List ℕ) (k j : ℕ) → Last m.nodes p.turn xs ts k → Last m.nodes p.turn xs ts j → k ≡ j
  -- however many turns one node has, no round is complete while there is another
  pub alone : (v k c : ℕ) → 2 ≤ m.nodes → Rounds m.nodes (replicate c v) k → k ≡ 0
  -- past the budget a turn of any node is declined
  pub spent : (a z : State) (v : ℕ) (r : Answer (turn v)) → v < m.nodes → turn_budget ≤ a.turns → Step m p a (turn v) r z → r ≡ Err Exhausted
