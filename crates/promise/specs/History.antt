-- What the accepted calls of a net make, in the subject's words. Histories are newest first; lists of turns are oldest first.
use Rattle.std.specs.Prelude.{◌≡◌, ℕ, suc, ◌+◌, ◌<◌, ◌≤◌, Bool, true, false, List, [], ◌∷◌, ◌++◌, length, Ok, Err, slice_set}
use Rattle.lists.specs.Members.{Among}
use Rattle.rounds.specs.Rounds.{Splits}
use Rattle.rounds.specs.Forest.{Counted}
use Rattle.graph.specs.Model.{Model}
use Rattle.protocol.specs.Protocols.{Protocol, turn_budget, told_bound}
use Rattle.rounds.specs.Dues.{Dues as Daemon, Timely}
use Rattle.promise.specs.Nets.{Call, turn, draw, fault, ask, ask_held, read, tell, hold, lift, cancel, Answer, Standing}

-- an accepted call that does something: drawn d v y by the daemon d, which named v and became y
pub data Event : Type 0 where
  turned : ℕ → Event
  drawn : Daemon → ℕ → Daemon → Event
  faulted : ℕ → ℕ → Event
  held : Event
  released : Event

-- a call and its answer
abbrev pub Exchange : Type 0
Exchange = (c : Call) × Answer c

-- declined calls and readings are no events
abbrev pub events : (c : Call) → Answer c → List Event
events (turn v) (Ok b) = turned v ∷ []
events (turn v) (Err e) = []
events (draw d y) (Ok t) = drawn d t.node y ∷ []
events (draw d y) (Err e) = []
events (fault i x) (Ok u) = faulted i x ∷ []
events (fault i x) (Err e) = []
events (ask q) r = []
events ask_held r = []
events (read i) r = []
events (tell v) r = []
events (hold b) (Ok k) = held ∷ []
events (hold b) (Err e) = []
events (lift k) (Ok t) = released ∷ []
events (lift k) (Err e) = []
events (cancel k) (Ok u) = released ∷ []
events (cancel k) (Err e) = []

-- the history of a run: its accepted events since set-up
abbrev pub accepted : List Exchange → List Event
accepted [] = []
accepted (e ∷ es) = events e.0 e.1 ++ accepted es

-- the turns since the latest fault
abbrev pub since : List Event → List ℕ
since [] = []
since (turned v ∷ h) = since h ++ (v ∷ [])
since (drawn d v y ∷ h) = since h ++ (v ∷ [])
since (faulted i x ∷ h) = []
since (held ∷ h) = since h
since (released ∷ h) = since h

-- the registers now, of those found at set-up: a fault writes one, a turn does what the protocol's meaning says
abbrev pub registers : Protocol → List ℕ → List Event → List ℕ
registers p regs [] = regs
registers p regs (turned v ∷ h) = p.turn v (registers p regs h)
registers p regs (drawn d v y ∷ h) = p.turn v (registers p regs h)
registers p regs (faulted i x ∷ h) = slice_set (registers p regs h) i x
registers p regs (held ∷ h) = registers p regs h
registers p regs (released ∷ h) = registers p regs h

-- the registers as the latest fault left them
abbrev pub left : Protocol → List ℕ → List Event → List ℕ
left p regs [] = regs
left p regs (turned v ∷ h) = left p regs h
left p regs (drawn d v y ∷ h) = left p regs h
left p regs (faulted i x ∷ h) = slice_set (registers p regs h) i x
left p regs (held ∷ h) = left p regs h
left p regs (released ∷ h) = left p regs h

-- whether a hold is open
abbrev pub is_held : List Event → Bool
is_held [] = false
is_held (turned v ∷ h) = is_held h
is_held (drawn d v y ∷ h) = is_held h
is_held (faulted i x ∷ h) = is_held h
is_held (held ∷ h) = true
is_held (released ∷ h) = false

-- no fault among these
abbrev pub Calm : List Event → Type 0
Calm [] = Unit {0}
Calm (turned v ∷ h) = Calm h
Calm (drawn d v y ∷ h) = Calm h
Calm (faulted i x ∷ h) = ⊥
Calm (held ∷ h) = Calm h
Calm (released ∷ h) = Calm h

-- the turns ts complete exactly k rounds
abbrev pub Rounds : ℕ → List ℕ → ℕ → Type 0
Rounds n ts k = (r : List ℕ) × Splits n k ts r

-- x is n less the number of different nodes with a turn in the open rest of ts
abbrev pub Awaited : ℕ → List ℕ → ℕ → Type 0
Awaited n ts x = (k : ℕ) × (r : List ℕ) × (c : ℕ) × Splits n k ts r × Counted (λ v. Among v r) n c × (c + x ≡ n)

-- the complete rounds have reached the told bound, or not yet
abbrev pub Reached : Model → Protocol → List Event → Type 0
Reached m p h = (k : ℕ) × Rounds m.nodes (since h) k × (told_bound p ≤ k)

abbrev pub Early : Model → Protocol → List Event → Type 0
Early m p h = (k : ℕ) × Rounds m.nodes (since h) k × (k < told_bound p)

-- what the checks look at, by the history of a net with this mark
abbrev pub standing_after : Model → Protocol → ℕ → List Event → Standing
standing_after m p own h = record { Spent = turn_budget ≤ length (since h); Below = Early m p h; held = is_held h; mark = own }

-- a daemon stands as d now, this net alone has asked it since a time when its dues held, no fault came since, and j of its draws were accepted
pub data Draws : Daemon → ℕ → List Event → Type 0 where
  first : {d : Daemon} {h : List Event} → 0 < d.nodes → Timely d → Draws d 0 h
  other : {d : Daemon} {j : ℕ} {h : List Event} → (e : Event) → Calm (e ∷ []) → Draws d j h → Draws d j (e ∷ h)
  next : {d y : Daemon} {j : ℕ} {h : List Event} → (v : ℕ) → Draws d j h → Draws y (suc j) (drawn d v y ∷ h)
