-- The net as plain data, and what its calls do by that.
use Rattle.std.specs.Prelude.{◌≡◌, ℕ, Bool, Ok, Err, Result}
use Rattle.refusal.specs.declared.Refusal.{Refusal}
use Rattle.graph.specs.Model.{Model}
use Rattle.site.specs.declared.site.Site.{Site}
use Rattle.site.specs.Sites.{model}
use Rattle.protocol.specs.Protocols.{Protocol}
use Rattle.silent.specs.declared.Silent.{Ghosts}
use Rattle.daemon.specs.declared.Daemon as daemon
use Rattle.promise.specs.declared.Drawn.{Drawn}
use Rattle.promise.specs.Nets as nets
use Rattle.promise.specs.Nets.{State, Call, draw, Answer, Start, Step, Turned}
use Rattle.promise.specs.Promise.{Promise}
use Rattle.promise.specs.Firm.{Firm}
use Rattle.net.specs.declared.hold.Hold.{Hold}
use Rattle.net.specs.declared.net.Net.{Net}
use Rattle.net.specs.Marking.{has}

-- the site of a net, and what its protocol means there
abbrev pub at : {X : Type 0} → Net X → Model
at t = model t.site.now

abbrev pub meant : {X : Type 0} → Ghosts X → Net X → Protocol
meant g t = g.meaning (g.plan t.protocol) (at t)

-- the net as plain data
abbrev pub state : {X : Type 0} → Ghosts X → Net X → State
state g t = record { registers = g.registers t.protocol (at t); turns = t.counters.turns; rounds = t.counters.rounds; named = has t.counters.named; last = t.counters.last_change; mark = t.mark; held = t.held }

-- the site and what was fixed when the protocol was made stay
abbrev pub Stays : {X : Type 0} → Ghosts X → Net X → Net X → Type 0
Stays g a z = (z.site.now ≡ a.site.now) × (g.plan z.protocol ≡ g.plan a.protocol)

-- the call, made of the net a, answers r and leaves the net z
abbrev pub Does : {X : Type 0} → Ghosts X → Net X → (c : Call) → Answer c → Net X → Type 0
Does g a c r z = Stays g a z × Step (at a) (meant g a) (state g a) c r (state g z)

-- the call, made of the net a, answers r and changes nothing
abbrev pub Tells : {X : Type 0} → Ghosts X → Net X → (c : Call) → Answer c → Type 0
Tells g a c r = Step (at a) (meant g a) (state g a) c r (state g a)

-- a turn of v came; r: whether a register changed
abbrev pub Gives : {X : Type 0} → Ghosts X → Net X → ℕ → Bool → Net X → Type 0
Gives g a v r z = Stays g a z × Turned (at a) (meant g a) (state g a) v r (state g z)

-- a draw that finds the daemon as d and leaves it as y
abbrev pub drawing : {X : Type 0} → daemon.Ghosts X → X → X → Call
drawing g d y = draw (g.meaning d) (g.meaning y)

-- a declined draw leaves the daemon as it is
abbrev pub Unasked : {X : Type 0} → X → Result Drawn Refusal → X → Type 0
Unasked d (Ok t) y = Unit {0}
Unasked d (Err e) y = y ≡ d

-- an accepted draw asks the daemon once, and a declined one leaves it as it is
abbrev pub Asks : {X : Type 0} → daemon.Ghosts X → X → Result Drawn Refusal → X → Type 0
Asks g d (Ok t) y = g.Asks d t.node y
Asks g d (Err e) y = y ≡ d

-- a hold as plain data, and answers with one
abbrev pub owed : Hold → nets.Hold
owed k = record { mark = k.mark; badge = k.badge }

abbrev pub taken : Result Hold Refusal → Result nets.Hold Refusal
taken (Ok k) = Ok (owed k)
taken (Err e) = Err e

abbrev pub given_back : {A : Type 0} → Result A (Refusal × Hold) → Result A (Refusal × nets.Hold)
given_back (Ok x) = Ok x
given_back (Err e) = Err (e.0, owed e.1)

-- the net r was set up over this site and protocol, with this mark
abbrev pub Starts : {X : Type 0} → Ghosts X → Site → X → ℕ → Net X → Type 0
Starts g s x own r = (r.site.now ≡ s) × (r.protocol ≡ x) × Start (model s) (g.meaning (g.plan x) (model s)) (g.registers x (model s)) own (state g r)

-- the promise over every run of a net over this site and protocol, and that it leaves no choice
abbrev pub Promises : {X : Type 0} → Ghosts X → Site → X → Type 0
Promises g s x = Promise (model s) (g.meaning (g.plan x) (model s)) × Firm (model s) (g.meaning (g.plan x) (model s))
