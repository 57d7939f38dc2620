-- What a net promises over whole runs: any calls, in any order and number, declined ones among them, with any daemons.
use Rattle.std.specs.Prelude.{◌≡◌, ℕ, ◌*◌, ◌<◌, ◌≤◌, Bool, true, false, List, [], ◌∷◌, ◌++◌, length, Ok, Err, Result, slice_index}
use Rattle.refusal.specs.declared.Refusal.{Refusal}
use Rattle.refusal.specs.Checks.{Checks, First, Free, Judged}
use Rattle.rounds.specs.Changes.{Last}
use Rattle.graph.specs.Model.{Model, Proper}
use Rattle.protocol.specs.Protocols.{Protocol, Laws, told_bound, told_size}
use Rattle.promise.specs.declared.Drawn.{Drawn}
use Rattle.rounds.specs.Dues.{Dues as Daemon, Asked}
use Rattle.promise.specs.Nets.{State, Hold, Question, size, bound, height, turns, rounds, last, awaited, mark, Call, turn, draw, fault, ask, ask_held, read, tell, hold, lift, cancel, Answer, checks, Start, Step}
use Rattle.promise.specs.History.{Event, Exchange, accepted, since, registers, left, is_held, Calm, Rounds, Awaited, Reached, standing_after, Draws}
use Rattle.promise.specs.Firm.{Firm}

-- calls with their answers, newest first, of a net set up over regs with the mark own; it ends as z
abbrev pub Run : Model → Protocol → List ℕ → ℕ → List Exchange → State → Type 0
Run m p regs own [] z = Start m p regs own z
Run m p regs own (e ∷ es) z = (a : State) × Run m p regs own es a × Step m p a e.0 e.1 z

-- judged, and a declined call hands the hold back
abbrev pub Returned : {A : Type 0} → Hold → Checks → (A → Type 0) → Result A (Refusal × Hold) → Type 0
Returned k cs T (Ok x) = Free cs × T x
Returned k cs T (Err e) = First cs e.0 × (e.1 ≡ k)

-- what a turn of v says of the registers xs: whether one changed
abbrev pub Says : Protocol → List ℕ → ℕ → Bool → Type 0
Says p xs v true = p.turn v xs ≡ xs → ⊥
Says p xs v false = p.turn v xs ≡ xs

-- an accepted draw asked the daemon, and a declined one did not
abbrev pub Asks : Daemon → Daemon → Result Drawn Refusal → Type 0
Asks d y (Ok t) = Asked d t.node y
Asks d y (Err e) = y ≡ d

module _ (m : Model) (p : Protocol) (regs : List ℕ) (own : ℕ) (h : List Event) where
  -- what a number told after the history h is
  abbrev pub Tells : Question → ℕ → Type 0
  Tells size x = x ≡ told_size p
  Tells bound x = x ≡ told_bound p
  Tells height x = x ≡ p.height
  Tells turns x = x ≡ length (since h)
  Tells rounds x = Rounds m.nodes (since h) x
  Tells last x = Last m.nodes p.turn (left p regs h) (since h) x × (x ≤ told_bound p)
  Tells awaited x = Awaited m.nodes (since h) x
  Tells mark x = x ≡ own

  -- what each call answers after the history h
  abbrev pub Right : (c : Call) → Answer c → Type 0
  Right (turn v) r = Judged (checks m p (standing_after m p own h) (turn v)) (λ b. Says p (registers p regs h) v b) r
  Right (draw d y) r = Judged (checks m p (standing_after m p own h) (draw d y)) (λ t. (t.node < m.nodes) × Says p (registers p regs h) t.node t.changed) r × Asks d y r
  Right (fault i x) r = Judged (checks m p (standing_after m p own h) (fault i x)) (λ _. Unit {0}) r
  Right (ask q) r = Tells q r
  Right ask_held r = r ≡ is_held h
  Right (read i) r = Judged (checks m p (standing_after m p own h) (read i)) (λ x. x ≡ slice_index (registers p regs h) i) r
  Right (tell v) r = Judged (checks m p (standing_after m p own h) (tell v)) (λ o. o ≡ p.output (registers p regs h) v) r
  Right (hold b) r = Judged (checks m p (standing_after m p own h) (hold b)) (λ k. (k.mark ≡ own) × (k.badge ≡ b)) r
  Right (lift k) r = Returned k (checks m p (standing_after m p own h) (lift k)) (λ t. (t.bound ≡ p.bound) × Tells bound t.bound × Tells last t.last_change) r
  Right (cancel k) r = Returned k (checks m p (standing_after m p own h) (cancel k)) (λ _. Unit {0}) r

-- what is told at the registers zs is legitimate, and they and it are as at xs
pub record Settled (p : Protocol) (xs zs : List ℕ) : Type 0 where
  pub legitimate : p.Legitimate (p.output zs)
  pub registers : zs ≡ xs
  pub outputs : (v : ℕ) → p.output zs v ≡ p.output xs v

-- a lift was granted
abbrev pub Granted : {A E : Type 0} → Result A E → Type 0
Granted (Ok x) = Unit {0}
Granted (Err e) = ⊥

-- a hold is open and this one has the net's mark
abbrev pub Owed : ℕ → List Event → Hold → Type 0
Owed own h k = (is_held h ≡ true) × (k.mark ≡ own)

pub record Promise (m : Model) (p : Protocol) : Type 0 where
  -- each call is accepted just where no check of its list fails, and tells what the history makes
  pub answers : (regs : List ℕ) (own : ℕ) (es : List Exchange) (a z : State) (c : Call) (r : Answer c) → Run m p regs own es a → Step m p a c r z → Right m p regs own (accepted es) c r
  -- the registers are those that the history makes
  pub made : (regs : List ℕ) (own : ℕ) (es : List Exchange) (z : State) → Run m p regs own es z → z.registers ≡ registers p regs (accepted es)
  -- once the rounds have reached the told bound, the outputs are legitimate and, like the registers, stay the same until the next fault
  pub rests : (regs : List ℕ) (own : ℕ) (later es : List Exchange) (z : State) → Run m p regs own (later ++ es) z → Calm (accepted later) → Reached m p (accepted es) → Settled p (registers p regs (accepted es)) (registers p regs (accepted (later ++ es)))
  -- a lift is granted just where a hold is open, the mark is the net's and the rounds have reached the told bound
  pub lifts : (regs : List ℕ) (own : ℕ) (es : List Exchange) (a z : State) (k : Hold) (r : Answer (lift k)) → Run m p regs own es a → Step m p a (lift k) r z → (Granted r → Owed own (accepted es) k × Reached m p (accepted es)) × (Owed own (accepted es) k × Reached m p (accepted es) → Granted r)
  -- after so many draws of one daemon as its patience times the told bound, the rounds have reached it
  pub patient : (regs : List ℕ) (own : ℕ) (es : List Exchange) (z : State) (d : Daemon) (j : ℕ) → Run m p regs own es z → Draws d j (accepted es) → d.patience * told_bound p ≤ j → Reached m p (accepted es)

-- of any protocol with the laws, at any proper site; and what is said there leaves no choice
abbrev pub Promised : Model → Protocol → Type 0
Promised m p = Proper m → Laws m p → Promise m p × Firm m p
