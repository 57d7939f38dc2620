-- Each call is accepted just where no check over the history fails, and tells what the history makes.
use Rattle.std.proofs.Common.{◌≡◌, ℕ, zero, suc, ◌<◌, ◌≤◌, Bool, true, false, List, ◌∷◌, length, get_or, Ok, Err, sym, refl, ap, ◌∙◌, subst, arith, length-append}
use Rattle.refusal.specs.declared.Refusal.{Refusal}
use Rattle.refusal.specs.Checks.{First, Free}
use Rattle.graph.specs.Model.{Model}
use Rattle.rounds.specs.Runs.{run, Below}
use Rattle.rounds.specs.Marks.{count_marked}
use Rattle.rounds.specs.Changes.{Last}
use Rattle.rounds.proofs.RoundsLaws.{unique, splits_completes, rounds_below_turns_lem}
use Rattle.rounds.proofs.MarksLaws.{marks_count}
use Rattle.rounds.proofs.ChangesLaws.{last_low}
use Rattle.rounds.proofs.Counting.{counted_le}
use Rattle.protocol.specs.Protocols.{Protocol, Registers, Laws, turn_budget, told_bound}
use Rattle.promise.specs.Nets.{State, Question, size, bound, height, turns, rounds, last, awaited, mark, number, Call, turn, draw, fault, ask, ask_held, read, tell, hold, lift, cancel, Answer, checks, standing, Turned, Step}
use Rattle.promise.specs.History.{Event, since, registers, left, Rounds, standing_after}
use Rattle.promise.specs.Promise.{Says, Tells, Right}
use Rattle.promise.proofs.Sound.{unless, equal, sized_run, ran, Sound}
use Rattle.promise.proofs.Checked.{Agrees, checks_match, first_matches, free_matches}

module _ (m : Model) (p : Protocol) (some : 0 < m.nodes) (laws : Laws m p) where
  -- the last change comes by the true bound, and by the budget
  pub last_told : (xs ts : List ℕ) (k : ℕ) → Registers p.size xs → Below m.nodes ts → length ts ≤ turn_budget → Last m.nodes p.turn xs ts k → k ≤ told_bound p
  last_told xs ts zero sized b few h = omega arith
  last_told xs ts (suc k) sized b few h =
      let l = last_low (List ℕ) p.turn (Registers p.size) m.nodes p.bound xs ts (suc k) (λ ys us s q c v l. laws.still (run p.turn us ys) (sized_run m p some laws us ys q s) (laws.settles ys us s q c) v l) sized b h in
      let r = rounds_below_turns_lem m.nodes k h.before some (splits_completes m.nodes k h.before h.rest h.round) in
      let e = ap length h.whole in
      let d = length-append h.before (h.node ∷ h.after) in
      omega arith

module _ (m : Model) (p : Protocol) (some : 0 < m.nodes) (laws : Laws m p) (regs : List ℕ) (own : ℕ) (h : List Event) (a : State) (s : Sound m p some laws regs own h a) where
  -- the rounds of the history are those that the net counts
  pub same_rounds : (k : ℕ) → Rounds m.nodes (since h) k → k ≡ a.rounds
  same_rounds k r = (unique m.nodes k a.rounds (since h) r.0 s.0.tracks.0 r.1 s.0.tracks.1).0

  few_rounds : a.rounds ≤ turn_budget
  few_rounds = let r = rounds_below_turns_lem m.nodes a.rounds (since h) some (splits_completes m.nodes a.rounds (since h) s.0.tracks.0 s.0.tracks.1) in omega (arith, s.0.few)

  pub now : a.registers ≡ registers p regs h
  now = s.0.registers ∙ sym (ran p regs h)

  agrees : Agrees (standing p a) (standing_after m p own h)
  agrees = record {
    spent = ((λ l. omega (arith, s.0.turns)), λ l. omega (arith, s.0.turns));
    below = ((λ l. (a.rounds, (s.0.tracks.0, s.0.tracks.1), l)), λ e. let q = same_rounds e.0 e.1 in let l = e.2 in omega arith);
    held = s.0.held;
    mark = s.0.mark;
  }

  freed : (c : Call) → Free (checks m p (standing p a) c) → Free (checks m p (standing_after m p own h) c)
  freed c f = free_matches (checks m p (standing p a) c) (checks m p (standing_after m p own h) c) (checks_match m p (standing p a) (standing_after m p own h) agrees c) f

  declined : (c : Call) (e : Refusal) → First (checks m p (standing p a) c) e → First (checks m p (standing_after m p own h) c) e
  declined c e f = first_matches (checks m p (standing p a) c) (checks m p (standing_after m p own h) c) e (checks_match m p (standing p a) (standing_after m p own h) agrees c) f

  says : (z : State) (v : ℕ) (b : Bool) → Turned m p a v b z → Says p (registers p regs h) v b
  says z v b t = go b t.moved t.stayed
    where
      after : z.registers ≡ p.turn v (registers p regs h)
      after = t.registers ∙ ap (p.turn v) now

      go : (b : Bool) → (b ≡ true → z.registers ≡ a.registers → ⊥) → (b ≡ false → z.registers ≡ a.registers) → Says p (registers p regs h) v b
      go true moved stayed = λ q. moved refl (after ∙ q ∙ sym now)
      go false moved stayed = sym after ∙ stayed refl ∙ now

  pub tells : (q : Question) → Tells m p regs own h q (number m p a q)
  tells size = refl
  tells bound = refl
  tells height = refl
  tells turns = s.0.turns
  tells rounds = (s.0.tracks.0, s.0.tracks.1)
  tells last = (s.0.last, last_told m p some laws (left p regs h) (since h) a.last s.0.sized s.0.nodes s.0.few s.0.last)
  tells awaited =
      let c = marks_count m.nodes a.named s.0.tracks.0 s.0.tracks.2 in
      let l = counted_le c in
      (a.rounds, s.0.tracks.0, count_marked m.nodes a.named, s.0.tracks.1, c, omega arith)
  tells mark = s.0.mark

  pub right : (z : State) (c : Call) (r : Answer c) → Step m p a c r z → Right m p regs own h c r
  right z (turn v) (Ok b) t = (freed (turn v) t.0, says z v b t.1)
  right z (turn v) (Err e) t = declined (turn v) e t.0
  right z (draw d y) (Ok u) t = ((freed (draw d y) t.0, ((let e = equal d.nodes m.nodes t.0.0 in let l = t.1.named in omega arith), says z u.node u.changed t.2)), t.1)
  right z (draw d y) (Err e) t = (declined (draw d y) e t.0, t.1)
  right z (fault i x) (Ok u) t = (freed (fault i x) t.0, tt)
  right z (fault i x) (Err e) t = declined (fault i x) e t.0
  right z (ask q) r t = subst (Tells m p regs own h q) (sym t.0) (tells q)
  right z ask_held r t = t.0 ∙ s.0.held
  right z (read i) (Ok x) t = (freed (read i) t.0, t.1 ∙ ap (λ q. get_or q i 0) now)
  right z (read i) (Err e) t = declined (read i) e t.0
  right z (tell v) (Ok o) t = (freed (tell v) t.0, t.1 ∙ ap (λ q. p.output q v) now)
  right z (tell v) (Err e) t = declined (tell v) e t.0
  right z (hold b) (Ok k) t = (freed (hold b) t.0, (t.1 ∙ s.0.mark, t.2))
  right z (hold b) (Err e) t = declined (hold b) e t.0
  right z (lift k) (Ok u) t = (freed (lift k) t.0, ((let l = unless a.rounds (told_bound p) t.0.1.0 in let f = few_rounds in let e = t.1 in omega arith), t.1, subst (Tells m p regs own h last) (sym t.2) (tells last)))
  right z (lift k) (Err e) t = (declined (lift k) e.0 t.0, t.1)
  right z (cancel k) (Ok u) t = (freed (cancel k) t.0, tt)
  right z (cancel k) (Err e) t = (declined (cancel k) e.0 t.0, t.1)
