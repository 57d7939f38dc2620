-- Every call has one answer and leaves one state, and the numbers told are fixed.
use Rattle.std.proofs.Common.{◌≡◌, ℕ, zero, suc, ◌+◌, ◌<◌, ◌≤◌, Bool, true, false, cond, List, replicate, Ok, Err, sym, refl, ap, ◌∙◌, subst, ap₂, inl, inr, arith}
use Rattle.refusal.specs.declared.Refusal.TheVariants.{Exhausted}
use Rattle.lists.specs.Members.{Among}
use Rattle.lists.proofs.Decisions.{same_pair}
use Rattle.graph.specs.Model.{Model}
use Rattle.rounds.proofs.RoundsLaws.{unique, splits_covers}
use Rattle.rounds.proofs.ChangesLaws.{last_unique}
use Rattle.rounds.proofs.Counting.{counted_unique}
use Rattle.rounds.specs.Forest.{Counted}
use Rattle.protocol.specs.Protocols.{Protocol, turn_budget}
use Rattle.promise.specs.declared.Drawn.{Drawn}
use Rattle.promise.specs.declared.Lifted.{Lifted}
use Rattle.promise.specs.Nets.{State, Hold, Call, turn, draw, fault, ask, ask_held, read, tell, hold, lift, cancel, Answer, checks, standing, Turned, Faulted, Step}
use Rattle.promise.specs.History.{Rounds, Awaited}
use Rattle.promise.specs.Firm.{Same, Alike, Firm}
use Rattle.promise.proofs.Checked.{free_first, first_one}
use Rattle.promise.proofs.Answered.{answered, drawn_so}

same_drawn : (t u : Drawn) → t.node ≡ u.node → t.changed ≡ u.changed → t ≡ u
same_drawn t u e f = ap₂ (λ (x : ℕ) (y : Bool). let d : Drawn = record { node = x; changed = y } in d) e f

same_lifted : (t u : Lifted) → t.bound ≡ u.bound → t.last_change ≡ u.last_change → t ≡ u
same_lifted t u e f = ap₂ (λ (x y : ℕ). let d : Lifted = record { bound = x; last_change = y } in d) e f

same_hold : (t u : Hold) → t.mark ≡ u.mark → t.badge ≡ u.badge → t ≡ u
same_hold t u e f = ap₂ (λ (x y : ℕ). let d : Hold = record { mark = x; badge = y } in d) e f

among_replicate : (u v c : ℕ) → Among u (replicate c v) → u ≡ v
among_replicate u v zero h = absurd h
among_replicate u v (suc c) (inl e) = e
among_replicate u v (suc c) (inr h) = among_replicate u v c h

-- no round, where one node alone has turns and there is another
alone : (n v k c : ℕ) → 2 ≤ n → Rounds n (replicate c v) k → k ≡ 0
alone n v zero c l r = refl
alone n v (suc k) c l r =
    let all = splits_covers n k (replicate c v) r.0 r.1 in
    let x = among_replicate 0 v c (all 0 (omega arith)) in
    let y = among_replicate 1 v c (all 1 (omega arith)) in
    absurd (omega arith)

awaited_one : (n : ℕ) (ts : List ℕ) (k j : ℕ) → Awaited n ts k → Awaited n ts j → k ≡ j
awaited_one n ts k j a b =
    let e = (unique n a.0 b.0 ts a.1 b.1 a.3 b.3).1 in
    let c = counted_unique a.4 (subst (λ r. Counted (λ v. Among v r) n b.2) (sym e) b.4) in
    let x = a.5 in
    let y = b.5 in
    omega arith

module _ (m : Model) (p : Protocol) where
  same_state : (y z : State) → y ≡ z → Same m.nodes y z
  same_state y z e = record {
    registers = ap (λ s. s.registers) e;
    turns = ap (λ s. s.turns) e;
    rounds = ap (λ s. s.rounds) e;
    named = λ w l. ap (λ s. s.named w) e;
    last = ap (λ s. s.last) e;
    mark = ap (λ s. s.mark) e;
    held = ap (λ s. s.held) e;
  }

  same_turned : (a : State) (v : ℕ) (b c : Bool) (y z : State) → Turned m p a v b y → Turned m p a v c z → (b ≡ c) × Same m.nodes y z
  same_turned a v b c y z s t = let e = changed b c s.moved s.stayed t.moved t.stayed in (
    e,
    record {
      registers = s.registers ∙ sym t.registers;
      turns = s.turns ∙ sym t.turns;
      rounds = s.counts.rounds ∙ sym t.counts.rounds;
      named = λ w l. s.counts.marks w l ∙ sym (t.counts.marks w l);
      last = s.last ∙ ap (λ q. cond q (a.rounds + 1) a.last) e ∙ sym t.last;
      mark = s.mark ∙ sym t.mark;
      held = s.held ∙ sym t.held;
    },
  )
    where
      after : y.registers ≡ z.registers
      after = s.registers ∙ sym t.registers

      changed : (b c : Bool) → (b ≡ true → y.registers ≡ a.registers → ⊥) → (b ≡ false → y.registers ≡ a.registers) → (c ≡ true → z.registers ≡ a.registers → ⊥) → (c ≡ false → z.registers ≡ a.registers) → b ≡ c
      changed true true i j k l = refl
      changed true false i j k l = absurd (i refl (after ∙ l refl))
      changed false true i j k l = absurd (k refl (sym after ∙ j refl))
      changed false false i j k l = refl

  same_faulted : (a : State) (i x : ℕ) (y z : State) → Faulted m a i x y → Faulted m a i x z → Same m.nodes y z
  same_faulted a i x y z s t = record {
    registers = s.registers ∙ sym t.registers;
    turns = s.fresh.turns ∙ sym t.fresh.turns;
    rounds = s.fresh.rounds ∙ sym t.fresh.rounds;
    named = λ w l. s.fresh.named w l ∙ sym (t.fresh.named w l);
    last = s.fresh.last ∙ sym t.fresh.last;
    mark = s.mark ∙ sym t.mark;
    held = s.held ∙ sym t.held;
  }

  determined : (a : State) (c : Call) (r s : Answer c) (y z : State) → Step m p a c r y → Step m p a c s z → Alike c r s → (r ≡ s) × Same m.nodes y z
  determined a (turn v) (Ok b) (Ok c) y z s t l = let e = same_turned a v b c y z s.1 t.1 in (ap Ok e.0, e.1)
  determined a (turn v) (Ok b) (Err e) y z s t l = absurd (free_first (checks m p (standing p a) (turn v)) e s.0 t.0)
  determined a (turn v) (Err e) (Ok c) y z s t l = absurd (free_first (checks m p (standing p a) (turn v)) e t.0 s.0)
  determined a (turn v) (Err e) (Err f) y z s t l = (ap Err (first_one (checks m p (standing p a) (turn v)) e f s.0 t.0), same_state y z (s.1 ∙ sym t.1))
  determined a (draw d x) (Ok t) (Ok u) y z s k l = let e = same_turned a t.node t.changed u.changed y z s.2 (subst (λ v. Turned m p a v u.changed z) (sym l) k.2) in (ap Ok (same_drawn t u l e.0), e.1)
  determined a (draw d x) (Ok t) (Err e) y z s k l = absurd (free_first (checks m p (standing p a) (draw d x)) e s.0 k.0)
  determined a (draw d x) (Err e) (Ok u) y z s k l = absurd (free_first (checks m p (standing p a) (draw d x)) e k.0 s.0)
  determined a (draw d x) (Err e) (Err f) y z s k l = (ap Err (first_one (checks m p (standing p a) (draw d x)) e f s.0 k.0), same_state y z (s.2 ∙ sym k.2))
  determined a (fault i x) (Ok u) (Ok w) y z s t l = (refl, same_faulted a i x y z s.1 t.1)
  determined a (fault i x) (Ok u) (Err e) y z s t l = absurd (free_first (checks m p (standing p a) (fault i x)) e s.0 t.0)
  determined a (fault i x) (Err e) (Ok u) y z s t l = absurd (free_first (checks m p (standing p a) (fault i x)) e t.0 s.0)
  determined a (fault i x) (Err e) (Err f) y z s t l = (ap Err (first_one (checks m p (standing p a) (fault i x)) e f s.0 t.0), same_state y z (s.1 ∙ sym t.1))
  determined a (ask q) r w y z s t l = (s.0 ∙ sym t.0, same_state y z (s.1 ∙ sym t.1))
  determined a ask_held r w y z s t l = (s.0 ∙ sym t.0, same_state y z (s.1 ∙ sym t.1))
  determined a (read i) (Ok x) (Ok w) y z s t l = (ap Ok (s.1 ∙ sym t.1), same_state y z (s.2 ∙ sym t.2))
  determined a (read i) (Ok x) (Err e) y z s t l = absurd (free_first (checks m p (standing p a) (read i)) e s.0 t.0)
  determined a (read i) (Err e) (Ok x) y z s t l = absurd (free_first (checks m p (standing p a) (read i)) e t.0 s.0)
  determined a (read i) (Err e) (Err f) y z s t l = (ap Err (first_one (checks m p (standing p a) (read i)) e f s.0 t.0), same_state y z (s.1 ∙ sym t.1))
  determined a (tell v) (Ok x) (Ok w) y z s t l = (ap Ok (s.1 ∙ sym t.1), same_state y z (s.2 ∙ sym t.2))
  determined a (tell v) (Ok x) (Err e) y z s t l = absurd (free_first (checks m p (standing p a) (tell v)) e s.0 t.0)
  determined a (tell v) (Err e) (Ok x) y z s t l = absurd (free_first (checks m p (standing p a) (tell v)) e t.0 s.0)
  determined a (tell v) (Err e) (Err f) y z s t l = (ap Err (first_one (checks m p (standing p a) (tell v)) e f s.0 t.0), same_state y z (s.1 ∙ sym t.1))
  determined a (hold b) (Ok k) (Ok j) y z s t l = (ap Ok (same_hold k j (s.1 ∙ sym t.1) (s.2 ∙ sym t.2)), same_state y z (s.3 ∙ sym t.3))
  determined a (hold b) (Ok k) (Err e) y z s t l = absurd (free_first (checks m p (standing p a) (hold b)) e s.0 t.0)
  determined a (hold b) (Err e) (Ok k) y z s t l = absurd (free_first (checks m p (standing p a) (hold b)) e t.0 s.0)
  determined a (hold b) (Err e) (Err f) y z s t l = (ap Err (first_one (checks m p (standing p a) (hold b)) e f s.0 t.0), same_state y z (s.1 ∙ sym t.1))
  determined a (lift k) (Ok x) (Ok w) y z s t l = (ap Ok (same_lifted x w (s.1 ∙ sym t.1) (s.2 ∙ sym t.2)), same_state y z (s.3 ∙ sym t.3))
  determined a (lift k) (Ok x) (Err e) y z s t l = absurd (free_first (checks m p (standing p a) (lift k)) e.0 s.0 t.0)
  determined a (lift k) (Err e) (Ok x) y z s t l = absurd (free_first (checks m p (standing p a) (lift k)) e.0 t.0 s.0)
  determined a (lift k) (Err e) (Err f) y z s t l = (ap Err (same_pair (first_one (checks m p (standing p a) (lift k)) e.0 f.0 s.0 t.0) (s.1 ∙ sym t.1)), same_state y z (s.2 ∙ sym t.2))
  determined a (cancel k) (Ok u) (Ok w) y z s t l = (refl, same_state y z (s.1 ∙ sym t.1))
  determined a (cancel k) (Ok u) (Err e) y z s t l = absurd (free_first (checks m p (standing p a) (cancel k)) e.0 s.0 t.0)
  determined a (cancel k) (Err e) (Ok u) y z s t l = absurd (free_first (checks m p (standing p a) (cancel k)) e.0 t.0 s.0)
  determined a (cancel k) (Err e) (Err f) y z s t l = (ap Err (same_pair (first_one (checks m p (standing p a) (cancel k)) e.0 f.0 s.0 t.0) (s.1 ∙ sym t.1)), same_state y z (s.2 ∙ sym t.2))

  spent : (a z : State) (v : ℕ) (r : Answer (turn v)) → v < m.nodes → turn_budget ≤ a.turns → Step m p a (turn v) r z → r ≡ Err Exhausted
  spent a z v (Ok b) l q t = absurd (t.0.1.0 q)
  spent a z v (Err e) l q t = ap Err (first_one (checks m p (standing p a) (turn v)) e Exhausted t.0 (inr ((λ x. omega arith), inl (refl, q))))

  pub firm : Firm m p
  firm = record {
    answered = answered m p;
    drawn = drawn_so m p;
    determined = determined;
    rounds = λ ts k j a b. (unique m.nodes k j ts a.0 b.0 a.1 b.1).0;
    awaited = awaited_one m.nodes;
    last = λ xs ts k j a b. last_unique (List ℕ) p.turn m.nodes xs ts k j a b;
    alone = alone m.nodes;
    spent = spent;
  }
