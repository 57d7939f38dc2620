-- What a net keeps over a run: its counters are right for the turns since the latest fault.
use Rattle.std.proofs.Common.{◌≡◌, ℕ, zero, suc, ◌+◌, ◌<◌, ◌≤◌, Bool, true, false, cond, List, [], ◌∷◌, ◌++◌, length, set, Ok, Err, sym, refl, ap, ◌∙◌, subst, inl, inr, arith, length-append, length-set}
use Rattle.std.specs.List.{AllByRecursion}
use Rattle.std.proofs.lemmas.Bool.{cases_eq, cases_lt}
use Rattle.lists.proofs.Elements.{among_push_cases}
use Rattle.graph.specs.Model.{Model}
use Rattle.rounds.specs.Runs.{run, Below}
use Rattle.rounds.specs.Marks.{Tracks}
use Rattle.rounds.specs.Changes.{Last}
use Rattle.rounds.proofs.RunsLaws.{run_append, kept_run}
use Rattle.rounds.proofs.MarksLaws.{tracks_first, tracks_next}
use Rattle.rounds.proofs.ChangesLaws.{last_first, last_stays, last_now}
use Rattle.protocol.specs.Protocols.{Protocol, Registers, Laws, turn_budget}
use Rattle.rounds.specs.Dues.{Asked}
use Rattle.promise.specs.Nets.{State, Call, turn, draw, fault, ask, ask_held, read, tell, hold, lift, cancel, Answer, Fresh, Turned, Faulted, with_held, Step}
use Rattle.promise.specs.History.{Event, turned, drawn, faulted, held, released, Exchange, events, accepted, since, registers, left, is_held}
use Rattle.promise.specs.Promise.{Run}

pub below : (v n : ℕ) → (n ≤ v → ⊥) → v < n
below v n never = elim (cases_lt v n) [ inl l ↦ l | inr l ↦ absurd (never l) ]

pub unless : (v n : ℕ) → (v < n → ⊥) → n ≤ v
unless v n never = elim (cases_lt v n) [ inl l ↦ absurd (never l) | inr l ↦ l ]

pub equal : (x y : ℕ) → ((x ≡ y → ⊥) → ⊥) → x ≡ y
equal x y never = elim (cases_eq x y) [ inl e ↦ e | inr e ↦ absurd (never e) ]

-- the net a after the turns ts from the registers xs
pub record Core (m : Model) (p : Protocol) (xs ts : List ℕ) (own : ℕ) (opened : Bool) (a : State) : Type 0 where
  pub sized : Registers p.size xs
  pub nodes : Below m.nodes ts
  pub registers : a.registers ≡ run p.turn ts xs
  pub turns : a.turns ≡ length ts
  pub few : length ts ≤ turn_budget
  pub tracks : Tracks m.nodes a.rounds a.named ts
  pub last : Last m.nodes p.turn xs ts a.last
  pub mark : a.mark ≡ own
  pub held : a.held ≡ opened

-- every draw was of a daemon for as many nodes, and as it named
abbrev pub Fair : ℕ → List Event → Type 0
Fair n [] = Unit {0}
Fair n (turned v ∷ h) = Fair n h
Fair n (drawn d v y ∷ h) = (d.nodes ≡ n) × Asked d v y × Fair n h
Fair n (faulted i x ∷ h) = Fair n h
Fair n (held ∷ h) = Fair n h
Fair n (released ∷ h) = Fair n h

-- the registers are what the turns since the latest fault make of those that it left
pub ran : (p : Protocol) (regs : List ℕ) (h : List Event) → registers p regs h ≡ run p.turn (since h) (left p regs h)
ran p regs [] = refl
ran p regs (turned v ∷ h) = ap (p.turn v) (ran p regs h) ∙ sym (run_append (List ℕ) p.turn (since h) (v ∷ []) (left p regs h))
ran p regs (drawn d v y ∷ h) = ap (p.turn v) (ran p regs h) ∙ sym (run_append (List ℕ) p.turn (since h) (v ∷ []) (left p regs h))
ran p regs (faulted i x ∷ h) = refl
ran p regs (held ∷ h) = ran p regs h
ran p regs (released ∷ h) = ran p regs h

all_set : (xs : List ℕ) (i x : ℕ) → x < 65536 → AllByRecursion (λ y. y < 65536) xs → AllByRecursion (λ y. y < 65536) (set xs i x)
all_set [] i x l h = h
all_set (y ∷ xs) zero x l h = (l, h.1)
all_set (y ∷ xs) (suc i) x l h = (h.0, all_set xs i x l h.1)

module _ (m : Model) (p : Protocol) (some : 0 < m.nodes) (laws : Laws m p) where
  pub sized_run : (ts xs : List ℕ) → Below m.nodes ts → Registers p.size xs → Registers p.size (run p.turn ts xs)
  sized_run ts xs b s = kept_run (List ℕ) p.turn (Registers p.size) m.nodes (λ v ys l r. laws.keeps v ys l r) ts xs b s

  pub core_fresh : (xs : List ℕ) (own : ℕ) (opened : Bool) (a : State) → Registers p.size xs → a.registers ≡ xs → Fresh m.nodes a → a.mark ≡ own → a.held ≡ opened → Core m p xs [] own opened a
  core_fresh xs own opened a s r f k o = record {
    sized = s;
    nodes = λ v h. absurd h;
    registers = r;
    turns = f.turns;
    few = omega arith;
    tracks = subst (λ j. Tracks m.nodes j a.named []) (sym f.rounds) (tracks_first m.nodes a.named some f.named);
    last = subst (Last m.nodes p.turn xs []) (sym f.last) (last_first (List ℕ) p.turn m.nodes xs);
    mark = k;
    held = o;
  }

  pub core_turned : (xs ts : List ℕ) (own : ℕ) (opened : Bool) (a z : State) (v : ℕ) (b : Bool) → Core m p xs ts own opened a → v < m.nodes → a.turns < turn_budget → Turned m p a v b z → Core m p xs (ts ++ (v ∷ [])) own opened z
  core_turned xs ts own opened a z v b c node fresh t = record {
    sized = c.sized;
    nodes = λ u h. elim (among_push_cases u ts v h) [ inl i ↦ c.nodes u i | inr e ↦ omega arith ];
    registers = after ∙ sym (run_append (List ℕ) p.turn ts (v ∷ []) xs);
    turns = (let e = length-append ts (v ∷ []) in omega (arith, t.turns, c.turns));
    few = (let e = length-append ts (v ∷ []) in omega (arith, c.turns));
    tracks = tracks_next m.nodes v a.rounds z.rounds a.named z.named ts some c.tracks t.counts;
    last = latest b t.moved t.stayed t.last;
    mark = t.mark ∙ c.mark;
    held = t.held ∙ c.held;
  }
    where
      after : z.registers ≡ p.turn v (run p.turn ts xs)
      after = t.registers ∙ ap (p.turn v) c.registers

      latest : (b : Bool) → (b ≡ true → z.registers ≡ a.registers → ⊥) → (b ≡ false → z.registers ≡ a.registers) → z.last ≡ cond b (a.rounds + 1) a.last → Last m.nodes p.turn xs (ts ++ (v ∷ [])) z.last
      latest true moved stayed e = let s : suc a.rounds ≡ z.last = omega arith in subst (Last m.nodes p.turn xs (ts ++ (v ∷ []))) s (last_now (List ℕ) p.turn m.nodes xs ts c.tracks.0 v a.rounds c.tracks.1 (λ q. moved refl (after ∙ q ∙ sym c.registers)))
      latest false moved stayed e = subst (Last m.nodes p.turn xs (ts ++ (v ∷ []))) (sym e) (last_stays (List ℕ) p.turn m.nodes xs ts v a.last c.last (λ q. q (sym after ∙ stayed refl ∙ c.registers)))

  core_held : (xs ts : List ℕ) (own : ℕ) (opened b : Bool) (a z : State) → Core m p xs ts own opened a → z ≡ with_held a b → Core m p xs ts own b z
  core_held xs ts own opened b a z c e = subst (Core m p xs ts own b) (sym e) record {
    sized = c.sized;
    nodes = c.nodes;
    registers = c.registers;
    turns = c.turns;
    few = c.few;
    tracks = c.tracks;
    last = c.last;
    mark = c.mark;
    held = refl;
  }

  -- the net a after the history h
  abbrev pub Sound : List ℕ → ℕ → List Event → State → Type 0
  Sound regs own h a = Core m p (left p regs h) (since h) own (is_held h) a × Fair m.nodes h

  sound_turned : (regs : List ℕ) (own : ℕ) (h : List Event) (a z : State) (v : ℕ) (b : Bool) → Sound regs own h a → v < m.nodes → (turn_budget ≤ a.turns → ⊥) → Turned m p a v b z → Core m p (left p regs h) (since h ++ (v ∷ [])) own (is_held h) z
  sound_turned regs own h a z v b s l never t = core_turned (left p regs h) (since h) own (is_held h) a z v b s.0 l (below a.turns turn_budget never) t

  sound_faulted : (regs : List ℕ) (own : ℕ) (h : List Event) (a z : State) (i x : ℕ) → Sound regs own h a → (65535 < x → ⊥) → Faulted m a i x z → Sound regs own (faulted i x ∷ h) z
  sound_faulted regs own h a z i x s never t = (core_fresh (set (registers p regs h) i x) own (is_held h) z (length-set (registers p regs h) i x ∙ now.0, all_set (registers p regs h) i x (let l = unless 65535 x never in omega arith) now.1) (t.registers ∙ ap (λ q. set q i x) (s.0.registers ∙ sym (ran p regs h))) t.fresh (t.mark ∙ s.0.mark) (t.held ∙ s.0.held), s.1)
    where
      now : Registers p.size (registers p regs h)
      now = subst (Registers p.size) (sym (ran p regs h)) (sized_run (since h) (left p regs h) s.0.nodes s.0.sized)

  sound_step : (regs : List ℕ) (own : ℕ) (h : List Event) (a z : State) (c : Call) (r : Answer c) → Sound regs own h a → Step m p a c r z → Sound regs own (events c r ++ h) z
  sound_step regs own h a z (turn v) (Ok b) s t = (sound_turned regs own h a z v b s (below v m.nodes t.0.0) t.0.1.0 t.1, s.1)
  sound_step regs own h a z (turn v) (Err e) s t = subst (Sound regs own h) (sym t.1) s
  sound_step regs own h a z (draw d y) (Ok u) s t = (sound_turned regs own h a z u.node u.changed s (let e = equal d.nodes m.nodes t.0.0 in let l = t.1.named in omega arith) t.0.1.0 t.2, (equal d.nodes m.nodes t.0.0, t.1, s.1))
  sound_step regs own h a z (draw d y) (Err e) s t = subst (Sound regs own h) (sym t.2) s
  sound_step regs own h a z (fault i x) (Ok u) s t = sound_faulted regs own h a z i x s t.0.0 t.1
  sound_step regs own h a z (fault i x) (Err e) s t = subst (Sound regs own h) (sym t.1) s
  sound_step regs own h a z (ask q) r s t = subst (Sound regs own h) (sym t.1) s
  sound_step regs own h a z ask_held r s t = subst (Sound regs own h) (sym t.1) s
  sound_step regs own h a z (read i) (Ok x) s t = subst (Sound regs own h) (sym t.2) s
  sound_step regs own h a z (read i) (Err e) s t = subst (Sound regs own h) (sym t.1) s
  sound_step regs own h a z (tell v) (Ok o) s t = subst (Sound regs own h) (sym t.2) s
  sound_step regs own h a z (tell v) (Err e) s t = subst (Sound regs own h) (sym t.1) s
  sound_step regs own h a z (hold b) (Ok k) s t = (core_held (left p regs h) (since h) own (is_held h) true a z s.0 t.3, s.1)
  sound_step regs own h a z (hold b) (Err e) s t = subst (Sound regs own h) (sym t.1) s
  sound_step regs own h a z (lift k) (Ok u) s t = (core_held (left p regs h) (since h) own (is_held h) false a z s.0 t.3, s.1)
  sound_step regs own h a z (lift k) (Err e) s t = subst (Sound regs own h) (sym t.2) s
  sound_step regs own h a z (cancel k) (Ok u) s t = (core_held (left p regs h) (since h) own (is_held h) false a z s.0 t.1, s.1)
  sound_step regs own h a z (cancel k) (Err e) s t = subst (Sound regs own h) (sym t.2) s

  -- every run keeps it
  pub sound : (regs : List ℕ) (own : ℕ) (es : List Exchange) (z : State) → Run m p regs own es z → Sound regs own (accepted es) z
  sound regs own [] z s = (core_fresh regs own false z s.sized s.registers s.fresh s.mark s.held, tt)
  sound regs own (e ∷ es) z s = sound_step regs own (accepted es) s.0 z e.0 e.1 (sound regs own es s.0 s.1) s.2
