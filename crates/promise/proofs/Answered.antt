-- Every call has an answer.
use Rattle.std.proofs.Common.{◌≡◌, ℕ, ◌+◌, Bool, true, false, cond, ◌⊎◌, List, [], ◌∷◌, get_or, set, Ok, Err, refl, inl, inr, arith}
use Rattle.std.proofs.lemmas.Bool.{cases_eq, both_ways}
use Rattle.refusal.specs.declared.Refusal.{Refusal}
use Rattle.refusal.specs.Checks.{Checks, First, Free}
use Rattle.lists.proofs.Decisions.{Decided, either?, not?, lt?, le?}
use Rattle.graph.specs.Model.{Model}
use Rattle.rounds.specs.Marks.{marked, all_marked}
use Rattle.protocol.specs.Protocols.{Protocol, turn_budget, told_bound, told_size}
use Rattle.rounds.specs.Dues.{Dues as Daemon, Asked}
use Rattle.promise.specs.Nets.{State, number, Call, turn, draw, fault, ask, ask_held, read, tell, hold, lift, cancel, Answer, checks, standing, Turned, with_held, Step}
use Rattle.promise.specs.Firm.{Undrawn}

bool? : (b c : Bool) → Decided (b ≡ c)
bool? true true = inl refl
bool? true false = inr (λ e. both_ways true e refl)
bool? false true = inr (λ e. both_ways false refl e)
bool? false false = inl refl

list? : (xs ys : List ℕ) → Decided (xs ≡ ys)
list? [] [] = inl refl
list? [] (y ∷ ys) = inr (λ e. let z : ◌≡◌ {A = ℕ} 0 1 = cc in omega arith)
list? (x ∷ xs) [] = inr (λ e. let z : ◌≡◌ {A = ℕ} 0 1 = cc in omega arith)
list? (x ∷ xs) (y ∷ ys) = go (cases_eq x y) (list? xs ys)
  where
    go : Decided (x ≡ y) → Decided (xs ≡ ys) → Decided (x ∷ xs ≡ y ∷ ys)
    go (inl e) (inl f) = inl (cc)
    go (inl e) (inr f) = inr (λ q. f (cc))
    go (inr e) d = inr (λ q. e (cc))

-- a list of checks whose facts are decided either declines or does not
abbrev AllDecided : Checks → Type 0
AllDecided [] = Unit {0}
AllDecided (c ∷ cs) = Decided c.1 × AllDecided cs

judge : (cs : Checks) → AllDecided cs → Free cs ⊎ ((e : Refusal) × First cs e)
judge [] d = inl tt
judge (c ∷ cs) d = go d.0 (judge cs d.1)
  where
    go : Decided c.1 → Free cs ⊎ ((e : Refusal) × First cs e) → Free (c ∷ cs) ⊎ ((e : Refusal) × First (c ∷ cs) e)
    go (inl x) r = inr (c.0, inl (refl, x))
    go (inr x) (inl f) = inl (x, f)
    go (inr x) (inr f) = inr (f.0, inr (x, f.1))

module _ (m : Model) (p : Protocol) where
  decided : (a : State) (c : Call) → AllDecided (checks m p (standing p a) c)
  decided a (turn v) = (le? m.nodes v, (le? turn_budget a.turns, tt))
  decided a (draw d y) = (not? (cases_eq d.nodes m.nodes), (le? turn_budget a.turns, tt))
  decided a (fault i x) = (lt? 65535 x, (le? (told_size p) i, tt))
  decided a (ask q) = tt
  decided a ask_held = tt
  decided a (read i) = (le? (told_size p) i, tt)
  decided a (tell v) = (le? m.nodes v, tt)
  decided a (hold b) = (bool? a.held true, tt)
  decided a (lift k) = (either? (not? (cases_eq k.mark a.mark)) (bool? a.held false), (lt? a.rounds (told_bound p), tt))
  decided a (cancel k) = (either? (not? (cases_eq k.mark a.mark)) (bool? a.held false), tt)

  turned_so : (a : State) (v : ℕ) → (b : Bool) × (z : State) × Turned m p a v b z
  turned_so a v = elim (list? (p.turn v a.registers) a.registers) [ inl e ↦ (false, after false, at false (λ q. absurd (both_ways false refl q)) (λ q. e)) | inr e ↦ (true, after true, at true (λ q. e) (λ q. absurd (both_ways true q refl))) ]
    where
      after : Bool → State
      after b = record {
        registers = p.turn v a.registers;
        turns = a.turns + 1;
        rounds = cond (all_marked m.nodes (marked a.named v)) (a.rounds + 1) a.rounds;
        named = λ w. cond (all_marked m.nodes (marked a.named v)) false (marked a.named v w);
        last = cond b (a.rounds + 1) a.last;
        mark = a.mark;
        held = a.held;
      }

      at : (b : Bool) → (b ≡ true → p.turn v a.registers ≡ a.registers → ⊥) → (b ≡ false → p.turn v a.registers ≡ a.registers) → Turned m p a v b (after b)
      at b moved stayed = record {
        registers = refl;
        moved = moved;
        stayed = stayed;
        turns = refl;
        counts = record { rounds = refl; marks = λ w l. refl };
        last = refl;
        mark = refl;
        held = refl;
      }

  pub answered : (a : State) (c : Call) → Undrawn c → (r : Answer c) × (z : State) × Step m p a c r z
  answered a (turn v) u = elim (judge (checks m p (standing p a) (turn v)) (decided a (turn v))) [ inl f ↦ (let t = turned_so a v in (Ok t.0, t.1, (f, t.2))) | inr f ↦ (Err f.0, a, (f.1, refl)) ]
  answered a (draw d y) u = absurd u
  answered a (fault i x) u = elim (judge (checks m p (standing p a) (fault i x)) (decided a (fault i x))) [ inl f ↦ (Ok tt, record { registers = set a.registers i x; turns = 0; rounds = 0; named = λ w. false; last = 0; mark = a.mark; held = a.held }, (f, record { registers = refl; fresh = record { turns = refl; rounds = refl; named = λ w l. refl; last = refl }; mark = refl; held = refl })) | inr f ↦ (Err f.0, a, (f.1, refl)) ]
  answered a (ask q) u = (number m p a q, a, (refl, refl))
  answered a ask_held u = (a.held, a, (refl, refl))
  answered a (read i) u = elim (judge (checks m p (standing p a) (read i)) (decided a (read i))) [ inl f ↦ (Ok (get_or a.registers i 0), a, (f, refl, refl)) | inr f ↦ (Err f.0, a, (f.1, refl)) ]
  answered a (tell v) u = elim (judge (checks m p (standing p a) (tell v)) (decided a (tell v))) [ inl f ↦ (Ok (p.output a.registers v), a, (f, refl, refl)) | inr f ↦ (Err f.0, a, (f.1, refl)) ]
  answered a (hold b) u = elim (judge (checks m p (standing p a) (hold b)) (decided a (hold b))) [ inl f ↦ (Ok (record { mark = a.mark; badge = b }), with_held a true, (f, refl, refl, refl)) | inr f ↦ (Err f.0, a, (f.1, refl)) ]
  answered a (lift k) u = elim (judge (checks m p (standing p a) (lift k)) (decided a (lift k))) [ inl f ↦ (Ok (record { bound = told_bound p; last_change = a.last }), with_held a false, (f, refl, refl, refl)) | inr f ↦ (Err (f.0, k), a, (f.1, refl, refl)) ]
  answered a (cancel k) u = elim (judge (checks m p (standing p a) (cancel k)) (decided a (cancel k))) [ inl f ↦ (Ok tt, with_held a false, (f, refl)) | inr f ↦ (Err (f.0, k), a, (f.1, refl, refl)) ]

  pub drawn_so : (a : State) (d : Daemon) (v : ℕ) (y : Daemon) → Asked d v y → (x : Daemon) × (r : Answer (draw d x)) × (z : State) × Step m p a (draw d x) r z
  drawn_so a d v y k = elim (judge (checks m p (standing p a) (draw d y)) (decided a (draw d y))) [ inl f ↦ (let t = turned_so a v in (y, Ok (record { node = v; changed = t.0 }), t.1, (f, k, t.2))) | inr f ↦ (d, Err f.0, a, (f.1, refl, refl)) ]
