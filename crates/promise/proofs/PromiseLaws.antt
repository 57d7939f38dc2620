-- The promise, from the laws of a protocol alone.
use Rattle.std.proofs.Common.{◌≡◌, ℕ, ◌<◌, false, ◌⊎◌, List, ◌++◌, Ok, Err, sym, subst, inl, inr, arith}
use Rattle.std.proofs.lemmas.Bool.{cases_Bool, both_ways}
use Rattle.refusal.specs.Checks.{Free}
use Rattle.graph.specs.Model.{Model}
use Rattle.protocol.specs.Protocols.{Protocol, Laws, told_bound}
use Rattle.promise.specs.Nets.{State, Hold, lift, Answer, checks, Step}
use Rattle.promise.specs.History.{Event, accepted, since, registers, is_held, Rounds, Reached, standing_after}
use Rattle.promise.specs.Promise.{Settled, Granted, Owed, Promise}
use Rattle.promise.proofs.Sound.{unless, equal, Sound, sound}
use Rattle.promise.proofs.Checked.{free_first}
use Rattle.promise.proofs.Right.{same_rounds, now, right}
use Rattle.promise.proofs.Rests.{accepted_append, settled}
use Rattle.promise.proofs.Patient.{drawn_rounds}

module _ (m : Model) (p : Protocol) (some : 0 < m.nodes) (laws : Laws m p) where
  -- a lift is free of refusals just where a hold is open, the mark is the net's and the bound is reached
  free_owed : (own : ℕ) (h : List Event) (k : Hold) (rounds : ℕ) → Rounds m.nodes (since h) rounds → Free (checks m p (standing_after m p own h) (lift k)) → Owed own h k × Reached m p h
  free_owed own h k rounds r f = ((elim (cases_Bool (is_held h)) [ inl e ↦ e | inr e ↦ absurd (f.0 (inr e)) ], equal k.mark own (λ e. f.0 (inl e))), (rounds, r, unless rounds (told_bound p) (λ l. f.1.0 (rounds, r, l))))

  owed_free : (regs : List ℕ) (own : ℕ) (h : List Event) (a : State) (k : Hold) → Sound m p some laws regs own h a → Owed own h k → Reached m p h → Free (checks m p (standing_after m p own h) (lift k))
  owed_free regs own h a k s o r = (open_here, ((λ e. let x = same_rounds m p some laws regs own h a s e.0 e.1 in let y = same_rounds m p some laws regs own h a s r.0 r.1 in let l = e.2 in let q = r.2 in omega arith), tt))
    where
      open_here : ((k.mark ≡ own → ⊥) ⊎ (is_held h ≡ false)) → ⊥
      open_here (inl e) = e o.1
      open_here (inr e) = both_ways (is_held h) e o.0

  granted : (regs : List ℕ) (own : ℕ) (h : List Event) (a z : State) (k : Hold) (r : Answer (lift k)) → Sound m p some laws regs own h a → Step m p a (lift k) r z → (Granted r → Owed own h k × Reached m p h) × (Owed own h k × Reached m p h → Granted r)
  granted regs own h a z k (Ok u) s t = ((λ _. free_owed own h k a.rounds (s.0.tracks.0, s.0.tracks.1) (right m p some laws regs own h a s z (lift k) (Ok u) t).0), λ _. tt)
  granted regs own h a z k (Err e) s t = ((λ x. absurd x), λ x. absurd (free_first (checks m p (standing_after m p own h) (lift k)) e.0 (owed_free regs own h a k s x.0 x.1) (right m p some laws regs own h a s z (lift k) (Err e) t).0))

  pub promise : Promise m p
  promise = record {
    answers = λ regs own es a z c r s t. right m p some laws regs own (accepted es) a (sound m p some laws regs own es a s) z c r t;
    made = λ regs own es z s. now m p some laws regs own (accepted es) z (sound m p some laws regs own es z s);
    rests = λ regs own later es z s c r. subst (λ q. Settled p (registers p regs (accepted es)) (registers p regs q)) (sym (accepted_append later es)) (settled m p some laws regs own (accepted later) (accepted es) z (subst (λ q. Sound m p some laws regs own q z) (accepted_append later es) (sound m p some laws regs own (later ++ es) z s)) c r);
    lifts = λ regs own es a z k r s t. granted regs own (accepted es) a z k r (sound m p some laws regs own es a s) t;
    patient = λ regs own es z d j s c l. let t = drawn_rounds m.nodes (told_bound p) d j (accepted es) some c (sound m p some laws regs own es z s).1 l in (t.0, (t.1, t.3), t.2);
  }
