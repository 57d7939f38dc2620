-- Once the rounds have reached the told bound, nothing changes until the next fault.
use Rattle.std.proofs.Common.{◌≡◌, ℕ, ◌<◌, ◌≤◌, List, [], ◌∷◌, ◌++◌, length, sym, refl, ap, ◌∙◌, subst, append_assoc, append-nil, arith, length-append}
use Rattle.graph.specs.Model.{Model}
use Rattle.rounds.specs.Runs.{run, Below}
use Rattle.rounds.proofs.RoundsLaws.{splits_completes, rounds_below_turns_lem}
use Rattle.rounds.proofs.RunsLaws.{below_left, below_right, run_append, rests}
use Rattle.protocol.specs.Protocols.{Protocol, Registers, Laws}
use Rattle.promise.specs.Nets.{State}
use Rattle.promise.specs.History.{Event, turned, drawn, faulted, held, released, Exchange, events, accepted, since, registers, left, Calm, Reached}
use Rattle.promise.specs.Promise.{Settled}
use Rattle.promise.proofs.Sound.{sized_run, ran, Sound}

pub accepted_append : (later es : List Exchange) → accepted (later ++ es) ≡ accepted later ++ accepted es
accepted_append [] es = refl
accepted_append (e ∷ later) es = ap (λ q. events e.0 e.1 ++ q) (accepted_append later es) ∙ sym (append_assoc (events e.0 e.1) (accepted later) (accepted es))

-- without a fault the registers that the latest one left stay, and the turns go on
calm_on : (p : Protocol) (regs : List ℕ) (g h : List Event) → Calm g → (left p regs (g ++ h) ≡ left p regs h) × ((ts : List ℕ) × (since (g ++ h) ≡ since h ++ ts))
calm_on p regs [] h c = (refl, ([], sym (append-nil (since h))))
calm_on p regs (turned v ∷ g) h c = let t = calm_on p regs g h c in (t.0, (t.1.0 ++ (v ∷ []), ap (λ q. q ++ (v ∷ [])) t.1.1 ∙ append_assoc (since h) t.1.0 (v ∷ [])))
calm_on p regs (drawn d v y ∷ g) h c = let t = calm_on p regs g h c in (t.0, (t.1.0 ++ (v ∷ []), ap (λ q. q ++ (v ∷ [])) t.1.1 ∙ append_assoc (since h) t.1.0 (v ∷ [])))
calm_on p regs (faulted i x ∷ g) h c = absurd c
calm_on p regs (held ∷ g) h c = calm_on p regs g h c
calm_on p regs (released ∷ g) h c = calm_on p regs g h c

module _ (m : Model) (p : Protocol) (some : 0 < m.nodes) (laws : Laws m p) (regs : List ℕ) (own : ℕ) (g h : List Event) (a : State) (s : Sound m p some laws regs own (g ++ h) a) (calm : Calm g) (reached : Reached m p h) where
  on : (left p regs (g ++ h) ≡ left p regs h) × ((ts : List ℕ) × (since (g ++ h) ≡ since h ++ ts))
  on = calm_on p regs g h calm

  nodes : Below m.nodes (since h ++ on.1.0)
  nodes = subst (Below m.nodes) on.1.1 s.0.nodes

  front : Below m.nodes (since h)
  front = below_left m.nodes (since h) on.1.0 nodes

  start : Registers p.size (left p regs h)
  start = subst (Registers p.size) on.0 s.0.sized

  sized : Registers p.size (registers p regs h)
  sized = subst (Registers p.size) (sym (ran p regs h)) (sized_run m p some laws (since h) (left p regs h) front start)

  -- the told bound is the true one, since rounds never pass the turns
  true_bound : p.bound ≤ reached.0
  true_bound =
      let r = rounds_below_turns_lem m.nodes reached.0 (since h) some (splits_completes m.nodes reached.0 (since h) reached.1.0 reached.1.1) in
      let e = ap length on.1.1 in
      let d = length-append (since h) on.1.0 in
      let f = s.0.few in
      let l = reached.2 in
      omega arith

  rest : p.Rest (registers p regs h)
  rest = subst p.Rest (sym (ran p regs h)) (laws.settles (left p regs h) (since h) start front (reached.0, reached.1.0, true_bound, reached.1.1))

  stays : registers p regs (g ++ h) ≡ registers p regs h
  stays = ran p regs (g ++ h) ∙ ap (run p.turn (since (g ++ h))) on.0 ∙ ap (λ q. run p.turn q (left p regs h)) on.1.1 ∙ run_append (List ℕ) p.turn (since h) on.1.0 (left p regs h) ∙ ap (run p.turn on.1.0) (sym (ran p regs h)) ∙ rests (List ℕ) p.turn m.nodes (registers p regs h) (laws.still (registers p regs h) sized rest) on.1.0 (below_right m.nodes (since h) on.1.0 nodes)

  pub settled : Settled p (registers p regs h) (registers p regs (g ++ h))
  settled = record {
    legitimate = subst (λ q. p.Legitimate (p.output q)) (sym stays) (laws.right (registers p regs h) sized rest);
    registers = stays;
    outputs = λ v. ap (λ q. p.output q v) stays;
  }
