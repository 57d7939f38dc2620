-- Nodes that settle by their places: the places below k are good after k rounds.
use Rattle.std.proofs.Common.{◌≡◌, ℕ, suc, ◌<◌, ◌≤◌, sym, subst, inl, inr, arith}
use Rattle.std.proofs.lemmas.Bool.{cases_eq, cases_lt}
use Rattle.rounds.specs.Runs.{run, Waves, GoodBelow, Placed, ByPlaces, Fixpoint, Laws}
use Rattle.rounds.proofs.RunsLaws.{run_append, kept_run, compose, both, one_round, induction, rests}

module _ (S : Type 0) (step : ℕ → S → S) (Ok : S → Type 0) (Good : ℕ → S → Type 0) (n h : ℕ) (place : ℕ → ℕ) (placed : Placed S step n h Ok place Good) where
  abbrev Front : ℕ → S → Type 0
  Front k s = Ok s × GoodBelow n place Good k s

  -- a node of place at most k that is good stays so, whoever's turn it is
  spared : (k v u : ℕ) (s : S) → v < n → u < n → Front k s → place v ≤ k → Good v s → Good v (step u s)
  spared k v u s l m p le g = elim (cases_lt (place u) k) [ inl x ↦ lower x | inr x ↦ elim (cases_eq u v) [ inl e ↦ own e | inr e ↦ placed.apart v u s l m e (omega arith) p.0 g ] ]
    where
      lower : place u < k → Good v (step u s)
      lower x = subst (Good v) (sym (placed.still u s m p.0 (λ w i q. p.1 w i (omega arith)) (p.1 u m x))) g

      own : u ≡ v → Good v (step u s)
      own e = subst (λ z. Good v (step z s)) (sym e) (placed.turn v s l p.0 (λ w i q. p.1 w i (omega arith)))

  waves : Waves S step n Front (λ k v s. place v < suc k → Good v s)
  waves = record {
    kept = λ k v s l p. (placed.kept v s l p.0, λ u m q. spared k u v s m l p (omega arith) (p.1 u m q));
    turn = λ k v s l p q. placed.turn v s l p.0 (λ w i x. p.1 w i (omega arith));
    stays = λ k v u s l m p g q. spared k v u s l m p (omega arith) (g q);
    joins = λ k s p g. (p.0, g);
  }

pub places : (S : Type 0) (step : ℕ → S → S) (Ok : S → Type 0) (Good : ℕ → S → Type 0) → ByPlaces S step Ok Good
places S step Ok Good n h place pos placed s ts o bel c =
    let t = induction S step (Front S step Ok Good n h place placed) (λ k v s. place v < suc k → Good v s) n pos (waves S step Ok Good n h place placed) (suc h) s ts (o, λ v l q. absurd (omega arith)) bel c in
    let good : (v : ℕ) → v < n → Good v (run step ts s) = λ v l. t.1 v l (let q = placed.low v l in omega arith) in
    (t.0, good, λ v l. placed.still v (run step ts s) l t.0 (λ u m _. good u m) (good v l))

pub fixpoint : (S : Type 0) (step : ℕ → S → S) (Ok : S → Type 0) → Fixpoint S step Ok
fixpoint S step Ok n h place pos low kept again apart s ts o bel c =
    let t = places S step Ok (λ v s. step v s ≡ s) n h place pos (record { low = low; kept = kept; turn = λ v s l p _. again v s l p; still = λ v s l p _ e. e; apart = apart }) s ts o bel c in
    (t.0, t.1)

pub laws : (S : Type 0) (step : ℕ → S → S) (holds : ℕ → S → Type 0) (good : ℕ → ℕ → S → Type 0) → Laws S step holds good
laws S step holds good = record {
  append = run_append S step;
  keeps = λ i. kept_run S step (holds i);
  compose = λ i j k. compose S step (holds i) (holds j) (holds k);
  both = λ i j k. both S step (holds i) (holds j) (holds k);
  one = λ i j. one_round S step (holds i) (holds j);
  induction = induction S step holds good;
  places = λ i j. places S step (holds i) (good j);
  fixpoint = λ i. fixpoint S step (holds i);
  rests = rests S step;
}
