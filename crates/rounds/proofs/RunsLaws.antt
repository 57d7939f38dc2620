-- Runs of turns, one after the other and round by round.
use Rattle.std.proofs.Common.{ℕ, zero, suc, ◌+◌, ◌≤◌, max, List, [], ◌∷◌, ◌++◌, sym, refl, ap, ◌∙◌, subst, inl, inr, arith}
use Rattle.lists.specs.Members.{Among}
use Rattle.lists.proofs.Elements.{among_append_left, among_append_right}
use Rattle.rounds.specs.Runs.{run, Below, Kept, From, RunAppend, KeptRun, Compose, Both, OneRound, Waves, Induction, Rests}
use Rattle.rounds.proofs.RoundsLaws.{adds, splits_completes, completes_covers, completes_fewer}

pub below_left : (n : ℕ) (xs ys : List ℕ) → Below n (xs ++ ys) → Below n xs
below_left n xs ys h v m = h v (among_append_left v xs ys m)

pub below_right : (n : ℕ) (xs ys : List ℕ) → Below n (xs ++ ys) → Below n ys
below_right n xs ys h v m = h v (among_append_right v xs ys m)

module _ (S : Type 0) (step : ℕ → S → S) where
  pub run_append : RunAppend S step
  run_append [] ys s = refl
  run_append (x ∷ xs) ys s = run_append xs ys (step x s)

  pub rests : Rests S step
  rests n s still [] b = refl
  rests n s still (v ∷ ts) b = ap (run step ts) (still v (b v (inl refl))) ∙ rests n s still ts (λ u m. b u (inr m))

  pub kept_run : (P : S → Type 0) → KeptRun S step P
  kept_run P n k [] s b h = h
  kept_run P n k (v ∷ ts) s b h = kept_run P n k ts (step v s) (λ u m. b u (inr m)) (k v s (b v (inl refl)) h)

  pub kept_from : (P : S → Type 0) (n b : ℕ) → Kept step n P → From step n P b P
  kept_from P n b k s ts p bel c = kept_run P n k ts s bel p

  pub from_more : (P Q : S → Type 0) (n b c : ℕ) → b ≤ c → From step n P b Q → From step n P c Q
  from_more P Q n b c l f s ts p bel k = f s ts p bel (completes_fewer n b c ts l k)

  pub compose : (P Q R : S → Type 0) → Compose S step P Q R
  compose P Q R n b c l first then s ts p bel comp =
      let t = adds n b c ts l comp in
      let bt : Below n (t.0 ++ t.1) = subst (Below n) (sym t.2) bel in
      let q = first s t.0 p (below_left n t.0 t.1 bt) (splits_completes n b t.0 [] t.3) in
      let e = ap (λ z. run step z s) (sym t.2) ∙ run_append t.0 t.1 s in
      subst R (sym e) (then (run step t.0 s) t.1 q (below_right n t.0 t.1 bt) t.4)

  pub both : (P Q R : S → Type 0) → Both S step P Q R
  both P Q R n b c f g s ts p bel k = (from_more P Q n b (max b c) (omega arith) f s ts p bel k, from_more P R n c (max b c) (omega arith) g s ts p bel k)

  -- once v had its turn, it is good
  good_after : (P G : S → Type 0) (n v : ℕ) → Kept step n P → ((s : S) → P s → G (step v s)) → Kept step n (λ s. P s × G s) → (ts : List ℕ) (s : S) → Below n ts → P s → Among v ts → G (run step ts s)
  good_after P G n v k t g [] s b h m = absurd m
  good_after P G n v k t g (x ∷ ts) s b h (inl e) = (kept_run (λ s. P s × G s) n g ts (step x s) (λ u w. b u (inr w)) (k x s (b x (inl refl)) h, subst (λ z. G (step z s)) e (t s h))).1
  good_after P G n v k t g (x ∷ ts) s b h (inr m) = good_after P G n v k t g ts (step x s) (λ u w. b u (inr w)) (k x s (b x (inl refl)) h) m

  pub one_round : (P G : S → Type 0) → OneRound S step P G
  one_round P G n v l k t g s ts p bel c = good_after P G n v k t g ts s bel p (completes_covers n 0 ts c v l)

  module _ (P : ℕ → S → Type 0) (Good : ℕ → ℕ → S → Type 0) where
    wave : (n : ℕ) → Waves S step n P Good → (k : ℕ) → From step n (P k) 1 (P (suc k))
    wave n w k s ts p bel c =
        w.joins k (run step ts s) (kept_run (P k) n (w.kept k) ts s bel p)
        (λ v l. one_round (P k) (Good k v) n v l (w.kept k) (λ s q. w.turn k v s l q) (λ u s m q. (w.kept k u s m q.0, w.stays k v u s l m q.0 q.1)) s ts p bel c)

    pub induction : Induction S step P Good
    induction n l w zero = kept_from (P 0) n 0 (w.kept 0)
    induction n l w (suc b) = from_more (P 0) (P (suc b)) n (b + 1) (suc b) (omega arith) (compose (P 0) (P b) (P (suc b)) n b 1 l (induction n l w b) (wave n w b))
