-- What a view settles in, and what settles over a view at rest.
use Rattle.std.proofs.Common.{ℕ, [], ◌∷◌, sym, refl, ap, ◌∙◌, subst, inl, inr}
use Rattle.rounds.specs.Runs.{run, From}
use Rattle.rounds.specs.Views.{RunView, FromView, Stacks, Laws}
use Rattle.rounds.proofs.RunsLaws.{kept_run, compose, rests}

module _ (S T : Type 0) (step : ℕ → S → S) (part : ℕ → T → T) (view : S → T) (P : S → Type 0) where
  pub run_view : RunView S T step part view P
  run_view n w [] s b p = refl
  run_view n w (v ∷ ts) s b p = let l = b v (inl refl) in run_view n w ts (step v s) (λ u m. b u (inr m)) (w.kept v s l p) ∙ ap (run part ts) (w.acts v s l p)

  pub from_view : (Q R : T → Type 0) → FromView S T step part view P Q R
  from_view Q R n b w f s ts p bel c = (kept_run S step P n w.kept ts s bel p.0, subst R (sym (run_view n w ts s bel p.0)) (f (view s) ts p.1 bel c))

  pub stacks : (Q R : T → Type 0) (Own : T → S → Type 0) → Stacks S T step part view P Q R Own
  stacks Q R Own n b c pos w f still over = compose S step (λ s. P s × Q (view s)) (λ s. P s × R (view s)) (λ s. P s × R (view s) × Own (view s) s) n b c pos (from_view Q R n b w f) then
    where
      then : From step n (λ s. P s × R (view s)) c (λ s. P s × R (view s) × Own (view s) s)
      then s ts p bel k =
          let same = run_view n w ts s bel p.0 ∙ rests T part n (view s) (still (view s) p.1) ts bel in
          (kept_run S step P n w.kept ts s bel p.0, subst R (sym same) p.1, subst (λ z. Own z (run step ts s)) (sym same) (over (view s) p.1 s ts (p.0, refl) bel k))

pub laws : (S T : Type 0) (step : ℕ → S → S) (part : ℕ → T → T) (view : S → T) (holds : ℕ → S → Type 0) (shows : ℕ → T → Type 0) (own : T → S → Type 0) → Laws S T step part view holds shows own
laws S T step part view holds shows own = record {
  run = λ i. run_view S T step part view (holds i);
  from = λ i j k. from_view S T step part view (holds i) (shows j) (shows k);
  stacks = λ i j k. stacks S T step part view (holds i) (shows j) (shows k) own;
}
