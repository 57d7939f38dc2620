-- What `filter` gives of an `Option`, by what its closure answers.
use Rattle.std.proofs.Common.{◌≡◌, Bool, true, false, None, Some, Option, refl, ap, ◌∙◌}
use Rattle.std.specs.Bool.{then_some}
use Rattle.std.specs.Option.{MatchOption}
use Rattle.std.proofs.lemmas.Map.Entries.{option_filter}

pub filter_is :
    {A : Type 0} (p : A → Bool) (o r : Option A) (Answers : A → Bool → Type 0)
    → MatchOption o (r ≡ None) (λ x. (b : Bool) × Answers x b × (r ≡ then_some b x)) → ((x : A) (b : Bool) → Answers x b → b ≡ p x)
    → r ≡ option_filter p o
filter_is p None r Answers h tells = h
filter_is p (Some x) r Answers h tells = h.2 ∙ ap (λ (b : Bool). then_some b x) (tells x h.0 h.1) ∙ go (p x)
  where
    go : (b : Bool) → then_some b x ≡ option_filter (λ _. b) (Some x)
    go true = refl
    go false = refl
