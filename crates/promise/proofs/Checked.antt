-- Checks that look at a net and checks that look at its history decline the same calls.
use Rattle.std.proofs.Common.{◌≡◌, ℕ, false, ◌⊎◌, [], ◌∷◌, sym, refl, ◌∙◌, inl, inr}
use Rattle.refusal.specs.declared.Refusal.{Refusal}
use Rattle.refusal.specs.Checks.{Checks, First, Free}
use Rattle.graph.specs.Model.{Model}
use Rattle.protocol.specs.Protocols.{Protocol}
use Rattle.promise.specs.Nets.{Standing, Call, turn, draw, fault, ask, ask_held, read, tell, hold, lift, cancel, checks}

-- the same refusals in the same order, for facts that hold together
abbrev pub Matches : Checks → Checks → Type 0
Matches [] [] = Unit {0}
Matches [] (d ∷ ds) = ⊥
Matches (c ∷ cs) [] = ⊥
Matches (c ∷ cs) (d ∷ ds) = (c.0 ≡ d.0) × (c.1 → d.1) × (d.1 → c.1) × Matches cs ds

pub first_matches : (cs ds : Checks) (e : Refusal) → Matches cs ds → First cs e → First ds e
first_matches [] [] e m f = f
first_matches [] (d ∷ ds) e m f = absurd m
first_matches (c ∷ cs) [] e m f = absurd m
first_matches (c ∷ cs) (d ∷ ds) e m (inl f) = inl (f.0 ∙ m.0, m.1 f.1)
first_matches (c ∷ cs) (d ∷ ds) e m (inr f) = inr (λ x. f.0 (m.2 x), first_matches cs ds e m.3 f.1)

pub free_matches : (cs ds : Checks) → Matches cs ds → Free cs → Free ds
free_matches [] [] m f = tt
free_matches [] (d ∷ ds) m f = absurd m
free_matches (c ∷ cs) [] m f = absurd m
free_matches (c ∷ cs) (d ∷ ds) m f = (λ x. f.0 (m.2 x), free_matches cs ds m.3 f.1)

-- no call is both accepted and declined
pub free_first : (cs : Checks) (e : Refusal) → Free cs → First cs e → ⊥
free_first [] e f g = g
free_first (c ∷ cs) e f (inl g) = f.0 g.1
free_first (c ∷ cs) e f (inr g) = free_first cs e f.1 g.1

-- nor declined in two ways
pub first_one : (cs : Checks) (d e : Refusal) → First cs d → First cs e → d ≡ e
first_one [] d e f g = absurd f
first_one (c ∷ cs) d e (inl f) (inl g) = f.0 ∙ sym g.0
first_one (c ∷ cs) d e (inl f) (inr g) = absurd (g.0 f.1)
first_one (c ∷ cs) d e (inr f) (inl g) = absurd (f.0 g.1)
first_one (c ∷ cs) d e (inr f) (inr g) = first_one cs d e f.1 g.1

-- two views of one net
pub record Agrees (s t : Standing) : Type 0 where
  pub spent : (s.Spent → t.Spent) × (t.Spent → s.Spent)
  pub below : (s.Below → t.Below) × (t.Below → s.Below)
  pub held : s.held ≡ t.held
  pub mark : s.mark ≡ t.mark

foreign : (s t : Standing) → s.held ≡ t.held → s.mark ≡ t.mark → (k : ℕ) → ((k ≡ s.mark → ⊥) ⊎ (s.held ≡ false)) → ((k ≡ t.mark → ⊥) ⊎ (t.held ≡ false))
foreign s t held mark k (inl f) = inl (λ e. f (e ∙ sym mark))
foreign s t held mark k (inr f) = inr (sym held ∙ f)

module _ (m : Model) (p : Protocol) (s t : Standing) (a : Agrees s t) where
  pub checks_match : (c : Call) → Matches (checks m p s c) (checks m p t c)
  checks_match (turn v) = (refl, (λ x. x), (λ x. x), (refl, a.spent.0, a.spent.1, tt))
  checks_match (draw d y) = (refl, (λ x. x), (λ x. x), (refl, a.spent.0, a.spent.1, tt))
  checks_match (fault i x) = (refl, (λ x. x), (λ x. x), (refl, (λ x. x), (λ x. x), tt))
  checks_match (ask q) = tt
  checks_match ask_held = tt
  checks_match (read i) = (refl, (λ x. x), (λ x. x), tt)
  checks_match (tell v) = (refl, (λ x. x), (λ x. x), tt)
  checks_match (hold b) = (refl, (λ x. sym a.held ∙ x), (λ x. a.held ∙ x), tt)
  checks_match (lift k) = (refl, foreign s t a.held a.mark k.mark, foreign t s (sym a.held) (sym a.mark) k.mark, (refl, a.below.0, a.below.1, tt))
  checks_match (cancel k) = (refl, foreign s t a.held a.mark k.mark, foreign t s (sym a.held) (sym a.mark) k.mark, tt)
