-- Links entered one after another: one more that is free, and the first that is declined.
use Rattle.std.proofs.Common.{◌≡◌, ℕ, List, [], ◌∷◌, ◌++◌, sym, ap, subst, inl, inr, append_assoc}
use Rattle.std.proofs.lemmas.List.{append-nil}
use Rattle.refusal.specs.declared.Refusal.{Refusal}
use Rattle.refusal.specs.Checks.{First, Free}
use Rattle.graph.specs.Model.{Model}
use Rattle.site.specs.Entering.{link_checks, with_link, AllFree, FirstOf}

-- the site with these links more
abbrev pub entered : Model → List (ℕ × ℕ) → Model
entered m xs = record { nodes = m.nodes; root = m.root; links = m.links ++ xs }

entered_none : (m : Model) → entered m [] ≡ m
entered_none m = ap (λ (ls : List (ℕ × ℕ)). record { nodes = m.nodes; root = m.root; links = ls }) (append-nil m.links)

entered_step : (m : Model) (x : ℕ × ℕ) (xs : List (ℕ × ℕ)) → entered m (x ∷ xs) ≡ entered (with_link m x.0 x.1) xs
entered_step m x xs = ap (λ (ls : List (ℕ × ℕ)). record { nodes = m.nodes; root = m.root; links = ls }) (sym (append_assoc m.links (x ∷ []) xs))

pub all_push : (m : Model) (xs : List (ℕ × ℕ)) (l : ℕ × ℕ) → AllFree m xs → Free (link_checks (entered m xs) l.0 l.1) → AllFree m (xs ++ (l ∷ []))
all_push m [] l a f = (subst (λ (k : Model). Free (link_checks k l.0 l.1)) (entered_none m) f, tt)
all_push m (x ∷ xs) l a f = (a.0, all_push (with_link m x.0 x.1) xs l a.1 (subst (λ (k : Model). Free (link_checks k l.0 l.1)) (entered_step m x xs) f))

pub first_at : (m : Model) (xs : List (ℕ × ℕ)) (l : ℕ × ℕ) (ys : List (ℕ × ℕ)) (e : Refusal) → AllFree m xs → First (link_checks (entered m xs) l.0 l.1) e → FirstOf m (xs ++ (l ∷ ys)) e
first_at m [] l ys e a f = inl (subst (λ (k : Model). First (link_checks k l.0 l.1) e) (entered_none m) f)
first_at m (x ∷ xs) l ys e a f = inr (a.0, first_at (with_link m x.0 x.1) xs l ys e a.1 (subst (λ (k : Model). First (link_checks k l.0 l.1) e) (entered_step m x xs) f))
