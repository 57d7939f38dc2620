-- Whether a model is drawn, and whether it is proper, is decided.
use Rattle.std.proofs.Common.{ℕ, ◌<◌, ◌≤◌, length, inl, inr}
use Rattle.std.proofs.lemmas.Bool.{cases_eq}
use Rattle.lists.specs.Members.{Among, Once}
use Rattle.lists.proofs.Decisions.{Decided, both?, lt?, le?, pair?, all?, once?, all_below?, decided_from}
use Rattle.graph.specs.Model.{Model, Drawn, Proper, ports}
use Rattle.graph.proofs.Distances.{reached?}

pub drawn? : (m : Model) → Decided (Drawn m)
drawn? m = go (le? 1 m.nodes) (le? m.nodes 256) (lt? m.root m.nodes) (all? (λ (l : ℕ × ℕ). (l.0 < l.1) × (l.1 < m.nodes)) (λ l. both? (lt? l.0 l.1) (lt? l.1 m.nodes)) m.links) (once? (pair? cases_eq cases_eq) m.links) (all_below? (λ v. length (ports m v) ≤ 8) (λ v. le? (length (ports m v)) 8) m.nodes)
  where
    go : Decided (1 ≤ m.nodes) → Decided (m.nodes ≤ 256) → Decided (m.root < m.nodes) → Decided ((l : ℕ × ℕ) → Among l m.links → (l.0 < l.1) × (l.1 < m.nodes)) → Decided (Once m.links) → Decided ((v : ℕ) → v < m.nodes → length (ports m v) ≤ 8) → Decided (Drawn m)
    go (inl a) (inl b) (inl c) (inl d) (inl e) (inl f) = inl (record { some = a; limit = b; rooted = c; ordered = λ x y h. d (x, y) h; once = e; few = f })
    go (inr a) b c d e f = inr (λ t. a t.some)
    go (inl a) (inr b) c d e f = inr (λ t. b t.limit)
    go (inl a) (inl b) (inr c) d e f = inr (λ t. c t.rooted)
    go (inl a) (inl b) (inl c) (inr d) e f = inr (λ t. d (λ l h. t.ordered l.0 l.1 h))
    go (inl a) (inl b) (inl c) (inl d) (inr e) f = inr (λ t. e t.once)
    go (inl a) (inl b) (inl c) (inl d) (inl e) (inr f) = inr (λ t. f t.few)

pub proper? : (m : Model) → Decided (Proper m)
proper? m = go (drawn? m)
  where
    go : Decided (Drawn m) → Decided (Proper m)
    go (inl d) = elim (reached? m d) [ inl r ↦ inl (record { drawn = d; reached = r }) | inr n ↦ inr (λ p. n p.reached) ]
    go (inr n) = inr (λ p. n p.drawn)

-- so both come out of a truncation, as a ghost field has them
pub drawn_from : (m : Model) → ∥ Drawn m ∥₁ → Drawn m
drawn_from m t = decided_from (drawn? m) t

pub proper_from : (m : Model) → ∥ Proper m ∥₁ → Proper m
proper_from m t = decided_from (proper? m) t
