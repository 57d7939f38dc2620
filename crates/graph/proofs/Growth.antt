-- A model drawn link by link.
use Rattle.std.proofs.Common.{ℕ, zero, suc, ◌<◌, ◌≤◌, List, [], ◌∷◌, ◌++◌, length, ap, subst, inl, inr, arith}
use Rattle.std.proofs.lemmas.Bool.{cases_eq}
use Rattle.std.proofs.lemmas.List.{length_push}
use Rattle.lists.specs.Members.{Among}
use Rattle.lists.proofs.Elements.{among_append_left, among_push_cases, once_push}
use Rattle.graph.specs.Model.{Model, Drawn, Walk, ports_of, ports}
use Rattle.graph.proofs.Ports.{ports_append, ports_push_first, ports_push_second, ports_push_other}

-- the model with other links
abbrev pub with_links : Model → List (ℕ × ℕ) → Model
with_links m ls = record { nodes = m.nodes; root = m.root; links = ls }

-- without links any number of nodes is drawn
pub drawn_none : (n r : ℕ) → 1 ≤ n → n ≤ 256 → r < n → Drawn (record { nodes = n; root = r; links = [] })
drawn_none n r some limit rooted = record {
  some = some;
  limit = limit;
  rooted = rooted;
  ordered = λ a b h. absurd h;
  once = tt;
  few = λ v l. omega arith;
}

module _ (m : Model) (a b : ℕ) where
  -- a further link keeps a model drawn, where its nodes are in order and inside, it is new and they have room
  pub drawn_push : Drawn m → a < b → b < m.nodes → (Among (a, b) m.links → ⊥) → length (ports m a) < 8 → length (ports m b) < 8 → Drawn (with_links m (m.links ++ ((a, b) ∷ [])))
  drawn_push drawn low high new ra rb = record {
    some = drawn.some;
    limit = drawn.limit;
    rooted = drawn.rooted;
    ordered = λ x y h. elim (among_push_cases (x, y) m.links (a, b) h) [ inl p ↦ drawn.ordered x y p | inr e ↦ (let f = ap {B = ℕ} (λ (z : ℕ × ℕ). z.0) e in let g = ap {B = ℕ} (λ (z : ℕ × ℕ). z.1) e in (omega arith, omega arith)) ];
    once = once_push m.links (a, b) drawn.once new;
    few = few;
  }
    where
      few : (v : ℕ) → v < m.nodes → length (ports_of (m.links ++ ((a, b) ∷ [])) v) ≤ 8
      few v l = elim (cases_eq a v) [
        | inl e ↦ subst (λ z. length (ports_of (m.links ++ ((a, b) ∷ [])) z) ≤ 8) e (rw (ports_push_first m.links a b) (omega (arith, length_push (ports m a) b)))
        | inr d ↦ elim (cases_eq b v) [
          | inl e ↦ subst (λ z. length (ports_of (m.links ++ ((a, b) ∷ [])) z) ≤ 8) e (rw (ports_push_second m.links a b (λ x. absurd (omega arith))) (omega (arith, length_push (ports m b) a)))
          | inr f ↦ rw (ports_push_other m.links a b v d f) (drawn.few v l)
        ]
      ]

-- walks last as links are added
pub walk_more : (m : Model) (ls : List (ℕ × ℕ)) (k v : ℕ) → Walk m k v → Walk (with_links m (m.links ++ ls)) k v
walk_more m ls zero v w = w
walk_more m ls (suc k) v w = (w.0, rw (ports_append m.links ls v) (among_append_left w.0 (ports m v) (ports_of ls v) w.1), walk_more m ls k w.0 w.2)
