-- Legitimate mates are the maximal matchings of the site.
use Rattle.std.proofs.Common.{◌≡◌, ℕ, ◌<◌, ◌⊎◌, List, Some, None, Option, sym, refl, subst, inl, inr, arith}
use Rattle.lists.specs.Members.{Among}
use Rattle.lists.proofs.Decisions.{same_pair}
use Rattle.graph.specs.Model.{Model, ports, Drawn}
use Rattle.graph.proofs.Ports.{ports_joins, joins_ports, joins_ports_back}
use Rattle.protocol.specs.declared.Output.{Output}
use Rattle.protocol.specs.Matching.{Matched, Share, IsMatching, Mated, MaximalMatching}

module _ (m : Model) (drawn : Drawn m) (t : ℕ → Output) (legitimate : Matched m t) where
  has_mate? : (o : Option ℕ) → ((u : ℕ) × (o ≡ Some u)) ⊎ (o ≡ None)
  has_mate? (Some u) = inl (u, refl)
  has_mate? None = inr refl

  mates_link : (v u : ℕ) → v < m.nodes → (t v).mate ≡ Some u → Mated m t (v, u) ⊎ Mated m t (u, v)
  mates_link v u l e = elim (ports_joins m.links u v (legitimate.near v u l e)) [ inl a ↦ inr (a, legitimate.both v u l e) | inr a ↦ inl (a, e) ]

  mates_one : (v w u : ℕ) → v < m.nodes → w < m.nodes → (t v).mate ≡ Some u → (t w).mate ≡ Some u → v ≡ w
  mates_one v w u l k e h = let a = legitimate.both v u l e in let b = legitimate.both w u k h in cc

  link_covered : (a b : ℕ) → Among (a, b) m.links → ((u : ℕ) × ((t a).mate ≡ Some u)) ⊎ ((u : ℕ) × ((t b).mate ≡ Some u))
  link_covered a b h = go (has_mate? (t a).mate) (has_mate? (t b).mate)
    where
      go : ((u : ℕ) × ((t a).mate ≡ Some u)) ⊎ ((t a).mate ≡ None) → ((u : ℕ) × ((t b).mate ≡ Some u)) ⊎ ((t b).mate ≡ None) → ((u : ℕ) × ((t a).mate ≡ Some u)) ⊎ ((u : ℕ) × ((t b).mate ≡ Some u))
      go (inl x) y = inl x
      go (inr x) (inl y) = inr y
      go (inr x) (inr y) = let o = drawn.ordered a b h in absurd (legitimate.full a b (omega (arith, o.0, o.1)) (joins_ports m.links a b h) x y)

  mated_back : (l : ℕ × ℕ) → Mated m t l → (l.0 < l.1) × (l.1 < m.nodes) × ((t l.1).mate ≡ Some l.0)
  mated_back l h = let o = drawn.ordered l.0 l.1 h.0 in (o.0, o.1, legitimate.both l.0 l.1 (omega (arith, o.0, o.1)) h.1)

  -- two links between mates that share an end are the same; they are never the same link turned round
  mated_apart : (k l : ℕ × ℕ) → Mated m t k → Mated m t l → Share k l → k ≡ l
  mated_apart k l x y s = go s
    where
      i : (k.0 < k.1) × (k.1 < m.nodes) × ((t k.1).mate ≡ Some k.0)
      i = mated_back k x

      j : (l.0 < l.1) × (l.1 < m.nodes) × ((t l.1).mate ≡ Some l.0)
      j = mated_back l y

      same : (a b c d : ℕ) → (t a).mate ≡ Some b → (t c).mate ≡ Some d → a ≡ c → b ≡ d
      same a b c d p q e = cc

      go : Share k l → k ≡ l
      go (inl e) = same_pair e (same k.0 k.1 l.0 l.1 x.1 y.1 e)
      go (inr (inl e)) = absurd (omega (arith, same k.0 k.1 l.1 l.0 x.1 j.2 e, i.0, j.0))
      go (inr (inr (inl e))) = absurd (omega (arith, same k.1 k.0 l.0 l.1 i.2 y.1 e, i.0, j.0))
      go (inr (inr (inr e))) = same_pair (same k.1 k.0 l.1 l.0 i.2 j.2 e) e

  -- in a matching that has all links between mates, every link is one of them, since it shares its covered end with one
  mated_all : (ls : List (ℕ × ℕ)) → IsMatching m (λ l. Among l ls) → ((l : ℕ × ℕ) → Mated m t l → Among l ls) → (l : ℕ × ℕ) → Among l ls → Mated m t l
  mated_all ls is all l h = elim (link_covered l.0 l.1 link) [
    | inl e ↦ elim (mates_link l.0 e.0 (omega (arith, o.0, o.1)) e.1) [ inl x ↦ joins (l.0, e.0) x (inl refl) | inr x ↦ joins (e.0, l.0) x (inr (inl refl)) ]
    | inr e ↦ elim (mates_link l.1 e.0 o.1 e.1) [ inl x ↦ joins (l.1, e.0) x (inr (inr (inl refl))) | inr x ↦ joins (e.0, l.1) x (inr (inr (inr refl))) ]
  ]
    where
      link : Among l m.links
      link = is.links l h

      o : (l.0 < l.1) × (l.1 < m.nodes)
      o = drawn.ordered l.0 l.1 link

      joins : (k : ℕ × ℕ) → Mated m t k → Share l k → Mated m t l
      joins k x s = subst (Mated m t) (sym (is.apart l k h (all k x) s)) x

  pub maximal_matching : MaximalMatching m t
  maximal_matching = record {
    joined = mates_link;
    both = legitimate.both;
    one = mates_one;
    covered = link_covered;
    matched = record { links = λ l h. h.0; apart = mated_apart };
    maximal = mated_all;
  }

-- a maximal matching is legitimate
pub maximal_matched : (m : Model) (drawn : Drawn m) (t : ℕ → Output) → MaximalMatching m t → Matched m t
maximal_matched m drawn t h = record { near = near; both = h.both; full = full }
  where
    near : (v u : ℕ) → v < m.nodes → (t v).mate ≡ Some u → Among u (ports m v)
    near v u l e = elim (h.joined v u l e) [ inl x ↦ joins_ports m.links v u x.0 | inr x ↦ joins_ports_back m.links u v x.0 (λ q. absurd (omega (arith, (drawn.ordered u v x.0).0))) ]

    clash : (o : Option ℕ) → (u : ℕ) × (o ≡ Some u) → o ≡ None → ⊥
    clash o x y = let e = x.1 in let z : ◌≡◌ {A = ℕ} 0 1 = cc in omega arith

    full : (v u : ℕ) → v < m.nodes → Among u (ports m v) → (t v).mate ≡ None → (t u).mate ≡ None → ⊥
    full v u l a x y = elim (ports_joins m.links u v a) [
      | inl k ↦ elim (h.covered u v k) [ inl c ↦ clash (t u).mate c y | inr c ↦ clash (t v).mate c x ]
      | inr k ↦ elim (h.covered v u k) [ inl c ↦ clash (t v).mate c x | inr c ↦ clash (t u).mate c y ]
    ]
