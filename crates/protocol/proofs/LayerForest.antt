-- Told parents as stored ones: what outputs say of chains is what forests say.
use Rattle.std.proofs.Common.{◌≡◌, ℕ, zero, suc, ◌+◌, ◌<◌, ◌⊎◌, List, [], ◌∷◌, Some, None, Option, sym, refl, ap, ◌∙◌, inl, inr, arith}
use Rattle.std.proofs.lemmas.Bool.Decides.{eqb_tells}
use Rattle.lists.specs.Members.{Among, Once}
use Rattle.graph.specs.Model.{Model, ports, Drawn}
use Rattle.graph.proofs.Drawn.{inside, both, ports_once}
use Rattle.rounds.specs.Forest as F
use Rattle.rounds.specs.Forest.{Depths, Greatest, sum_over, child_sum, Lists}
use Rattle.rounds.specs.Preorder.{Ordered}
use Rattle.rounds.proofs.ChainLaws.{tall_depths_lem}
use Rattle.protocol.specs.declared.Output.{Output}
use Rattle.protocol.specs.Outputs.{stored, Chain, Tall}
use Rattle.protocol.specs.Layers.{Near, children_among, children}
use Rattle.protocol.proofs.FirstLaws.{stored_none, stored_some}

pub none_or_some : (o : Option ℕ) → (o ≡ None) ⊎ ((u : ℕ) × (o ≡ Some u))
none_or_some None = inl refl
none_or_some (Some u) = inr (u, refl)

-- the parents that outputs tell, stored
abbrev pub parents : (ℕ → Output) → ℕ → ℕ
parents t v = stored (t v).parent

pub chain_stored : (t : ℕ → Output) (k v : ℕ) → Chain t k v → F.Chain (parents t) k v
chain_stored t zero v e = ap stored e
chain_stored t (suc k) v c = (c.0, ap stored c.1, chain_stored t k c.0 c.2)

pub stored_chain : (t : ℕ → Output) (k v : ℕ) → F.Chain (parents t) k v → Chain t k v
stored_chain t zero v e = stored_none (t v).parent e
stored_chain t (suc k) v c = (c.0, stored_some (t v).parent c.0 c.1, stored_chain t k c.0 c.2)

pub tall_stored : (n h : ℕ) (t : ℕ → Output) → Tall n t h → F.Tall n (parents t) h
tall_stored n h t a = record {
  low = λ v l. let c = a.most v l in (c.0, c.1, chain_stored t c.0 v c.2);
  high = let c = a.longest in (c.0, c.1, chain_stored t h c.0 c.2);
}

pub stored_tall : (n h : ℕ) (t : ℕ → Output) → F.Tall n (parents t) h → Tall n t h
stored_tall n h t a = record {
  most = λ v l. let c = a.low v l in (c.0, c.1, stored_chain t c.0 v c.2);
  longest = let c = a.high in (c.0, c.1, stored_chain t h c.0 c.2);
}

module _ (t : ℕ → Output) (v : ℕ) where
  pub among_children : (c : ℕ) (xs : List ℕ) → Among c (children_among t v xs) → Among c xs × (parents t c ≡ suc v)
  among_children c [] m = absurd m
  among_children c (x ∷ xs) m =
      elim (eqb_tells (parents t x) (suc v)) [
        | inl e ↦ elim (rw e.0 at m) [ inl q ↦ (inl q, ap (parents t) q ∙ e.1) | inr q ↦ (let r = among_children c xs q in (inr r.0, r.1)) ]
        | inr e ↦ (let r = among_children c xs (rw e.0 at m) in (inr r.0, r.1))
      ]

  pub children_all : (c : ℕ) (xs : List ℕ) → Among c xs → parents t c ≡ suc v → Among c (children_among t v xs)
  children_all c [] m p = absurd m
  children_all c (x ∷ xs) (inl q) p = elim (eqb_tells (parents t x) (suc v)) [ inl e ↦ rw e.0 (inl q) | inr e ↦ absurd (e.1 (ap (parents t) (sym q) ∙ p)) ]
  children_all c (x ∷ xs) (inr q) p = let r = children_all c xs q p in elim (eqb_tells (parents t x) (suc v)) [ inl e ↦ rw e.0 (inr r) | inr e ↦ rw e.0 r ]

  pub children_once : (xs : List ℕ) → Once xs → Once (children_among t v xs)
  children_once [] o = tt
  children_once (x ∷ xs) o =
      let r = children_once xs o.1 in
      elim (eqb_tells (parents t x) (suc v)) [ inl e ↦ rw e.0 ((λ m. o.0 (among_children x xs m).0), r) | inr e ↦ rw e.0 r ]

  pub children_sum : (f : ℕ → ℕ) (xs : List ℕ) → sum_over f (children_among t v xs) ≡ child_sum (parents t) f v xs
  children_sum f [] = refl
  children_sum f (x ∷ xs) =
      let r = children_sum f xs in
      elim (eqb_tells (parents t x) (suc v)) [ inl e ↦ rw e.0 (ap (λ z. f x + z) r) | inr e ↦ rw e.0 (omega arith) ]

module _ (m : Model) (drawn : Drawn m) (t : ℕ → Output) (near : Near m t) where
  pub near_stored : (v w : ℕ) → v < m.nodes → parents t v ≡ suc w → Among w (ports m v)
  near_stored v w l e = near v w l (stored_some (t v).parent w e)

  pub parents_inside : F.Inside m.nodes (parents t)
  parents_inside v w l e = (inside m drawn w v (near_stored v w l e)).1

  pub child_port : (v w : ℕ) → v < m.nodes → parents t v ≡ suc w → Among v (ports m w)
  child_port v w l e = both m drawn w v (near_stored v w l e)

  pub lists_children : (v : ℕ) → Lists m.nodes (parents t) v (ports m v)
  lists_children v = record {
    once = ports_once m drawn v;
    nodes = λ c k. (inside m drawn c v k).1;
    all = λ c l e. child_port c v l e;
  }

  pub ordered_children : Ordered m.nodes (parents t) (children m t)
  ordered_children = record {
    once = λ v l. children_once t v (ports m v) (ports_once m drawn v);
    child = λ v c l k. let r = among_children t v c (ports m v) k in ((inside m drawn c v r.0).1, r.1);
    all = λ v c l k e. children_all t v c (ports m v) (child_port c v k e) e;
  }

  pub deep : (h : ℕ) → Tall m.nodes t h → (d : ℕ → ℕ) × Depths m.nodes (parents t) d × Greatest m.nodes d h
  deep h a = tall_depths_lem m.nodes (parents t) h parents_inside (tall_stored m.nodes h t a)
