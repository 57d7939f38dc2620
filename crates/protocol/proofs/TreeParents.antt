-- The legitimate parents of Tree: they exist, are unique, and are a breadth-first tree.
use Rattle.std.proofs.Common.{◌≡◌, ℕ, zero, suc, ◌+◌, ◌-◌, ◌<◌, cond, eqb, Some, None, sym, refl, ap, ◌∙◌, subst, inl, inr, arith}
use Rattle.std.proofs.lemmas.Bool.{cases_eq, eqb-true, eq-eqb, ne_eqb, cond-true, cond-false}
use Rattle.lists.specs.Members.{Among}
use Rattle.graph.specs.Model.{Model, Proper, Walk, ports, distance, height}
use Rattle.graph.proofs.Drawn.{inside}
use Rattle.graph.proofs.Heights.{distance_is, root_distance, root_only, distance_next, distance_most, height_taken}
use Rattle.protocol.specs.declared.Output.{Output}
use Rattle.protocol.specs.Outputs.{plain, with_parent, Chain, Tall}
use Rattle.protocol.specs.First.{first, IsFirst}
use Rattle.protocol.specs.Tree.{nearer, Legitimate, tree_parent, Leads, LegitimateExists, TellsTree, TellsOne}
use Rattle.protocol.proofs.FirstLaws.{first_among, first_is, first_exists, is_first_among}

pub cond_same : {A : Type 0} (a b : ℕ) (x y : A) → a ≡ b → cond (eqb a b) x y ≡ x
cond_same a b x y e = cond-true (eqb a b) x y (eq-eqb a b e)

pub cond_apart : {A : Type 0} (a b : ℕ) (x y : A) → (a ≡ b → ⊥) → cond (eqb a b) x y ≡ y
cond_apart a b x y d = cond-false (eqb a b) x y (ne_eqb a b d)

pub parent_root : (m : Model) (v : ℕ) → v ≡ m.root → tree_parent m v ≡ None
parent_root m v e = cond_same v m.root None (first (nearer m v) (ports m v)) e

pub parent_other : (m : Model) (v : ℕ) → (v ≡ m.root → ⊥) → tree_parent m v ≡ first (nearer m v) (ports m v)
parent_other m v d = cond_apart v m.root None (first (nearer m v) (ports m v)) d

-- that parent is a neighbour
pub parent_among : (m : Model) (v u : ℕ) → tree_parent m v ≡ Some u → Among u (ports m v)
parent_among m v u e = elim (cases_eq v m.root) [
  | inl q ↦ absurd (let a = parent_root m v q in let z : ◌≡◌ {A = ℕ} 0 1 = cc in omega arith)
  | inr d ↦ (first_among (nearer m v) (ports m v) u (sym (parent_other m v d) ∙ e)).0
]

-- what legitimate outputs tell is that parent
pub legitimate_parent : (m : Model) (t : ℕ → Output) → Legitimate m t → (v : ℕ) → v < m.nodes → (t v).parent ≡ tree_parent m v
legitimate_parent m t h v l = elim (cases_eq v m.root) [
  | inl e ↦ ap (λ z. (t z).parent) e ∙ h.root ∙ sym (parent_root m v e)
  | inr d ↦ (let r = h.other v l d in r.1 ∙ sym (first_is (nearer m v) (ports m v) r.0 r.2) ∙ sym (parent_other m v d))
]

pub tells_one : (m : Model) → TellsOne m
tells_one m t o a b v l = legitimate_parent m t a v l ∙ sym (legitimate_parent m o b v l)

module _ (m : Model) (proper : Proper m) where
  pub distance_other : (v : ℕ) → v < m.nodes → (v ≡ m.root → ⊥) → 0 < distance m v
  distance_other v l d = elim (cases_eq (distance m v) 0) [ inl e ↦ absurd (d (root_only m proper v l e)) | inr n ↦ omega arith ]

  -- every node but the root has a nearer neighbour, so a first one
  pub parent_exists : (v : ℕ) → v < m.nodes → (v ≡ m.root → ⊥) → (u : ℕ) × (first (nearer m v) (ports m v) ≡ Some u) × IsFirst (nearer m v) (ports m v) u
  parent_exists v l d =
      let p = distance_other v l d in
      let t = distance_next m proper v (distance m v - 1) l (omega arith) in
      first_exists (nearer m v) (ports m v) t.0 t.2 (eq-eqb (distance m t.0 + 1) (distance m v) (omega (arith, t.3)))

  -- outputs that tell that parent are legitimate
  pub parent_legitimate : (t : ℕ → Output) → ((v : ℕ) → v < m.nodes → (t v).parent ≡ tree_parent m v) → Legitimate m t
  parent_legitimate t h = record {
    root = h m.root proper.drawn.rooted ∙ parent_root m m.root refl;
    other = λ v l d. (let r = parent_exists v l d in (r.0, h v l ∙ parent_other m v d ∙ r.1, r.2));
  }

  pub legitimate_exists : LegitimateExists m
  legitimate_exists = (λ v. with_parent plain (tree_parent m v), parent_legitimate (λ v. with_parent plain (tree_parent m v)) (λ v l. refl))

  module _ (t : ℕ → Output) (h : Legitimate m t) where
    only : (v : ℕ) → v < m.nodes → (t v).parent ≡ None → v ≡ m.root
    only v l e = elim (cases_eq v m.root) [ inl q ↦ q | inr d ↦ absurd (let q = (h.other v l d).1 in let z : ◌≡◌ {A = ℕ} 0 1 = cc in omega arith) ]

    -- the told parent of a node that tells one
    near : (v u : ℕ) → v < m.nodes → (t v).parent ≡ Some u → Among u (ports m v) × (distance m v ≡ distance m u + 1)
    near v u l e = elim (cases_eq v m.root) [
      | inl q ↦ absurd (let a = h.root in let b = ap (λ z. (t z).parent) q in let z : ◌≡◌ {A = ℕ} 0 1 = cc in omega arith)
      | inr d ↦ (
          let r = h.other v l d in
          let a = r.1 in
          let q : r.0 ≡ u = cc in
          let f = subst (IsFirst (nearer m v) (ports m v)) q r.2 in
          (is_first_among (nearer m v) (ports m v) u f, sym (eqb-true (distance m u + 1) (distance m v) f.passes))
          )
    ]

    -- the chain from a node at distance d
    descends : (d v : ℕ) → v < m.nodes → distance m v ≡ d → Chain t d v × Leads t d v m.root
    descends zero v l e = let q = root_only m proper v l e in (ap (λ z. (t z).parent) q ∙ h.root, q)
    descends (suc d) v l e =
        let o : v ≡ m.root → ⊥ = (λ q. let z = root_distance m proper in let y = ap (distance m) q in omega arith) in
        let r = h.other v l o in
        let n = near v r.0 l r.1 in
        let s = descends d r.0 (inside m proper.drawn r.0 v n.0).1 (omega (arith, n.1)) in
        ((r.0, r.1, s.0), (r.0, r.1, s.1))

    leads_walk : (k v : ℕ) → v < m.nodes → Leads t k v m.root → Walk m k v
    leads_walk zero v l q = q
    leads_walk (suc k) v l q =
        let n = near v q.0 l q.1 in
        (q.0, n.0, leads_walk k q.0 (inside m proper.drawn q.0 v n.0).1 q.2)

    -- chains end, and the longest has as many links as the greatest distance
    pub legitimate_tall : Tall m.nodes t (height m)
    legitimate_tall = record {
      most = λ v l. (distance m v, distance_most m proper v l, (descends (distance m v) v l refl).0);
      longest = (let x = height_taken m proper in (x.0, x.1, subst (λ z. Chain t z x.0) (sym x.2) (descends (distance m x.0) x.0 x.1 refl).0));
    }

  pub tells_tree : TellsTree m
  tells_tree t h = record {
    root = h.root;
    only = only t h;
    nearer = near t h;
    chain = λ v l. descends t h (distance m v) v l refl;
    walk = λ v k l q. leads_walk t h k v l q;
    shortest = λ v k l w. (distance_is m proper v l).least k w;
  }
