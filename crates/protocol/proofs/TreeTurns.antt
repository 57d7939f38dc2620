-- What a turn of Tree writes, and that it is right once all nearer nodes are.
use Rattle.std.proofs.Common.{◌≡◌, ℕ, suc, ◌+◌, ◌-◌, ◌<◌, ◌≤◌, min, eqb, List, length, get_or, set, None, sym, ap, ◌∙◌, subst, inl, inr, arith, length-set}
use Rattle.std.proofs.lemmas.Bool.{cases_eq, cases_lt}
use Rattle.std.proofs.lemmas.List.{get_or-set_same, get_or-set_other}
use Rattle.std.proofs.ByRecursion.{All-set}
use Rattle.lists.specs.Members.{Among}
use Rattle.graph.specs.Model.{Model, Proper, ports, distance}
use Rattle.graph.proofs.Drawn.{inside}
use Rattle.graph.proofs.Heights.{distance_below, root_distance, distance_next, distance_near}
use Rattle.protocol.specs.Outputs.{stored}
use Rattle.protocol.specs.Protocols.{Registers}
use Rattle.protocol.specs.First.{least, first}
use Rattle.protocol.specs.Tree.{new_distance, new_parent, nearer, tree_turn, tree_parent}
use Rattle.protocol.proofs.FirstLaws.{least_le, least_ge, eqb_same, first_cong, stored_first_most}
use Rattle.protocol.proofs.TreeParents.{cond_same, cond_apart, parent_root, parent_other, distance_other}

module _ (m : Model) where
  distance_root : (f : ℕ → ℕ) (v : ℕ) → v ≡ m.root → new_distance m f v ≡ 0
  distance_root f v e = cond_same v m.root 0 (min (least f (ports m v) + 1) (m.nodes - 1)) e

  distance_least : (f : ℕ → ℕ) (v : ℕ) → (v ≡ m.root → ⊥) → new_distance m f v ≡ min (least f (ports m v) + 1) (m.nodes - 1)
  distance_least f v d = cond_apart v m.root 0 (min (least f (ports m v) + 1) (m.nodes - 1)) d

  parent_none : (f : ℕ → ℕ) (v : ℕ) → v ≡ m.root → new_parent m f v ≡ None
  parent_none f v e = cond_same v m.root None (first (λ u. eqb (f u) (least f (ports m v))) (ports m v)) e

  parent_least : (f : ℕ → ℕ) (v : ℕ) → (v ≡ m.root → ⊥) → new_parent m f v ≡ first (λ u. eqb (f u) (least f (ports m v))) (ports m v)
  parent_least f v d = cond_apart v m.root None (first (λ u. eqb (f u) (least f (ports m v))) (ports m v)) d

  -- the registers after a turn of v
  module _ (v : ℕ) (xs : List ℕ) where
    pub after_distance : v < m.nodes → length xs ≡ m.nodes + m.nodes → get_or (tree_turn m v xs) v 0 ≡ new_distance m (λ u. get_or xs u 0) v
    after_distance l q = get_or-set_other (set xs v (new_distance m (λ u. get_or xs u 0) v)) (m.nodes + v) v (stored (new_parent m (λ u. get_or xs u 0) v)) 0 (omega arith) ∙ get_or-set_same xs v (new_distance m (λ u. get_or xs u 0) v) 0 (omega arith)

    pub after_parent : v < m.nodes → length xs ≡ m.nodes + m.nodes → get_or (tree_turn m v xs) (m.nodes + v) 0 ≡ stored (new_parent m (λ u. get_or xs u 0) v)
    after_parent l q = get_or-set_same (set xs v (new_distance m (λ u. get_or xs u 0) v)) (m.nodes + v) (stored (new_parent m (λ u. get_or xs u 0) v)) 0 (simp length-set (omega arith))

    pub after_other : (i : ℕ) → (i ≡ v → ⊥) → (i ≡ m.nodes + v → ⊥) → get_or (tree_turn m v xs) i 0 ≡ get_or xs i 0
    after_other i a b = get_or-set_other (set xs v (new_distance m (λ u. get_or xs u 0) v)) (m.nodes + v) i (stored (new_parent m (λ u. get_or xs u 0) v)) 0 b ∙ get_or-set_other xs v i (new_distance m (λ u. get_or xs u 0) v) 0 a

    pub after_length : length (tree_turn m v xs) ≡ length xs
    after_length = simp length-set

module _ (m : Model) (proper : Proper m) where
  new_distance_low : (f : ℕ → ℕ) (v : ℕ) → new_distance m f v < m.nodes
  new_distance_low f v = let s = proper.drawn.some in elim (cases_eq v m.root) [ inl e ↦ (let a = distance_root m f v e in omega arith) | inr d ↦ (let a = distance_least m f v d in omega arith) ]

  new_parent_low : (f : ℕ → ℕ) (v : ℕ) → stored (new_parent m f v) ≤ m.nodes
  new_parent_low f v = elim (cases_eq v m.root) [
    | inl e ↦ subst (λ z. stored z ≤ m.nodes) (sym (parent_none m f v e)) (omega arith)
    | inr d ↦ subst (λ z. stored z ≤ m.nodes) (sym (parent_least m f v d)) (stored_first_most m.nodes (λ u. eqb (f u) (least f (ports m v))) (ports m v) (λ u h. (inside m proper.drawn u v h).1))
  ]

  pub keeps : (v : ℕ) (xs : List ℕ) → v < m.nodes → Registers (m.nodes + m.nodes) xs → Registers (m.nodes + m.nodes) (tree_turn m v xs)
  keeps v xs l r =
      let a = new_distance_low (λ u. get_or xs u 0) v in
      let b = new_parent_low (λ u. get_or xs u 0) v in
      let c = proper.drawn.limit in
      (after_length m v xs ∙ r.0, All-set (λ x. x < 65536) (set xs v (new_distance m (λ u. get_or xs u 0) v)) (m.nodes + v) (stored (new_parent m (λ u. get_or xs u 0) v)) (omega arith) (All-set (λ x. x < 65536) xs v (new_distance m (λ u. get_or xs u 0) v) (omega arith) r.1))

  -- what the registers d and p of v say before wave k: right if v is nearer than k, and else not too near
  abbrev pub At : ℕ → ℕ → ℕ → ℕ → Type 0
  At k v d p = (distance m v < k → (d ≡ distance m v) × (p ≡ stored (tree_parent m v))) × (k ≤ distance m v → k ≤ d)

  pub at_before : (k v d p : ℕ) → At (suc k) v d p → At k v d p
  at_before k v d p h = (λ l. h.0 (omega arith), λ l. elim (cases_eq k (distance m v)) [ inl e ↦ (let q = (h.0 (omega arith)).0 in omega arith) | inr e ↦ (let q = h.1 (omega arith) in omega arith) ])

  -- and the distances of all nodes
  abbrev pub Near : ℕ → (ℕ → ℕ) → Type 0
  Near k f = (v : ℕ) → v < m.nodes → (distance m v < k → f v ≡ distance m v) × (k ≤ distance m v → k ≤ f v)

  module _ (k v : ℕ) (f : ℕ → ℕ) (l : v < m.nodes) (h : Near k f) where
    rule_root : v ≡ m.root → At (suc k) v (new_distance m f v) (stored (new_parent m f v))
    rule_root e =
        let z : distance m v ≡ 0 = ap (distance m) e ∙ root_distance m proper in
        (λ _. (distance_root m f v e ∙ sym z, ap stored (parent_none m f v e ∙ sym (parent_root m v e))), λ q. absurd (omega arith))

    module _ (other : v ≡ m.root → ⊥) where
      pos : 0 < distance m v
      pos = distance_other m proper v l other

      low : distance m v < m.nodes
      low = distance_below m proper v l

      near : (u : ℕ) → Among u (ports m v) → (distance m u < k → f u ≡ distance m u) × (k ≤ distance m u → k ≤ f u)
      near u a = h u (inside m proper.drawn u v a).1

      next : (u : ℕ) × (u < m.nodes) × Among u (ports m v) × (distance m u ≡ distance m v - 1)
      next = distance_next m proper v (distance m v - 1) l (omega (arith, pos))

      none_less : (u : ℕ) → distance m v < suc k → Among u (ports m v) → distance m v - 1 ≤ f u
      none_less u q a =
          let n = near u a in
          let b = (distance_near m proper u v a).0 in
          elim (cases_lt (distance m u) k) [ inl x ↦ (let c = n.0 x in omega arith) | inr x ↦ (let c = n.1 x in omega arith) ]

      least_is : distance m v < suc k → least f (ports m v) ≡ distance m v - 1
      least_is q =
          let ge = least_ge f (distance m v - 1) next.0 (ports m v) next.2 (λ u a. none_less u q a) in
          let le = least_le f next.0 (ports m v) next.2 in
          let c = (near next.0 next.2).0 (omega (arith, next.3, pos)) in
          omega (arith, next.3, pos)

      same_test : distance m v < suc k → (u : ℕ) → Among u (ports m v) → eqb (f u) (least f (ports m v)) ≡ nearer m v u
      same_test q u a =
          let e = least_is q in
          let n = near u a in
          eqb_same (f u) (least f (ports m v)) (distance m u + 1) (distance m v)
          (λ x. elim (cases_lt (distance m u) k) [ inl y ↦ (let c = n.0 y in omega (arith, pos)) | inr y ↦ (let c = n.1 y in absurd (omega (arith, pos))) ])
          (λ x. let c = n.0 (omega arith) in omega arith)

      right : distance m v < suc k → (new_distance m f v ≡ distance m v) × (stored (new_parent m f v) ≡ stored (tree_parent m v))
      right q =
          let e = least_is q in
          let n = distance_least m f v other in
          (omega (arith, pos, low), ap stored (parent_least m f v other ∙ first_cong (λ u. eqb (f u) (least f (ports m v))) (nearer m v) (ports m v) (same_test q) ∙ sym (parent_other m v other)))

      far : suc k ≤ distance m v → suc k ≤ new_distance m f v
      far q =
          let ge = least_ge f k next.0 (ports m v) next.2 (λ u a. let b = (distance_near m proper u v a).0 in (near u a).1 (omega arith)) in
          let n = distance_least m f v other in
          omega (arith, low)

    -- if all registers are right before wave k, v's are before the next
    pub rule : At (suc k) v (new_distance m f v) (stored (new_parent m f v))
    rule = elim (cases_eq v m.root) [ inl e ↦ rule_root e | inr d ↦ (right d, far d) ]
