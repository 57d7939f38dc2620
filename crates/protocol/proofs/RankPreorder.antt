-- Over right counts, ranks that meet the rule are places in the preorder listing.
use Rattle.std.proofs.Common.{◌≡◌, ℕ, zero, suc, ◌+◌, ◌<◌, ◌≤◌, true, eqb, List, [], ◌∷◌, ◌++◌, sym, refl, ap, ◌∙◌, subst, ap₂, inl, inr, arith}
use Rattle.std.proofs.lemmas.Bool.Decides.{eqb_tells}
use Rattle.lists.specs.Members.{Among, Once}
use Rattle.lists.proofs.Elements.{once_apart}
use Rattle.graph.specs.Model.{Model, Proper, ports}
use Rattle.rounds.specs.Forest.{Depths, sum_over}
use Rattle.rounds.specs.Preorder.{Ranked}
use Rattle.rounds.proofs.SizeLaws.{size_low_lem, size_sum_lem}
use Rattle.rounds.proofs.Sums.{sum_append}
use Rattle.protocol.specs.declared.Output.{Output}
use Rattle.protocol.specs.Outputs.{stored}
use Rattle.protocol.specs.Layers.{Near, children_among, children}
use Rattle.protocol.specs.Count.{CountsRight}
use Rattle.protocol.specs.Rank.{earlier, counts_before, RanksRight}
use Rattle.protocol.proofs.FirstLaws.{stored_none, stored_some}
use Rattle.protocol.proofs.LayerForest.{none_or_some, parents, child_port, lists_children, ordered_children, children_sum}

-- a list splits at an element that stands once in one way
split_unique : (v : ℕ) (a b c d : List ℕ) → (Among v a → ⊥) → (Among v c → ⊥) → a ++ (v ∷ b) ≡ c ++ (v ∷ d) → a ≡ c
split_unique v [] b [] d f g e = refl
split_unique v [] b (y ∷ c) d f g e = let q : v ≡ y = cc in absurd (g (inl q))
split_unique v (x ∷ a) b [] d f g e = let q : v ≡ x = cc in absurd (f (inl q))
split_unique v (x ∷ a) b (y ∷ c) d f g e =
    let p : x ≡ y = cc in
    let q : a ++ (v ∷ b) ≡ c ++ (v ∷ d) = cc in
    ap₂ (λ z zs. z ∷ zs) p (split_unique v a b c d (λ k. f (inr k)) (λ k. g (inr k)) q)

-- the children at earlier ports are those before v
children_split : (t : ℕ → Output) (w v : ℕ) (xs : List ℕ) → Among v xs → parents t v ≡ suc w → (later : List ℕ) × (children_among t w xs ≡ children_among t w (earlier v xs) ++ (v ∷ later))
children_split t w v [] m p = absurd m
children_split t w v (x ∷ xs) m p =
    elim (eqb_tells x v) [
      | inl q ↦ (let e : eqb (parents t x) (suc w) ≡ true = child x q.1 in (children_among t w xs, rw (q.0, e) (ap (λ z. z ∷ children_among t w xs) q.1)))
      | inr q ↦ elim m [
        | inl z ↦ absurd (q.1 (sym z))
        | inr z ↦ (let r = children_split t w v xs z p in elim (eqb_tells (parents t x) (suc w)) [ inl e ↦ (r.0, rw (q.0, e.0) (ap (λ y. x ∷ y) r.1)) | inr e ↦ (r.0, rw (q.0, e.0) r.1) ])
      ]
    ]
  where
    child : (x : ℕ) → x ≡ v → eqb (parents t x) (suc w) ≡ true
    child x q = elim (eqb_tells (parents t x) (suc w)) [ inl e ↦ e.0 | inr e ↦ absurd (e.1 (ap (parents t) q ∙ p)) ]

module _ (m : Model) (proper : Proper m) (t : ℕ → Output) (near : Near m t) (d : ℕ → ℕ) (depths : Depths m.nodes (parents t) d) (counts : CountsRight m t) (ranks : RanksRight m t) where
  abbrev count : ℕ → ℕ
  count v = (t v).count

  -- a child and its earlier siblings have room in their parent's subtree
  share : (v w : ℕ) → v < m.nodes → parents t v ≡ suc w → (w < m.nodes) × (d v ≡ suc (d w)) × (1 + counts_before m t w v + count v ≤ count w)
  share v w l e =
      let k = depths.link v w l e in
      let s = size_sum_lem m.nodes (parents t) d count depths counts w (ports m w) k.0 (lists_children m proper.drawn t near w) in
      let a = children_sum t w count (ports m w) in
      let p = children_split t w v (ports m w) (child_port m proper.drawn t near v w l e) e in
      let b = ap (sum_over count) p.1 ∙ sum_append count (children_among t w (earlier v (ports m w))) (v ∷ p.0) in
      (k.0, k.1, omega arith)

  -- so no rank is cut off
  room : (k v : ℕ) → v < m.nodes → d v < k → (t v).rank + count v ≤ m.nodes
  room zero v l h = absurd (omega arith)
  room (suc k) v l h =
      elim (none_or_some (t v).parent) [
        | inl e ↦ (let a = ranks.top v l e in let b = size_low_lem m.nodes (parents t) count counts v l in omega arith)
        | inr e ↦ (let s = share v e.0 l (ap stored e.1) in let r = room k e.0 s.0 (omega (arith, s.1)) in let a = ranks.next v e.0 l e.1 in omega (arith, s.2))
      ]

  pub ranked : Ranked m.nodes (parents t) (children m t) count (λ v. (t v).rank)
  ranked = record {
    top = λ v l e. ranks.top v l (stored_none (t v).parent e);
    next = next;
  }
    where
      next : (v w : ℕ) (before later : List ℕ) → v < m.nodes → w < m.nodes → parents t v ≡ suc w → children m t w ≡ before ++ (v ∷ later) → (t v).rank ≡ (t w).rank + 1 + sum_over count before
      next v w before later l k e q =
          let p = children_split t w v (ports m w) (child_port m proper.drawn t near v w l e) e in
          let once = (ordered_children m proper.drawn t near).once w k in
          let f : Among v before → ⊥ = λ a. once_apart before (v ∷ later) (subst Once q once) v a (inl refl) in
          let g : Among v (children_among t w (earlier v (ports m w))) → ⊥ = λ a. once_apart (children_among t w (earlier v (ports m w))) (v ∷ p.0) (subst Once p.1 once) v a (inl refl) in
          let u = ap (sum_over count) (split_unique v before later (children_among t w (earlier v (ports m w))) p.0 f g (sym q ∙ p.1)) in
          let s = share v w l e in
          let r = room (suc (d w)) w k (omega arith) in
          let a = ranks.next v w l (stored_some (t v).parent w e) in
          omega (arith, s.2)
