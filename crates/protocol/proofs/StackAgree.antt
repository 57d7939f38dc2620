-- What the nodes tell decides whether counts and ranks are right; right ones are unique.
use Rattle.std.proofs.Common.{◌≡◌, ℕ, zero, suc, ◌+◌, ◌<◌, min, cond, eqb, List, [], ◌∷◌, take, sym, refl, ap, ◌∙◌, subst, ap₂, inl, inr, arith}
use Rattle.lists.specs.Members.{Among}
use Rattle.graph.specs.Model.{Model, Drawn, ports}
use Rattle.graph.proofs.Drawn.{inside}
use Rattle.rounds.specs.Forest.{Inside, above, up, In, Depths, Sized, Counted, sum_over}
use Rattle.rounds.proofs.Counting.{counted_map}
use Rattle.rounds.proofs.SizeLaws.{up_last, size_unique_lem}
use Rattle.rounds.proofs.Sums.{sum_cong}
use Rattle.protocol.specs.declared.Output.{Output}
use Rattle.protocol.specs.Outputs.{stored}
use Rattle.protocol.specs.Layers.{Near, children_among}
use Rattle.protocol.specs.Count.{CountsRight}
use Rattle.protocol.specs.Rank.{port_to, earlier, counts_before, RanksRight}
use Rattle.protocol.proofs.LayerForest.{none_or_some, parents, among_children, parents_inside}

-- chains of nodes stay among the nodes
up_same : (n : ℕ) (par rap : ℕ → ℕ) → Inside n par → ((v : ℕ) → v < n → par v ≡ rap v) → (k u w : ℕ) → u < n → up par k u ≡ suc w → (w < n) × (up rap k u ≡ suc w)
up_same n par rap ins e zero u w l q = (omega arith, q)
up_same n par rap ins e (suc k) u w l q =
    let a = up_last par k u w q in
    let r = up_same n par rap ins e k u a.0 l a.1 in
    (ins a.0 w r.0 a.2, ap (above rap) r.1 ∙ sym (e a.0 r.0) ∙ a.2)

pub sized_same : (n : ℕ) (par rap f g : ℕ → ℕ) → Inside n par → ((v : ℕ) → v < n → par v ≡ rap v) → ((v : ℕ) → v < n → f v ≡ g v) → Sized n par f → Sized n rap g
sized_same n par rap f g ins e q sized v l =
    subst (Counted (In rap v) n) (q v l)
    (counted_map (In par v) (In rap v) n (f v)
    (λ u k i. (i.0, (up_same n par rap ins e i.0 u v k i.1).1))
    (λ u k i. (i.0, (up_same n rap par (λ v w h r. ins v w h (e v h ∙ r)) (λ v h. sym (e v h)) i.0 u v k i.1).1))
    (sized v l))

among_take : (k : ℕ) (xs : List ℕ) (c : ℕ) → Among c (take k xs) → Among c xs
among_take zero xs c m = absurd m
among_take (suc k) [] c m = absurd m
among_take (suc k) (x ∷ xs) c (inl e) = inl e
among_take (suc k) (x ∷ xs) c (inr m) = inr (among_take k xs c m)

children_same : (s t : ℕ → Output) (w : ℕ) (xs : List ℕ) → ((c : ℕ) → Among c xs → (s c).parent ≡ (t c).parent) → children_among s w xs ≡ children_among t w xs
children_same s t w [] e = refl
children_same s t w (x ∷ xs) e = ap₂ (λ o cs. cond (eqb (stored o) (suc w)) (x ∷ cs) cs) (e x (inl refl)) (children_same s t w xs (λ c m. e c (inr m)))

module _ (m : Model) (drawn : Drawn m) (s t : ℕ → Output) (near : Near m s) (same : (v : ℕ) → v < m.nodes → (s v).parent ≡ (t v).parent) where
  same_stored : (v : ℕ) → v < m.nodes → parents s v ≡ parents t v
  same_stored v l = ap stored (same v l)

  pub counts_same : ((v : ℕ) → v < m.nodes → (s v).count ≡ (t v).count) → CountsRight m s → CountsRight m t
  counts_same e c = sized_same m.nodes (parents s) (parents t) (λ v. (s v).count) (λ v. (t v).count) (parents_inside m drawn s near) same_stored e c

  pub counts_one : CountsRight m s → CountsRight m t → (v : ℕ) → v < m.nodes → (s v).count ≡ (t v).count
  counts_one c d = size_unique_lem m.nodes (parents t) (λ v. (s v).count) (λ v. (t v).count) (sized_same m.nodes (parents s) (parents t) (λ v. (s v).count) (λ v. (s v).count) (parents_inside m drawn s near) same_stored (λ v l. refl) c) d

  module _ (counts : (v : ℕ) → v < m.nodes → (s v).count ≡ (t v).count) where
    before_same : (w v : ℕ) → counts_before m s w v ≡ counts_before m t w v
    before_same w v =
        let xs = earlier v (ports m w) in
        let low : (c : ℕ) → Among c xs → c < m.nodes = λ c k. (inside m drawn c w (among_take (port_to v (ports m w)) (ports m w) c k)).1 in
        sum_cong (λ c. (s c).count) (λ c. (t c).count) (children_among s w xs) (λ c k. counts c (low c (among_children s w c xs k).0))
        ∙ ap (sum_over (λ c. (t c).count)) (children_same s t w xs (λ c k. same c (low c k)))

    pub ranks_same : ((v : ℕ) → v < m.nodes → (s v).rank ≡ (t v).rank) → RanksRight m s → RanksRight m t
    ranks_same e r = record {
      top = λ v l q. sym (e v l) ∙ r.top v l (same v l ∙ q);
      next = λ v w l q.
          let p = same v l ∙ q in
          let k = (inside m drawn w v (near v w l p)).1 in
          sym (e v l) ∙ r.next v w l p ∙ ap₂ (λ x y. min m.nodes (x + 1 + y)) (e w k) (before_same w v);
    }

    pub ranks_one : (d : ℕ → ℕ) → Depths m.nodes (parents s) d → RanksRight m s → RanksRight m t → (k v : ℕ) → v < m.nodes → d v < k → (s v).rank ≡ (t v).rank
    ranks_one d depths a b zero v l h = absurd (omega arith)
    ranks_one d depths a b (suc k) v l h =
        elim (none_or_some (s v).parent) [
          | inl e ↦ a.top v l e ∙ sym (b.top v l (sym (same v l) ∙ e))
          | inr e ↦ (
              let w = e.0 in
              let j = depths.link v w l (ap stored e.1) in
              let r = ranks_one d depths a b k w j.0 (omega (arith, j.1)) in
              a.next v w l e.1 ∙ ap₂ (λ x y. min m.nodes (x + 1 + y)) r (before_same w v) ∙ sym (b.next v w l (sym (same v l) ∙ e.1)))
        ]
