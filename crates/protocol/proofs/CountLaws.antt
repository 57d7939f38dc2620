-- Count over any protocol is one, and its counts are the sizes of subtrees.
use Rattle.std.proofs.Common.{◌≡◌, ℕ, zero, suc, ◌+◌, ◌<◌, min, List, [], ◌∷◌, get_or, set, sym, refl, ap, subst, arith}
use Rattle.graph.specs.Model.{Model, Proper, ports}
use Rattle.rounds.specs.Forest.{In, Counted, Sized, Depths, Greatest, sum_over}
use Rattle.rounds.proofs.SizeLaws.{sizes_exist_lem, size_low_lem, size_sum_lem}
use Rattle.rounds.proofs.Sums.{sum_cong}
use Rattle.protocol.specs.declared.Output.{Output}
use Rattle.protocol.specs.Outputs.{Tall, with_count}
use Rattle.protocol.specs.Protocols.{Protocol, Laws}
use Rattle.protocol.specs.Layers.{Near, children, LayerLaws}
use Rattle.protocol.specs.Gather.{block, join_all, Gathered, GatheringLaws}
use Rattle.protocol.specs.Count.{counting, CountsRight, counter, count}
use Rattle.protocol.proofs.LayerForest.{parents, lists_children, ordered_children, children_sum, deep}
use Rattle.protocol.proofs.LayerLaws.{layered_laws}
use Rattle.protocol.proofs.GatherLaws.{gatherer_laws}

pub join_sum : (f : ℕ → ℕ) (xs : List ℕ) (x : ℕ) → join_all (λ x y. x + y) f x xs ≡ x + sum_over f xs
join_sum f [] x = omega arith
join_sum f (c ∷ cs) x = let r = join_sum f cs (x + f c) in omega arith

pub count_rule : (m : Model) (t : ℕ → Output) (v : ℕ) (xs : List ℕ) → (counter m).rule t v xs ≡ set xs v (min m.nodes (1 + sum_over (λ c. get_or xs c 0) (children m t v)))
count_rule m t v xs = ap (λ z. set xs v (min m.nodes z)) (join_sum (λ c. get_or xs c 0) (children m t v) 1)

module _ (m : Model) (proper : Proper m) (t : ℕ → Output) (near : Near m t) (h : ℕ) (d size : ℕ → ℕ) (depths : Depths m.nodes (parents t) d) (great : Greatest m.nodes d h) (sized : Sized m.nodes (parents t) size) where
  -- numbers that are gathered from one another are the sizes: from the deepest nodes up
  counts_are : (f : ℕ → ℕ) → Gathered m (counting m) t f → (k v : ℕ) → v < m.nodes → h < d v + k → f v ≡ size v
  counts_are f rule zero v l q = let b = great.0 v l in absurd (omega arith)
  counts_are f rule (suc k) v l q =
      let kids = ordered_children m proper.drawn t near in
      let a = rule v l in
      let b = join_sum f (children m t v) 1 in
      let c = sum_cong f size (children m t v) (λ c i. let o = kids.child v c l i in let e = (depths.link c v o.0 o.1).1 in counts_are f rule k c o.0 (omega arith)) in
      let e = children_sum t v size (ports m v) in
      let s = size_sum_lem m.nodes (parents t) d size depths sized v (ports m v) l (lists_children m proper.drawn t near v) in
      let w = size_low_lem m.nodes (parents t) size sized v l in
      omega arith

counting_laws : (m : Model) → Proper m → GatheringLaws m (counting m)
counting_laws m proper = record {
  room = λ v i l k. room v i l k;
  small = λ x i k. let s = proper.drawn.limit in omega arith;
  loads = λ x f e. e 0 (omega arith);
}
  where
    room : (v i : ℕ) → v < m.nodes → i < 1 → block m.nodes i v < m.nodes
    room v zero l k = l
    room v (suc i) l k = absurd (omega arith)

-- numbers that are gathered from one another are right as counts
pub gathered_counts : (m : Model) → Proper m → (t : ℕ → Output) (h : ℕ) (f : ℕ → ℕ) → Near m t → Tall m.nodes t h → Gathered m (counting m) t f → CountsRight m (λ v. with_count (t v) (f v))
gathered_counts m proper t h f near tall rule v l =
    let e = deep m proper.drawn t near h tall in
    let s = sizes_exist_lem m.nodes (parents t) e.0 e.1 in
    subst (Counted (In (parents t) v) m.nodes) (sym (counts_are m proper t near h e.0 s.0 e.1 e.2 s.1 f rule (suc h) v l (omega arith))) (s.1 v l)

pub counter_laws : (m : Model) → Proper m → LayerLaws m (counter m)
counter_laws m proper = gatherer_laws m (counting m) with_count (CountsRight m) proper (counting_laws m proper) (λ o x. refl) (λ o. (o.count, λ x. refl)) (gathered_counts m proper)

pub count_laws : (m : Model) (p : Protocol) → Proper m → Laws m p → Laws m (count m p)
count_laws m p proper law = layered_laws m (counter m) p proper (counter_laws m proper) law
