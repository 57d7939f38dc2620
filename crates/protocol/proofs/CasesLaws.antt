-- The worked examples hold.
use Rattle.std.proofs.Common.{◌≡◌, ℕ, zero, suc, ◌+◌, ◌<◌, min, Bool, true, false, ◌&&◌, ◌||◌, eqb, List, [], ◌∷◌, ◌++◌, length, Some, None, Option, sym, refl, ap, ◌∙◌, subst, inl, inr, arith}
use Rattle.std.proofs.lemmas.Bool.{cases_eq, eq-eqb, both_ways, or_parts, and_from}
use Rattle.lists.specs.Members.{Among}
use Rattle.graph.specs.Model.{Model, Drawn, Proper, Distance, ports, within, misses, distance, greatest, height}
use Rattle.graph.proofs.Growth.{drawn_none, drawn_push}
use Rattle.graph.proofs.Distances.{within_reached}
use Rattle.graph.proofs.Heights.{distance_is}
use Rattle.protocol.specs.declared.Output.{Output}
use Rattle.protocol.specs.Outputs.{plain}
use Rattle.protocol.specs.Gather.{gathered}
use Rattle.protocol.specs.Count.{counting}
use Rattle.protocol.specs.Rank.{counts_before, RanksRight}
use Rattle.protocol.specs.Tree.{tree_parent}
use Rattle.protocol.specs.Matching.{Rule, M0, M1, M2, M3, Stays, Asks, place, register}
use Rattle.protocol.specs.Cases.{five, five_distance, five_tells, single, path, named, Exactly, Table}
use Rattle.protocol.proofs.TreeParents.{parent_legitimate, legitimate_tall}
use Rattle.protocol.proofs.CountLaws.{gathered_counts}
use Rattle.protocol.proofs.StackLaws.{whole, near_tree, stack_stands_lem}

-- what holds at each number below n
abbrev Each : (ℕ → Type 0) → ℕ → Type 0
Each P zero = Unit {0}
Each P (suc n) = Each P n × P n

each : (P : ℕ → Type 0) (n : ℕ) → Each P n → (v : ℕ) → v < n → P v
each P zero h v l = absurd (omega arith)
each P (suc n) h v l = elim (cases_eq v n) [ inl e ↦ subst P (sym e) h.1 | inr e ↦ each P n h.0 v (omega arith) ]

-- whether a link stands in a list
abbrev seen : ℕ → ℕ → List (ℕ × ℕ) → Bool
seen a b [] = false
seen a b (l ∷ ls) = (eqb a l.0 && eqb b l.1) || seen a b ls

unseen : (a b : ℕ) (ls : List (ℕ × ℕ)) → seen a b ls ≡ false → Among (a, b) ls → ⊥
unseen a b [] e m = m
unseen a b (l ∷ ls) e (inl q) =
    let f = ap {B = ℕ} (λ (z : ℕ × ℕ). z.0) q in
    let g = ap {B = ℕ} (λ (z : ℕ × ℕ). z.1) q in
    both_ways (eqb a l.0 && eqb b l.1) (or_parts (eqb a l.0 && eqb b l.1) (seen a b ls) e).0 (and_from (eqb a l.0) (eqb b l.1) (eq-eqb a l.0 f) (eq-eqb b l.1 g))
unseen a b (l ∷ ls) e (inr q) = unseen a b ls (or_parts (eqb a l.0 && eqb b l.1) (seen a b ls) e).1 q

-- the site with so many nodes and these links, root 0
abbrev site : ℕ → List (ℕ × ℕ) → Model
site n ls = record { nodes = n; root = 0; links = ls }

-- a link more
linked : (n a b : ℕ) (ls : List (ℕ × ℕ)) → Drawn (site n ls) → a < b → b < n → seen a b ls ≡ false → length (ports (site n ls) a) < 8 → length (ports (site n ls) b) < 8 → Drawn (site n (ls ++ ((a, b) ∷ [])))
linked n a b ls d low high new ra rb = drawn_push (site n ls) a b d low high (unseen a b ls new) ra rb

five_drawn : Drawn five
five_drawn =
    linked 5 3 4 ((0, 1) ∷ (0, 2) ∷ (1, 3) ∷ (2, 3) ∷ [])
    (linked 5 2 3 ((0, 1) ∷ (0, 2) ∷ (1, 3) ∷ [])
    (linked 5 1 3 ((0, 1) ∷ (0, 2) ∷ [])
    (linked 5 0 2 ((0, 1) ∷ [])
    (linked 5 0 1 [] (drawn_none 5 0 (omega arith) (omega arith) (omega arith)) (omega arith) (omega arith) refl (omega arith) (omega arith))
    (omega arith) (omega arith) refl (omega arith) (omega arith))
    (omega arith) (omega arith) refl (omega arith) (omega arith))
    (omega arith) (omega arith) refl (omega arith) (omega arith))
    (omega arith) (omega arith) refl (omega arith) (omega arith)

five_proper : Proper five
unfolding within
five_proper = record { drawn = five_drawn; reached = within_reached five five_drawn 3 (each (λ v. within five 3 v ≡ true) 5 (((((tt, refl), refl), refl), refl), refl)) }

single_drawn : Drawn single
single_drawn = drawn_none 1 0 (omega arith) (omega arith) (omega arith)

single_proper : Proper single
unfolding within
single_proper = record { drawn = single_drawn; reached = within_reached single single_drawn 0 (each (λ v. within single 0 v ≡ true) 1 (tt, refl)) }

path_drawn : Drawn path
path_drawn =
    linked 3 1 2 ((0, 1) ∷ [])
    (linked 3 0 1 [] (drawn_none 3 0 (omega arith) (omega arith) (omega arith)) (omega arith) (omega arith) refl (omega arith) (omega arith))
    (omega arith) (omega arith) refl (omega arith) (omega arith)

path_proper : Proper path
unfolding within
path_proper = record { drawn = path_drawn; reached = within_reached path path_drawn 2 (each (λ v. within path 2 v ≡ true) 3 (((tt, refl), refl), refl)) }

-- the rank that the rule gives a node, by its parent
abbrev ruled : Model → (ℕ → Output) → ℕ → Option ℕ → ℕ
ruled m t v None = 0
ruled m t v (Some w) = min m.nodes ((t w).rank + 1 + counts_before m t w v)

ruled_right : (m : Model) (t : ℕ → Output) → ((v : ℕ) → v < m.nodes → (t v).rank ≡ ruled m t v (t v).parent) → RanksRight m t
ruled_right m t h = record {
  top = λ v l e. h v l ∙ ap (ruled m t v) e;
  next = λ v w l e. h v l ∙ ap (ruled m t v) e;
}

-- outputs whose parents, counts and ranks are as computed are exactly the legitimate ones
exactly : (m : Model) → Proper m → (s : ℕ → Output) → ((v : ℕ) → v < m.nodes → (s v).parent ≡ tree_parent m v) → ((v : ℕ) → v < m.nodes → (s v).count ≡ gathered m (counting m) s (λ u. (s u).count) v) → ((v : ℕ) → v < m.nodes → (s v).rank ≡ ruled m s v (s v).parent) → Exactly m s
exactly m proper s parent counts ranks t =
    let l = parent_legitimate m proper s parent in
    let a = whole m proper s (record { tree = l; counts = gathered_counts m proper s (height m) (λ u. (s u).count) (near_tree m proper s l) (legitimate_tall m proper s l) counts; ranks = ruled_right m s ranks }) in
    (stack_stands_lem.one m proper s t a, stack_stands_lem.same m proper s t a)

five_exactly : Exactly five five_tells
unfolding within misses distance
five_exactly =
    exactly five five_proper five_tells
    (each (λ v. (five_tells v).parent ≡ tree_parent five v) 5 (((((tt, refl), refl), refl), refl), refl))
    (each (λ v. (five_tells v).count ≡ gathered five (counting five) five_tells (λ u. (five_tells u).count) v) 5 (((((tt, refl), refl), refl), refl), refl))
    (each (λ v. (five_tells v).rank ≡ ruled five five_tells v (five_tells v).parent) 5 (((((tt, refl), refl), refl), refl), refl))

single_exactly : Exactly single (λ _. plain)
unfolding within misses distance
single_exactly =
    exactly single single_proper (λ _. plain)
    (each (λ v. None ≡ tree_parent single v) 1 (tt, refl))
    (each (λ v. 1 ≡ gathered single (counting single) (λ _. plain) (λ u. 1) v) 1 (tt, refl))
    (each (λ v. 0 ≡ ruled single (λ _. plain) v None) 1 (tt, refl))

five_distances : (v : ℕ) → v < 5 → Distance five v (five_distance v)
unfolding within misses distance
five_distances v l = subst (Distance five v) (each (λ v. distance five v ≡ five_distance v) 5 (((((tt, refl), refl), refl), refl), refl) v l) (distance_is five five_proper v l)

five_height : height five ≡ 3
unfolding within misses distance greatest height
five_height = refl

single_height : height single ≡ 0
unfolding within misses distance greatest height
single_height = refl

-- node 0 names node 1, its neighbour, which names node 2
no_earlier : (q : Rule) → place q < 3 → Asks path (register named) 0 q → ⊥
no_earlier M0 l a = a.2 (inl (omega (arith, a.1)))
no_earlier M1 l a = omega (arith, a.0)
no_earlier M2 l a = omega (arith, a.0)
no_earlier M3 l a = omega arith
no_earlier Stays l a = omega arith

-- node 2 names none, and node 1 names it
no_wrong : (q : Rule) → place q < 1 → Asks path (register named) 2 q → ⊥
no_wrong M0 l a = omega (arith, a.1)
no_wrong M1 l a = omega arith
no_wrong M2 l a = omega arith
no_wrong M3 l a = omega arith
no_wrong Stays l a = omega arith

pub table : Table
table = record {
  proper = (five_proper, single_proper, path_proper);
  distances = five_distances;
  legitimate = five_exactly;
  tree_bound = (let h = five_height in omega arith);
  count_bound = (let h = five_height in omega arith);
  rank_bound = (let h = five_height in omega arith);
  matching_bound = refl;
  single_legitimate = single_exactly;
  single_bound = (let h = single_height in omega arith);
  tree_turn = refl;
  gives_up = (((1, refl, (λ e. omega arith), (λ e. omega arith)), no_earlier), refl);
  answers = (((refl, 1, inl refl, refl), no_wrong), refl);
}
