-- Tree: every node keeps its distance from the root and its parent in a breadth-first tree.
-- The registers of n nodes are n distances, then n parents as Outputs stores them.
use Rattle.std.specs.Prelude.{◌≡◌, ℕ, zero, suc, ◌+◌, ◌-◌, ◌<◌, ◌≤◌, min, Bool, cond, List, Some, None, Option, ◌==◌, ◌≢◌, nat_eq, slice_index, slice_set}
use Rattle.lists.specs.Members.{Among}
use Rattle.graph.specs.Model.{Model, Proper, Walk, ports, distance, height}
use Rattle.protocol.specs.declared.Output.{Output}
use Rattle.protocol.specs.Outputs.{plain, with_parent, stored, Chain}
use Rattle.protocol.specs.Protocols.{Protocol, Laws}
use Rattle.protocol.specs.First.{least, first, IsFirst, held}

-- what v takes as its distance where those of the nodes are f: the root 0, and another one more than the least of its neighbours', but never n or more
abbrev pub new_distance : Model → (ℕ → ℕ) → ℕ → ℕ
new_distance m f v = cond (v == m.root) 0 (min (least f (ports m v) + 1) (m.nodes - 1))

-- and as its parent: the root none, and another the first of its neighbours that has that least
abbrev pub new_parent : Model → (ℕ → ℕ) → ℕ → Option ℕ
new_parent m f v = cond (v == m.root) None (first (λ u. nat_eq (f u) (least f (ports m v))) (ports m v))

-- a turn writes both, from the registers before it
abbrev pub tree_turn : Model → ℕ → List ℕ → List ℕ
tree_turn m v xs = slice_set (slice_set xs v (new_distance m (λ u. slice_index xs u) v)) (m.nodes + v) (stored (new_parent m (λ u. slice_index xs u) v))

-- a node tells its parent, if that is a neighbour
abbrev pub tree_output : Model → List ℕ → ℕ → Output
tree_output m xs v = with_parent plain (held (ports m v) (slice_index xs (m.nodes + v)))

-- whether u is one link nearer to the root than v
abbrev pub nearer : Model → ℕ → ℕ → Bool
nearer m v u = distance m u + 1 == distance m v

-- the root tells no parent, and every other node the first of its neighbours that is nearer
pub record Legitimate (m : Model) (t : ℕ → Output) : Type 0 where
  pub root : (t m.root).parent ≡ None
  pub other : (v : ℕ) → v < m.nodes → (v ≢ m.root) → (u : ℕ) × ((t v).parent ≡ Some u) × IsFirst (nearer m v) (ports m v) u

-- that parent, as a function
abbrev pub tree_parent : Model → ℕ → Option ℕ
tree_parent m v = cond (v == m.root) None (first (nearer m v) (ports m v))

-- every node has its distance and that parent
abbrev pub tree_rest : Model → List ℕ → Type 0
tree_rest m xs = (v : ℕ) → v < m.nodes → (slice_index xs v ≡ distance m v) × (slice_index xs (m.nodes + v) ≡ stored (tree_parent m v))

abbrev pub tree : Model → Protocol
tree m = record {
  size = m.nodes + m.nodes;
  turn = tree_turn m;
  output = tree_output m;
  Legitimate = Legitimate m;
  Rest = tree_rest m;
  bound = height m + 1;
  height = height m;
}

-- k told parents, one after the other, lead from v to r
abbrev pub Leads : (ℕ → Output) → ℕ → ℕ → ℕ → Type 0
Leads t zero v r = v ≡ r
Leads t (suc k) v r = (u : ℕ) × ((t v).parent ≡ Some u) × Leads t k u r

-- the told parents are a breadth-first tree of the site
pub record BreadthFirst (m : Model) (t : ℕ → Output) : Type 0 where
  -- the root has no parent, and no other node has none
  pub root : (t m.root).parent ≡ None
  pub only : (v : ℕ) → v < m.nodes → (t v).parent ≡ None → v ≡ m.root
  -- a parent is a neighbour, one link nearer to the root
  pub nearer : (v u : ℕ) → v < m.nodes → (t v).parent ≡ Some u → Among u (ports m v) × (distance m v ≡ distance m u + 1)
  -- the chain of parents from a node has as many links as its distance, and ends at the root
  pub chain : (v : ℕ) → v < m.nodes → Chain t (distance m v) v × Leads t (distance m v) v m.root
  -- it is a walk, and no walk to the root has fewer links
  pub walk : (v k : ℕ) → v < m.nodes → Leads t k v m.root → Walk m k v
  pub shortest : (v k : ℕ) → v < m.nodes → Walk m k v → distance m v ≤ k

-- some outputs are legitimate
abbrev pub LegitimateExists : Model → Type 0
LegitimateExists m = (t : ℕ → Output) × Legitimate m t

-- all such outputs tell a breadth-first tree
abbrev pub TellsTree : Model → Type 0
TellsTree m = (t : ℕ → Output) → Legitimate m t → BreadthFirst m t

-- and the same one
abbrev pub TellsOne : Model → Type 0
TellsOne m = (t o : ℕ → Output) → Legitimate m t → Legitimate m o → (v : ℕ) → v < m.nodes → (t v).parent ≡ (o v).parent

-- the theorems about Tree, at every site
abbrev pub TreeLaws : Type 0
TreeLaws = (m : Model) → Proper m → Laws m (tree m) × LegitimateExists m × TellsTree m × TellsOne m
