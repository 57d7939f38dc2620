-- The program's stack of protocols, and the theorems about layers, about what it tells at rest, and about its numbers.
use Rattle.std.specs.Prelude.{◌≡◌, ℕ, suc, ◌+◌, ◌*◌, ◌/◌, ◌<◌, min, max, List, length, slice_index, slice_set}
use Rattle.graph.specs.Model.{Model, Proper, arcs, height}
use Rattle.rounds.specs.Forest.{sum_over}
use Rattle.rounds.specs.Preorder.{preorder}
use Rattle.rounds.specs.Rounds.{Completes}
use Rattle.rounds.specs.Runs.{run, Below, From}
use Rattle.protocol.specs.declared.Output.{Output}
use Rattle.protocol.specs.Outputs.{Tall}
use Rattle.protocol.specs.Protocols.{Protocol, Registers, Laws}
use Rattle.protocol.specs.Layers.{Layer, LayerLaws, layered, SettlesOver, Near, children}
use Rattle.protocol.specs.Gather.{Gathering, gather_rule, reading, GatherFixed, Gathered, GatheringLaws}
use Rattle.protocol.specs.Count.{CountsRight, counter, count}
use Rattle.protocol.specs.Rank.{RankTurn, ranker, rank}
use Rattle.protocol.specs.Beside.{beside}
use Rattle.protocol.specs.Tree.{BreadthFirst, tree}
use Rattle.protocol.specs.Matching.{MaximalMatching, matching}

-- the laws of layers: a is any layer, g any gathering, p and q any protocols
pub record LayersStand (a : Layer) (g : Gathering) (p q : Protocol) : Type 0 where
  -- a layer over a protocol settles within one round more than the height once all is at rest below, and is a protocol itself
  pub over : (m : Model) → Proper m → LayerLaws m a → Laws m p → SettlesOver m a p
  pub layer : (m : Model) → Proper m → LayerLaws m a → Laws m p → Laws m (layered m a p)
  -- a gathering settles within one round more than the height, and then every reading is gathered from the others
  pub gathers : (m : Model) (t : ℕ → Output) (h : ℕ) → Proper m → GatheringLaws m g → Near m t → Tall m.nodes t h → From (gather_rule m g t) m.nodes (Registers g.size) (suc h) (GatherFixed m g t)
  pub gathered : (m : Model) (t : ℕ → Output) (xs : List ℕ) → Proper m → GatheringLaws m g → Registers g.size xs → GatherFixed m g t xs → Gathered m g t (reading m g xs)
  -- Count and Rank keep the laws of layers, and over a protocol they are protocols
  pub counter_laws : (m : Model) → Proper m → LayerLaws m (counter m)
  pub count_laws : (m : Model) → Proper m → Laws m p → Laws m (count m p)
  pub ranker_laws : (m : Model) → Proper m → LayerLaws m (ranker m)
  pub rank_laws : (m : Model) → Proper m → Laws m p → Laws m (rank m p)
  -- what their rules write, in plain words; for Rank that is all there is to say of a turn
  pub count_rule : (m : Model) (t : ℕ → Output) (v : ℕ) (xs : List ℕ) → (counter m).rule t v xs ≡ slice_set xs v (min m.nodes (1 + sum_over (λ c. slice_index xs c) (children m t v)))
  pub rank_rule : (m : Model) (t : ℕ → Output) (v : ℕ) (xs : List ℕ) → Proper m → v < m.nodes → Registers (m.nodes + arcs m) xs → RankTurn m t v xs ((ranker m).rule t v xs)
  pub rank_only : (m : Model) (t : ℕ → Output) (v : ℕ) (xs ys : List ℕ) → Proper m → v < m.nodes → Registers (m.nodes + arcs m) xs → RankTurn m t v xs ys → ys ≡ (ranker m).rule t v xs
  -- two protocols side by side are one
  pub beside_laws : (m : Model) → Proper m → Laws m p → Laws m q → Laws m (beside p q)

-- Tree, Count over it, Rank over both
abbrev pub tour : Model → Protocol
tour m = rank m (count m (tree m))

-- the stack: that, and the matching beside it
abbrev pub stack : Model → Protocol
stack m = beside (rank m (count m (tree m))) (matching m)

-- outputs tell a breadth-first tree, and the sizes of its subtrees
pub record Counts (m : Model) (t : ℕ → Output) : Type 0 where
  pub tree : BreadthFirst m t
  pub sizes : CountsRight m t

-- ranks number the nodes depth first from 0, a node before its children, and these in port order
pub record Tours (m : Model) (t : ℕ → Output) : Type 0 where
  -- a rank is a place in the preorder listing of the tree
  pub place : (v : ℕ) → v < m.nodes → ((t v).rank < m.nodes) × (slice_index (preorder m.nodes (children m t) m.root) (t v).rank ≡ v)
  -- each of 0 to n - 1 is the rank of one node
  pub each : (k : ℕ) → k < m.nodes → (v : ℕ) × (v < m.nodes) × ((t v).rank ≡ k) × ((u : ℕ) → u < m.nodes → (t u).rank ≡ k → u ≡ v)

-- outputs tell a breadth-first tree with the sizes of its subtrees, its depth-first numbering, and a maximal matching
pub record Tells (m : Model) (t : ℕ → Output) : Type 0 where
  pub counts : Counts m t
  pub tours : Tours m t
  pub mates : MaximalMatching m t

-- the nodes tell the same parents, counts and ranks
abbrev pub Agree : ℕ → (ℕ → Output) → (ℕ → Output) → Type 0
Agree n s t = (v : ℕ) → v < n → ((s v).parent ≡ (t v).parent) × ((s v).count ≡ (t v).count) × ((s v).rank ≡ (t v).rank)

-- the theorems about the stack, at every site
pub record StackStands : Type 0 where
  pub laws : (m : Model) → Proper m → Laws m (stack m)
  pub size : (m : Model) → Proper m → (stack m).size ≡ 5 * m.nodes + 2 * length m.links
  pub bound : (m : Model) → (stack m).bound ≡ max (3 * (height m + 1)) (3 * (m.nodes / 2) + 1)
  pub height : (m : Model) → (stack m).height ≡ height m
  -- what legitimate outputs tell
  pub counts : (m : Model) → Proper m → (t : ℕ → Output) → (count m (tree m)).Legitimate t → Counts m t
  pub tours : (m : Model) → Proper m → (t : ℕ → Output) → (tour m).Legitimate t → Counts m t × Tours m t
  pub parts : (m : Model) → Proper m → (t : ℕ → Output) → ((stack m).Legitimate t → (tour m).Legitimate t × MaximalMatching m t) × ((tour m).Legitimate t × MaximalMatching m t → (stack m).Legitimate t)
  -- from any registers, any turns that complete as many rounds as the bound end where all of that is told
  pub settles : (m : Model) → Proper m → (xs ts : List ℕ) → Registers (stack m).size xs → Below m.nodes ts → Completes m.nodes (stack m).bound ts → Tells m ((stack m).output (run (stack m).turn ts xs))
  -- legitimate parents, counts and ranks are one and the same, and whatever tells these is legitimate
  pub one : (m : Model) → Proper m → (s t : ℕ → Output) → (tour m).Legitimate s → (tour m).Legitimate t → Agree m.nodes s t
  pub same : (m : Model) → Proper m → (s t : ℕ → Output) → (tour m).Legitimate s → Agree m.nodes s t → (tour m).Legitimate t
