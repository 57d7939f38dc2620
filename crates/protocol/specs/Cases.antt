-- Worked examples: sites of five nodes, of one, and a path of three, with their numbers.
use Rattle.std.specs.Prelude.{◌≡◌, ℕ, ◌<◌, List, [], ◌∷◌, replicate, Some, None, slice_index, slice_index_or}
use Rattle.graph.specs.Model.{Model, Proper, Distance}
use Rattle.protocol.specs.declared.Output.{Output}
use Rattle.protocol.specs.Outputs.{plain}
use Rattle.protocol.specs.Count.{count}
use Rattle.protocol.specs.Rank.{rank}
use Rattle.protocol.specs.Tree.{tree}
use Rattle.protocol.specs.Matching.{Fits, M1, M3, register, matching}
use Rattle.protocol.specs.Stack.{stack, Agree}

abbrev pub five : Model
five = record { nodes = 5; root = 0; links = (0, 1) ∷ (0, 2) ∷ (1, 3) ∷ (2, 3) ∷ (3, 4) ∷ [] }

-- the distances of its nodes
abbrev pub five_distance : ℕ → ℕ
five_distance v = slice_index (0 ∷ 1 ∷ 1 ∷ 2 ∷ 3 ∷ []) v

-- the parents, counts and ranks that its nodes tell
abbrev pub five_tells : ℕ → Output
five_tells v = record {
  parent = slice_index_or (None ∷ Some 0 ∷ Some 0 ∷ Some 1 ∷ Some 3 ∷ []) v None;
  count = slice_index (5 ∷ 3 ∷ 1 ∷ 2 ∷ 1 ∷ []) v;
  rank = slice_index (0 ∷ 1 ∷ 4 ∷ 2 ∷ 3 ∷ []) v;
  mate = None;
}

abbrev pub single : Model
single = record { nodes = 1; root = 0; links = [] }

abbrev pub path : Model
path = record { nodes = 3; root = 0; links = (0, 1) ∷ (1, 2) ∷ [] }

-- node 0 names node 1, which names node 2, which names none
abbrev pub named : List ℕ
named = 2 ∷ 3 ∷ 0 ∷ []

-- of Rank over Count over Tree, exactly the outputs that agree with these at the nodes are legitimate
abbrev pub Exactly : Model → (ℕ → Output) → Type 0
Exactly m s = (t : ℕ → Output) → ((rank m (count m (tree m))).Legitimate t → Agree m.nodes s t) × (Agree m.nodes s t → (rank m (count m (tree m))).Legitimate t)

pub record Table : Type 0 where
  pub proper : Proper five × Proper single × Proper path
  pub distances : (v : ℕ) → v < 5 → Distance five v (five_distance v)
  pub legitimate : Exactly five five_tells
  pub tree_bound : (tree five).bound ≡ 4
  pub count_bound : (count five (tree five)).bound ≡ 8
  pub rank_bound : (rank five (count five (tree five))).bound ≡ 12
  pub matching_bound : (matching five).bound ≡ 7
  -- one node alone has no parent, count 1 and rank 0
  pub single_legitimate : Exactly single (λ _. plain)
  pub single_bound : (stack single).bound ≡ 3
  -- a turn of node 3 writes its distance 4 and, as its parent, node 1 by 2
  pub tree_turn : (tree five).turn 3 (replicate 10 65535) ≡ 65535 ∷ 65535 ∷ 65535 ∷ 4 ∷ 65535 ∷ 65535 ∷ 65535 ∷ 65535 ∷ 2 ∷ 65535 ∷ []
  -- node 0 gives up a node that names another; node 2 answers one that names it
  pub gives_up : Fits path (register named) 0 M3 × ((matching path).turn 0 named ≡ 0 ∷ 3 ∷ 0 ∷ [])
  pub answers : Fits path (register named) 2 M1 × ((matching path).turn 2 named ≡ 2 ∷ 3 ∷ 2 ∷ [])
