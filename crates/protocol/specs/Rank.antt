-- The layer Rank: every node takes its number from its parent, and numbers its children.
use Rattle.std.specs.Prelude.{◌≡◌, ℕ, suc, ◌+◌, ◌<◌, ◌≤◌, min, cond, ◌⊎◌, List, [], ◌∷◌, length, take, Some, None, Option, ◌==◌, ◌≢◌, slice_index, slice_index_or, slice_set}
use Rattle.graph.specs.Model.{Model, ports, arcs_before, arcs}
use Rattle.rounds.specs.Forest.{sum_over}
use Rattle.protocol.specs.declared.Output.{Output}
use Rattle.protocol.specs.Outputs.{stored, with_rank}
use Rattle.protocol.specs.Protocols.{Protocol}
use Rattle.protocol.specs.Layers.{Layer, layered, children_among}

-- the port that leads to v
abbrev pub port_to : ℕ → List ℕ → ℕ
port_to v [] = 0
port_to v (x ∷ xs) = cond (x == v) 0 (suc (port_to v xs))

-- the ports before the one that leads to v
abbrev pub earlier : ℕ → List ℕ → List ℕ
earlier v xs = take (port_to v xs) xs

-- the slot that w keeps for its neighbour v: after the ranks there is one for each arc
abbrev pub slot : Model → ℕ → ℕ → ℕ
slot m w v = m.nodes + arcs_before m w + port_to v (ports m w)

-- v's rank: 0 without a parent, else what the parent's slot says, at most the number of nodes
abbrev pub rank_from : Model → Option ℕ → ℕ → List ℕ → ℕ
rank_from m None v xs = 0
rank_from m (Some w) v xs = min m.nodes (slice_index xs (slot m w v))

-- what v puts into the slots of its ports, r for the first child: a later one's number is more by the counts of those before it;
-- 0 at a port that leads to no child
abbrev pub slots : ℕ → (ℕ → Output) → ℕ → ℕ → List ℕ → List ℕ
slots n t v r [] = []
slots n t v r (c ∷ cs) = cond (stored (t c).parent == suc v) (min n r ∷ slots n t v (r + (t c).count) cs) (0 ∷ slots n t v r cs)

-- writes a list from the place i on
abbrev pub put : List ℕ → ℕ → List ℕ → List ℕ
put xs i [] = xs
put xs i (y ∷ ys) = put (slice_set xs i y) (suc i) ys

-- v writes its rank, and then its slots by that rank
abbrev pub rank_rule : Model → (ℕ → Output) → ℕ → List ℕ → List ℕ
rank_rule m t v xs = put (slice_set xs v (rank_from m (t v).parent v xs)) (m.nodes + arcs_before m v) (slots m.nodes t v (rank_from m (t v).parent v xs + 1) (ports m v))

-- the number that v, of rank r, gives the neighbour at port j: to a child the one after v itself and the subtrees of the children
-- at earlier ports, at most the number of nodes; to any other 0
abbrev pub number_given : Model → (ℕ → Output) → ℕ → ℕ → ℕ → ℕ
number_given m t v r j = cond (stored (t (slice_index (ports m v) j)).parent == suc v) (min m.nodes (r + 1 + sum_over (λ c. (t c).count) (children_among t v (take j (ports m v))))) 0

-- what a turn of v makes of the registers xs, as its rank and its slots tell
pub record RankTurn (m : Model) (t : ℕ → Output) (v : ℕ) (xs ys : List ℕ) : Type 0 where
  pub same_length : length ys ≡ length xs
  pub rank : slice_index_or ys v 0 ≡ rank_from m (t v).parent v xs
  pub slots : (j : ℕ) → j < length (ports m v) → slice_index ys (m.nodes + arcs_before m v + j) ≡ number_given m t v (slice_index ys v) j
  pub others : (i : ℕ) → (i ≢ v) → (i < m.nodes + arcs_before m v) ⊎ (m.nodes + arcs_before m v + length (ports m v) ≤ i) → slice_index ys i ≡ slice_index xs i

-- the counts of w's children at ports before the one that leads to v
abbrev pub counts_before : Model → (ℕ → Output) → ℕ → ℕ → ℕ
counts_before m t w v = sum_over (λ c. (t c).count) (children_among t w (earlier v (ports m w)))

-- every rank meets the rule
pub record RanksRight (m : Model) (t : ℕ → Output) : Type 0 where
  pub top : (v : ℕ) → v < m.nodes → (t v).parent ≡ None → (t v).rank ≡ 0
  pub next : (v w : ℕ) → v < m.nodes → (t v).parent ≡ Some w → (t v).rank ≡ min m.nodes ((t w).rank + 1 + counts_before m t w v)

abbrev pub ranker : Model → Layer
ranker m = record {
  size = m.nodes + arcs m;
  rule = rank_rule m;
  Value = ℕ;
  value = λ xs v. slice_index xs v;
  tell = with_rank;
  Meets = RanksRight m;
}

abbrev pub rank : Model → Protocol → Protocol
rank m p = layered m (ranker m) p
