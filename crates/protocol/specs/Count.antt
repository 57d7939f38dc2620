-- The layer Count: every node counts the nodes of its subtree of told parents.
use Rattle.std.specs.Prelude.{ℕ, ◌+◌, min}
use Rattle.graph.specs.Model.{Model}
use Rattle.rounds.specs.Forest.{Sized}
use Rattle.protocol.specs.declared.Output.{Output}
use Rattle.protocol.specs.Outputs.{stored, with_count}
use Rattle.protocol.specs.Protocols.{Protocol}
use Rattle.protocol.specs.Layers.{Layer, layered}
use Rattle.protocol.specs.Gather.{Gathering, gatherer}

-- 1 for the node itself, added to its children's counts, and at most the number of nodes; one register for each node
abbrev pub counting : Model → Gathering
counting m = record {
  Reading = ℕ;
  size = m.nodes;
  width = 1;
  load = λ f. f 0;
  store = λ x i. x;
  own = λ t v. 1;
  join = λ x y. x + y;
  cut = λ x. min m.nodes x;
}

-- every count is the number of nodes in the subtree of told parents
abbrev pub CountsRight : Model → (ℕ → Output) → Type 0
CountsRight m t = Sized m.nodes (λ v. stored (t v).parent) (λ v. (t v).count)

abbrev pub counter : Model → Layer
counter m = gatherer m (counting m) with_count (CountsRight m)

abbrev pub count : Model → Protocol → Protocol
count m p = layered m (counter m) p
