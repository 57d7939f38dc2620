-- The room that a site takes in a block.
use Rattle.std.specs.Prelude.{◌+◌, ◌≤◌}
use Rattle.std.proofs.Common.{arith}
use Rattle.graph.specs.Model.{Model, Proper, arcs}
use Rattle.graph.proofs.Drawn.{arcs_are, links_few}

module _ (m : Model) (ok : Proper m) where
  -- every node and every arc has its register
  pub room : m.nodes + arcs m ≤ 2304
  room =
      let a = arcs_are m ok.drawn in
      let b = links_few m ok.drawn in
      let c = ok.drawn.limit in
      omega arith

  pub nodes_room : m.nodes ≤ 2304
  nodes_room = let a = room in omega arith
