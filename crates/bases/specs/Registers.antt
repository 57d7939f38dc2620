-- The registers of each protocol at a site, in the order of their places, and that they are as many as it has.
use Rattle.std.specs.Prelude.{ℕ, List, ◌++◌}
use Rattle.graph.specs.Model.{Model, Proper}
use Rattle.protocol.specs.Matching.{matching}
use Rattle.protocol.specs.Protocols.{Registers}
use Rattle.protocol.specs.Tree.{tree}
use Rattle.registers.specs.Blocks.{front}
use Rattle.protocol.proofs.LayerTurns.{registers_append}
use Rattle.registers.specs.Fronts.{front_registers}
use Rattle.bases.specs.declared.tree.Tree.{Tree}
use Rattle.bases.specs.declared.matching.Matching.{Matching}

abbrev pub tree_registers : Tree → Model → List ℕ
tree_registers s m = front m.nodes s.distances ++ front m.nodes s.parents

abbrev pub matching_registers : Matching → Model → List ℕ
matching_registers s m = front m.nodes s.names

pub tree_sized : (s : Tree) (m : Model) → Proper m → Registers (tree m).size (tree_registers s m)
tree_sized s m p =
    let n = m.nodes in
    let few = p.drawn.limit in
    registers_append n n (front n s.distances) (front n s.parents) (front_registers n s.distances few) (front_registers n s.parents few)

pub matching_sized : (s : Matching) (m : Model) → Proper m → Registers (matching m).size (matching_registers s m)
matching_sized s m p = front_registers m.nodes s.names p.drawn.limit
