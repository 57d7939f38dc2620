-- The program's stack as a value: its registers at a site, in the order of their places.
use Rattle.std.specs.Prelude.{◌≡◌, ℕ, ◌+◌, List, ◌++◌, replicate}
use Rattle.graph.specs.Model.{Model, Proper, arcs}
use Rattle.protocol.specs.Stack.{stack}
use Rattle.bases.specs.Registers.{matching_registers, tree_registers}
use Rattle.bases.specs.declared.matching.Matching.{Matching}
use Rattle.bases.specs.declared.tree.Tree.{Tree}
use Rattle.layers.specs.declared.beside.Beside.{Beside}
use Rattle.layers.specs.declared.count.Subtrees.{Subtrees}
use Rattle.layers.specs.declared.over.Over.{Over}
use Rattle.layers.specs.declared.rank.Preorder.{Preorder}
use Rattle.registers.specs.Blocks.{front}

abbrev pub Stack : Type 0
Stack = Beside (Over (Over Tree Subtrees) Preorder) Matching

-- distances and parents, then counts, then ranks and slots, then the nodes that are named for mates
abbrev pub stack_registers : Stack → Model → List ℕ
stack_registers s m = ((tree_registers s.left.below.below m ++ front m.nodes s.left.below.own) ++ front (m.nodes + arcs m) s.left.own) ++ matching_registers s.right m

-- all of them are 0, at every site
abbrev pub Blank : Stack → Type 0
Blank s = (m : Model) → Proper m → stack_registers s m ≡ replicate (stack m).size 0
