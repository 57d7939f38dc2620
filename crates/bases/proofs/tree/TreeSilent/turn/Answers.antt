use Rattle.std.proofs.Common.{◌<◌, ap, ◌∙◌, arith}
use Rattle.site.specs.Sites.{model}
use Rattle.site.proofs.Whole.{proper}
use Rattle.protocol.specs.Outputs.{stored}
use Rattle.registers.specs.Blocks.{register}
use Rattle.bases.proofs.TreeCalls.{parent_low, tree_turned}
use Rattle.bases.proofs.tree.TreeSilent.turn.Goals as goal

pub value_of-requires : goal.value_of-requires
value_of-requires c =
    let s = c.args.site.now in
    let e = ap stored c.new_parent-parent.ensures in
    let l = parent_low (model s) (proper s) (register c.args.self.now.distances) c.args.v in
    omega arith

pub returns-clause-turned : goal.returns-clause-turned
returns-clause-turned c =
    let s = c.args.site.now in
    let t = c.args.self.now in
    let e = c.nodes.ensures in
    let l : c.args.v < (model s).nodes = let q = c.if-v-nodes.false in omega arith in
    let x = c.new_distance-distance in
    let y = c.value_of in
    let a = c.put-moved in
    let b = c.put-adopted in
    tree_turned (model s) (proper s) t.distances t.parents a.new.self b.new.self c.args.v x.result y.result a.result b.result l
    x.ensures (y.ensures ∙ ap stored c.new_parent-parent.ensures) a.ensures.after a.ensures.changed b.ensures.after b.ensures.changed
