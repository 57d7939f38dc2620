use Rattle.std.proofs.Common.{◌<◌, ◌∙◌, arith}
use Rattle.site.specs.Sites.{model}
use Rattle.site.proofs.Whole.{proper}
use Rattle.protocol.proofs.MatchingRules.{new_low}
use Rattle.registers.specs.Blocks.{register}
use Rattle.bases.proofs.MatchingCalls.{matching_turned}
use Rattle.bases.proofs.matching.MatchingSilent.turn.Goals as goal

pub value_of-requires : goal.value_of-requires
value_of-requires c =
    let s = c.args.site.now in
    let e = c.renewed-name.ensures in
    let l = new_low (model s) (register c.args.self.now.names) c.args.v (proper s).drawn in
    omega arith

pub returns-clause-turned : goal.returns-clause-turned
returns-clause-turned c =
    let s = c.args.site.now in
    let e = c.nodes.ensures in
    let l : c.args.v < (model s).nodes = let q = c.if-v-nodes.false in omega arith in
    let x = c.value_of in
    let a = c.put in
    matching_turned (model s) (proper s) c.args.self.now.names a.new.self c.args.v x.result a.result l (x.ensures ∙ c.renewed-name.ensures) a.ensures.after a.ensures.changed
