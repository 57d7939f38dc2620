use Rattle.std.proofs.Common.{◌<◌, sym, ap, ◌∙◌, ap₂, arith}
use Rattle.site.specs.Sites.{model}
use Rattle.protocol.specs.First.{held}
use Rattle.protocol.specs.Outputs.{plain, with_parent}
use Rattle.bases.proofs.Sites.{site_few}
use Rattle.bases.proofs.TreeCalls.{second_read}
use Rattle.bases.proofs.tree.TreeSilent.output.Goals as goal

pub returns : goal.returns
returns c =
    let m = model c.args.site.now in
    let t = c.args.self.now in
    let v = c.args.v in
    let e = c.nodes.ensures in
    let q = c.if-v-nodes.false in
    let l : v < m.nodes = omega arith in
    (l, ap (with_parent plain) (c.held_node.ensures ∙ ap₂ held c.ports.ensures (c.at.ensures ∙ sym (second_read m.nodes (site_few c.args.site.now) t.distances t.parents v l))))
