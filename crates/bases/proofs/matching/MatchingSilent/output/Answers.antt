use Rattle.std.proofs.Common.{◌<◌, get_or, sym, ap, ◌∙◌, arith}
use Rattle.site.specs.Sites.{model}
use Rattle.site.proofs.Whole.{proper}
use Rattle.protocol.specs.Outputs.{plain, with_mate}
use Rattle.registers.specs.Blocks.{front, register}
use Rattle.registers.specs.Fronts.{front_read}
use Rattle.bases.proofs.MatchingCalls.{mate_same}
use Rattle.bases.proofs.matching.MatchingSilent.output.Goals as goal

pub returns : goal.returns
returns c =
    let m = model c.args.site.now in
    let b = c.args.self.now.names in
    let e = c.nodes.ensures in
    let l : c.args.v < m.nodes = let q = c.if-v-nodes.false in omega arith in
    (l, ap (with_mate plain) (c.mate.ensures ∙ sym (mate_same m (proper c.args.site.now) (λ u. get_or (front m.nodes b) u 0) (register b) (front_read m.nodes b) c.args.v l)))
