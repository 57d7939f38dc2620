use Rattle.std.proofs.Common.{arith}
use Rattle.site.specs.Sites.{model}
use Rattle.registers.specs.Fronts.{front_set}
use Rattle.bases.proofs.Sites.{site_few}
use Rattle.bases.proofs.matching.MatchingSilent.write.Goals as goal

pub returns-clause-written : goal.returns-clause-written
returns-clause-written c =
    let m = model c.args.site.now in
    let few = site_few c.args.site.now in
    let e = c.nodes.ensures in
    let q = c.if-place-nodes.false in
    (omega arith, front_set m.nodes c.args.self.now.names c.put.new.self c.args.place c.args.value c.put.ensures.after)
