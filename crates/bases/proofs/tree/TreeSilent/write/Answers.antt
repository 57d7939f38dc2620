use Rattle.std.proofs.Common.{◌≡◌, ◌+◌, ◌-◌, ◌<◌, arith}
use Rattle.site.specs.Sites.{model}
use Rattle.bases.proofs.Sites.{site_few}
use Rattle.bases.proofs.TreeCalls.{first_set, second_set}
use Rattle.bases.proofs.tree.TreeSilent.write.Goals as goal

pub returns-then-place-n-clause-written : goal.returns-then-place-n-clause-written
returns-then-place-n-clause-written c =
    let m = model c.args.site.now in
    let t = c.args.self.now in
    let few = site_few c.args.site.now in
    let e = c.nodes-n.ensures in
    let q = c.if-place-n.true in
    let l : c.args.place < m.nodes = omega arith in
    (omega arith, first_set m.nodes few t.distances t.parents c.put.new.self c.args.place c.args.value c.put.ensures.after l)

pub returns-then-place-n-2-clause-written : goal.returns-then-place-n-2-clause-written
returns-then-place-n-2-clause-written c =
    let m = model c.args.site.now in
    let t = c.args.self.now in
    let few = site_few c.args.site.now in
    let e = c.nodes-n.ensures in
    let j = c.args.place - c.nodes-n.result in
    let q = c.if-place-n.false in
    let r = c.if-place-n-2.true in
    let k : c.args.place ≡ m.nodes + j = omega arith in
    let put = c.put-then-place-n-2 in
    (omega arith, second_set m.nodes few t.distances t.parents put.new.self c.args.place j c.args.value put.ensures.after k)
