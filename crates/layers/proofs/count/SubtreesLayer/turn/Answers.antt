use Rattle.site.specs.Sites.{model}
use Rattle.site.proofs.Whole.{proper}
use Rattle.layers.specs.Below.{told}
use Rattle.layers.proofs.Counts.{count_ruled}
use Rattle.layers.proofs.count.SubtreesLayer.turn.Goals as goal

pub returns : goal.returns
returns g c = λ l.
    let m = model c.args.site.now in
    let x = c.new_count-count in
    let put = c.put in
    count_ruled m (proper c.args.site.now) (told g.P.Silent c.args.below.now m) c.args.v x.result put.result c.args.own.now put.new.self x.ensures put.ensures.after put.ensures.changed l
