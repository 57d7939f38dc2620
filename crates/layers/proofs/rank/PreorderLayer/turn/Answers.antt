use Rattle.site.specs.Sites.{model}
use Rattle.layers.specs.Below.{told}
use Rattle.layers.proofs.RankTurns.{rank_ruled}
use Rattle.layers.proofs.rank.PreorderLayer.turn.Goals as goal

pub returns : goal.returns
returns g c = λ l.
    let m = model c.args.site.now in
    let r = c.new_rank-rank in
    let put = c.put-ranked in
    let fill = c.fill-filled in
    rank_ruled m (told g.P.Silent c.args.below.now m) c.args.v r.result c.args.own.now put.new.self fill.new.own put.result fill.result (r.ensures l) put.ensures.after put.ensures.changed fill.ensures.after fill.ensures.changed l
