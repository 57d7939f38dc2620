use Rattle.std.proofs.Common.{refl}
use Rattle.site.specs.Sites.{model}
use Rattle.site.proofs.Whole.{proper}
use Rattle.protocol.specs.Beside.{beside}
use Rattle.layers.specs.Below.{means}
use Rattle.layers.proofs.Places.{low_read, high_read}
use Rattle.layers.proofs.beside.BesideSilent.read.Goals as goal

pub returns-in-None : goal.returns-in-None
returns-in-None g c =
    let s = c.args.self.now in
    let m = model c.args.site.now in
    let p = means g.L.Silent s.left m in
    let q = means g.R.Silent s.right m in
    let sized = (g.met.L.Silent.sized s.left m (proper c.args.site.now)).0 in
    low_read p (beside p q) q.size refl (g.L.Silent.registers s.left m) (g.R.Silent.registers s.right m) sized c.size-2.result c.size-2.ensures c.args.place c.in-None.ensures c.read.result c.read.ensures

pub returns-in-Some : goal.returns-in-Some
returns-in-Some g c =
    let s = c.args.self.now in
    let m = model c.args.site.now in
    let p = means g.L.Silent s.left m in
    let q = means g.R.Silent s.right m in
    let sized = (g.met.L.Silent.sized s.left m (proper c.args.site.now)).0 in
    high_read p (beside p q) q.size refl (g.L.Silent.registers s.left m) (g.R.Silent.registers s.right m) sized c.size-2.result c.size-2.ensures
    c.args.place c.in-Some.i c.size.result c.size.ensures c.if-place-size.false c.in-Some.ensures q refl c.read-in-Some.result c.read-in-Some.ensures
