use Rattle.std.proofs.Common.{refl}
use Rattle.site.specs.Sites.{model}
use Rattle.site.proofs.Whole.{proper}
use Rattle.protocol.specs.Beside.{beside}
use Rattle.layers.specs.Below.{means}
use Rattle.layers.proofs.Places.{low_written, high_written}
use Rattle.layers.proofs.beside.BesideSilent.write.Goals as goal

pub returns-in-None-clause-written : goal.returns-in-None-clause-written
returns-in-None-clause-written g c =
    let s = c.args.self.now in
    let m = model c.args.site.now in
    let p = means g.L.Silent s.left m in
    let q = means g.R.Silent s.right m in
    let sized = (g.met.L.Silent.sized s.left m (proper c.args.site.now)).0 in
    low_written p (beside p q) q.size refl (g.L.Silent.registers s.left m) (g.R.Silent.registers s.right m) sized c.size-2.result c.size-2.ensures
    c.args.place c.in-None.ensures c.args.value c.write.result (g.L.Silent.registers c.write.new.self m) c.write.ensures.written

pub returns-in-Some-clause-written : goal.returns-in-Some-clause-written
returns-in-Some-clause-written g c =
    let s = c.args.self.now in
    let m = model c.args.site.now in
    let p = means g.L.Silent s.left m in
    let q = means g.R.Silent s.right m in
    let sized = (g.met.L.Silent.sized s.left m (proper c.args.site.now)).0 in
    high_written p (beside p q) q.size refl (g.L.Silent.registers s.left m) (g.R.Silent.registers s.right m) sized c.size-2.result c.size-2.ensures
    c.args.place c.in-Some.i c.size.result c.size.ensures c.if-place-size.false c.in-Some.ensures q refl c.args.value c.write-in-Some.result (g.R.Silent.registers c.write-in-Some.new.self m) c.write-in-Some.ensures.written
