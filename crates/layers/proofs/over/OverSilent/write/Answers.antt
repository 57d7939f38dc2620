use Rattle.std.proofs.Common.{refl}
use Rattle.site.specs.Sites.{model}
use Rattle.site.proofs.Whole.{proper}
use Rattle.protocol.specs.Layers.{layered}
use Rattle.registers.specs.Blocks.{front}
use Rattle.registers.specs.Fronts.{front_set}
use Rattle.layers.specs.Below.{means}
use Rattle.layers.proofs.Places.{low_written, high_set}
use Rattle.layers.proofs.over.OverSilent.write.Goals as goal

pub returns-in-None-clause-written : goal.returns-in-None-clause-written
returns-in-None-clause-written g c =
    let s = c.args.self.now in
    let m = model c.args.site.now in
    let a = g.L.Layer.meaning m in
    let p = means g.P.Silent s.below m in
    let sized = (g.met.P.Silent.sized s.below m (proper c.args.site.now)).0 in
    low_written p (layered m a p) a.size refl (g.P.Silent.registers s.below m) (front a.size s.own) sized c.size-2.result c.size-2.ensures
    c.args.place c.in-None.ensures c.args.value c.write.result (g.P.Silent.registers c.write.new.self m) c.write.ensures.written

pub returns-in-Some-clause-written : goal.returns-in-Some-clause-written
returns-in-Some-clause-written g c =
    let s = c.args.self.now in
    let m = model c.args.site.now in
    let a = g.L.Layer.meaning m in
    let n = a.size in
    let p = means g.P.Silent s.below m in
    let w = layered m a p in
    let b = g.P.Silent.registers s.below m in
    let o = front n s.own in
    let sized = (g.met.P.Silent.sized s.below m (proper c.args.site.now)).0 in
    let j = c.in-Some.i in
    let x = c.args.value in
    let past = c.in-Some.ensures in
    high_set p w n refl b o sized c.size-2.result c.size-2.ensures c.args.place j c.size.result c.size.ensures c.if-place-size.false past
    x (front n c.put.new.self) (front_set n s.own c.put.new.self j x c.put.ensures.after)
