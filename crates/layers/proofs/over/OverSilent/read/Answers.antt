use Rattle.std.proofs.Common.{sym, refl, ◌∙◌}
use Rattle.site.specs.Sites.{model}
use Rattle.site.proofs.Whole.{proper}
use Rattle.protocol.specs.Layers.{layered}
use Rattle.registers.specs.Blocks.{front}
use Rattle.registers.specs.Fronts.{front_read}
use Rattle.layers.specs.Below.{means}
use Rattle.layers.proofs.Places.{low_read, high_low, high_get}
use Rattle.layers.proofs.over.OverSilent.read.Goals as goal

pub returns-in-None : goal.returns-in-None
returns-in-None g c =
    let s = c.args.self.now in
    let m = model c.args.site.now in
    let a = g.L.Layer.meaning m in
    let p = means g.P.Silent s.below m in
    let sized = (g.met.P.Silent.sized s.below m (proper c.args.site.now)).0 in
    low_read p (layered m a p) a.size refl (g.P.Silent.registers s.below m) (front a.size s.own) sized c.size-2.result c.size-2.ensures c.args.place c.in-None.ensures c.read.result c.read.ensures

pub returns-in-Some : goal.returns-in-Some
returns-in-Some g c =
    let s = c.args.self.now in
    let m = model c.args.site.now in
    let a = g.L.Layer.meaning m in
    let n = a.size in
    let p = means g.P.Silent s.below m in
    let w = layered m a p in
    let b = g.P.Silent.registers s.below m in
    let o = front n s.own in
    let sized = (g.met.P.Silent.sized s.below m (proper c.args.site.now)).0 in
    let j = c.in-Some.i in
    let past = c.in-Some.ensures in
    let low = high_low p w n refl b o sized c.size-2.result c.size-2.ensures c.args.place j c.size.result c.size.ensures c.if-place-size.false past in
    high_get p w n refl b o sized c.size-2.result c.size-2.ensures c.args.place j c.size.result c.size.ensures c.if-place-size.false past c.at.result (c.at.ensures ∙ sym (front_read n s.own j low))
