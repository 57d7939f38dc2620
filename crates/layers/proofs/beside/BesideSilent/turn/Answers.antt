use Rattle.site.specs.Sites.{model}
use Rattle.site.proofs.Whole.{proper}
use Rattle.layers.specs.Below.{means}
use Rattle.layers.proofs.Turns.{beside_turned}
use Rattle.layers.proofs.beside.BesideSilent.turn.Goals as goal

pub returns-clause-turned : goal.returns-clause-turned
returns-clause-turned g c =
    let s = c.args.self.now in
    let m = model c.args.site.now in
    let ok = proper c.args.site.now in
    let one = c.in_ok-moved.ensures in
    let two = c.in_ok-joined.ensures in
    beside_turned m (means g.L.Silent s.left m) (g.L.Silent.registers s.left m) (g.R.Silent.registers s.right m) (g.met.L.Silent.sized s.left m ok) (g.met.L.Silent.laws (g.L.Silent.plan s.left) m ok)
    c.args.v c.in_ok-moved.moved c.in_ok-joined.joined (g.L.Silent.registers c.turn.new.self m) (g.R.Silent.registers c.turn-2.new.self m)
    one.turned two.turned.2 (means g.R.Silent s.right m) two.turned.1
