use Rattle.std.proofs.Common.{◌≡◌, ℕ, ap, ◌∙◌}
use Rattle.site.specs.Sites.{model}
use Rattle.site.proofs.Whole.{proper}
use Rattle.protocol.specs.declared.Output.{Output}
use Rattle.registers.specs.Blocks.{front}
use Rattle.layers.specs.Below.{means, told}
use Rattle.layers.proofs.Turns.{layer_turned}
use Rattle.layers.proofs.over.OverSilent.turn.Goals as goal

pub returns-clause-turned : goal.returns-clause-turned
returns-clause-turned g c =
    let s = c.args.self.now in
    let m = model c.args.site.now in
    let ok = proper c.args.site.now in
    let a = g.L.Layer.meaning m in
    let p = means g.P.Silent s.below m in
    let after = c.turn.new.self in
    let one = c.in_ok-moved.ensures in
    let two = c.turn-joined.ensures one.turned.0 in
    let b = g.P.Silent.registers after m in
    let same : told g.P.Silent after m ≡ p.output b = ap (λ q. (g.P.Silent.meaning q m).output b) one.plan in
    layer_turned m p (g.P.Silent.registers s.below m) (front a.size s.own) (g.met.P.Silent.sized s.below m ok) (g.met.P.Silent.laws (g.P.Silent.plan s.below) m ok)
    c.args.v c.in_ok-moved.moved c.turn-joined.result b (front a.size c.turn-joined.new.own) one.turned two.1 a (two.0 ∙ ap (λ (t : ℕ → Output). a.rule t c.args.v (front a.size s.own)) same)
