use Rattle.std.proofs.Common.{[], Ok, Err, refl, ◌∙◌, arith}
use Rattle.std.proofs.lemmas.Result.{err_from_is_err_and}
use Rattle.site.proofs.Whole.{proper}
use Rattle.net.specs.Settling.{Early, Reached, Settles, none, more}
use Rattle.net.proofs.CourseLaws.{rests}
use Rattle.net.proofs.SettlingLaws.{stopped, told_stays}
use Rattle.net.proofs.net.Net.settle.Goals as goal

pub loop-self-init : goal.loop-self-init
loop-self-init g c = (([], none), refl)

pub loop-self-preserved : goal.loop-self-preserved
loop-self-preserved g c =
    let d = c.in_ok-draw.ensures in
    let b = c.loop-self.invariant in
    let early : Early g.P.Silent c.loop-self.self = let x = c.rounds.ensures.0 in let y = c.bound-bound.ensures.0 in let t = c.loop-self-test.true in let z = b.1 in omega arith in
    ((_, more {z = c.draw.new.self} {y = c.draw.new.daemon} _ b.0.1 early d.draws d.asks), told_stays g.P.Silent c.loop-self.self c.draw.new.self d.draws.0 ∙ b.1)

pub returns-in_err-draw : goal.returns-in_err-draw
returns-in_err-draw g c =
    let d = c.in_err-draw.ensures in
    let b = c.loop-self.invariant in
    let a = c.args.self.now in
    let whole = proper a.site.now in
    let early : Early g.P.Silent c.loop-self.self = let x = c.rounds.ensures.0 in let y = c.bound-bound.ensures.0 in let t = c.loop-self-test.true in let z = b.1 in omega arith in
    let p = err_from_is_err_and c.from_residual.result c.from_residual.ensures.1 in
    let h = stopped g.P.Silent g.D.Daemon a c.loop-self.self c.draw.new.self c.args.daemon.now c.loop-self.daemon c.draw.new.daemon b.0.0 c.in_err-draw.field-0.0 b.0.1 early d.draws d.asks in
    rw (p.1, p.2) (record { settles = h; rests = rests g.P.Silent g.D.Daemon g.met.D.Daemon.timely a c.args.daemon.now whole.drawn.some (g.met.P.Silent.sized _ _ whole) (g.met.P.Silent.laws _ _ whole) (Err c.in_err-draw.field-0.0) c.draw.new.self c.draw.new.daemon h })

pub returns : goal.returns
returns g c =
    let b = c.loop-self.invariant in
    let a = c.args.self.now in
    let whole = proper a.site.now in
    let reached : Reached g.P.Silent c.loop-self.self = let x = c.rounds.ensures.0 in let y = c.bound-bound.ensures.0 in let t = c.loop-self-test.false in let z = b.1 in omega arith in
    let h : Settles g.P.Silent g.D.Daemon a c.args.daemon.now (Ok tt) c.loop-self.self c.loop-self.daemon = (b.0.0, b.0.1, reached) in
    record { settles = h; rests = rests g.P.Silent g.D.Daemon g.met.D.Daemon.timely a c.args.daemon.now whole.drawn.some (g.met.P.Silent.sized _ _ whole) (g.met.P.Silent.laws _ _ whole) (Ok tt) c.loop-self.self c.loop-self.daemon h }
