use Rattle.report.proofs.Entering.{enter_more}
use Rattle.report.proofs.run.enter.Goals as goal

pub loop-fault-preserved : goal.loop-fault-preserved
loop-fault-preserved g c =
    enter_more g.P.Silent c.args.net.now c.loop-fault.net c.fault.new.self c.args.faults.now c.loop-fault.fault-index c.fault-item.result c.get.result c.get-in-loop-fault.result c.in-Ok.field-0
    c.loop-fault-test.true c.fault-item.is c.get.ensures c.get-in-loop-fault.ensures c.loop-fault.invariant c.in-Ok.ensures
