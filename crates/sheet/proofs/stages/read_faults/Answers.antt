use Rattle.std.proofs.Common.{◌≡◌, arith}
use Rattle.text.specs.Lines.{fault_bytes}
use Rattle.text.specs.Spots.{spot}
use Rattle.sheet.specs.Judge.{places}
use Rattle.sheet.specs.Kinds.{fault_rules}
use Rattle.sheet.proofs.Bodies.{body_read}
use Rattle.sheet.proofs.stages.read_faults.Goals as goal

pub returns : goal.returns
returns c =
    let ns = c.args.contents in
    let n = c.get-count.ensures in
    let room = c.requires in
    let kept = c.read_body.auto.list in
    body_read fault_bytes fault_rules (places ns) c.get-count.result ns.faults.value (spot c.args.rd.now) c.read_body.new.rd c.args.faults.now c.read_body.new.list (λ _. c.read_body.new.into ≡ places ns) c.read_body.result n (omega arith)
    (c.read_body.ensures.read (omega arith) (places ns) c.registers-registers.ensures)
