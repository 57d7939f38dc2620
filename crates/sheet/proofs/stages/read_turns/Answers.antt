use Rattle.std.proofs.Common.{◌≡◌, ℕ, take, Decides, sym, ap, subst, arith}
use Rattle.std.proofs.lemmas.Result.{err_from_is_err_and}
use Rattle.std.proofs.lemmas.Bool.Decides.{not_from_Decides}
use Rattle.refusal.specs.declared.Refusal.TheVariants.{Missing}
use Rattle.text.specs.Lines.{turn_bytes}
use Rattle.text.specs.Spots.{spot}
use Rattle.sheet.specs.declared.fault.SheetFault.TheVariants.{Refused}
use Rattle.sheet.specs.Body.{refused}
use Rattle.sheet.specs.Judge.{turn_lines}
use Rattle.sheet.specs.Kinds.{turn_rules}
use Rattle.sheet.proofs.Bodies.{body_passed, body_stopped}
use Rattle.sheet.proofs.Names.{Missed, told_missed}
use Rattle.sheet.proofs.Stops.{turns_missing, turns_pass, turns_stop}
use Rattle.sheet.proofs.stages.read_turns.Goals as goal

pub returns-in_err-read_body : goal.returns-in_err-read_body
returns-in_err-read_body c =
    let p = err_from_is_err_and c.from_residual.result c.from_residual.ensures.1 in
    let ns = c.args.contents in
    let n = c.get-count.ensures in
    let kept = c.read_body.auto.list in
    let few = c.requires in
    let e = c.in_err-read_body.field-0.0 in
    let h = c.in_err-read_body.ensures.read (omega arith) ns.nodes.value c.get-n.ensures in
    rw (p.1, p.2) (turns_stop ns (spot c.args.rd.now) e
    (body_stopped turn_bytes turn_rules ns.nodes.value c.get-count.result ns.turns.value (spot c.args.rd.now) (spot c.read_body.new.rd) _ c.read_body.new.list (λ _. c.read_body.new.into ≡ ns.nodes.value) e n (omega arith) h))

pub returns-then-misses : goal.returns-then-misses
returns-then-misses c =
    let ns = c.args.contents in
    let n = c.get-count.ensures in
    let few = c.requires in
    let list = c.read_body.new.list in
    let p = spot c.args.rd.now in
    let q = spot c.read_body.new.rd in
    let body = body_passed turn_bytes turn_rules ns.nodes.value c.get-count.result ns.turns.value p q _ list (λ _. c.read_body.new.into ≡ ns.nodes.value) n (c.in_ok-read_body.ensures.read (omega arith) ns.nodes.value c.get-n.ensures) in
    let missed : Decides c.misses.result (Missed ns.nodes.value (take ns.turns.value list)) =
    told_missed c.misses.result c.get-n.result ns.nodes.value (take c.get-count.result list) (take ns.turns.value list) c.get-n.ensures (ap (λ (k : ℕ). take k list) n) c.misses.ensures in
    subst (λ (l : ℕ). turn_lines ns p (refused (Refused Missing l))) (sym c.lines.ensures) (turns_missing ns p (take ns.turns.value list) q body (missed.0 c.if-misses.true))

pub returns : goal.returns
returns c =
    let ns = c.args.contents in
    let n = c.get-count.ensures in
    let few = c.requires in
    let list = c.read_body.new.list in
    let p = spot c.args.rd.now in
    let q = spot c.read_body.new.rd in
    let body = body_passed turn_bytes turn_rules ns.nodes.value c.get-count.result ns.turns.value p q _ list (λ _. c.read_body.new.into ≡ ns.nodes.value) n (c.in_ok-read_body.ensures.read (omega arith) ns.nodes.value c.get-n.ensures) in
    let missed : Decides c.misses.result (Missed ns.nodes.value (take ns.turns.value list)) =
    told_missed c.misses.result c.get-n.result ns.nodes.value (take c.get-count.result list) (take ns.turns.value list) c.get-n.ensures (ap (λ (k : ℕ). take k list) n) c.misses.ensures in
    turns_pass ns p (take ns.turns.value list) q body (not_from_Decides c.misses.result missed c.if-misses.false)
