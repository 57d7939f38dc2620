use Rattle.std.proofs.Common.{Decides, refl}
use Rattle.std.proofs.lemmas.Result.{err_from_is_err_and}
use Rattle.std.proofs.lemmas.Bool.Decides.{not_from_Decides}
use Rattle.sheet.proofs.Checked.{all_named, turns_missed, turns_stopped}
use Rattle.sheet.proofs.Names.{Missed, told_missed}
use Rattle.sheet.proofs.check.check_turns.Goals as goal

pub returns-in_err-check_body : goal.returns-in_err-check_body
returns-in_err-check_body c =
    let p = err_from_is_err_and c.from_residual.result c.from_residual.ensures.1 in
    let ns = c.args.contents in
    rw (p.1, p.2) (turns_stopped ns c.args.turns.now c.args.line c.requires.count c.in_err-check_body.field-0.0 (c.in_err-check_body.ensures.checked ns.nodes.value c.get-n.ensures))

pub returns-then-misses : goal.returns-then-misses
returns-then-misses c =
    let ns = c.args.contents in
    let ts = c.args.turns.now in
    let missed : Decides c.misses.result (Missed ns.nodes.value ts) = told_missed c.misses.result c.get-n.result ns.nodes.value ts ts c.get-n.ensures refl c.misses.ensures in
    turns_missed ns ts c.args.line c.requires.count (c.in_ok-check_body.ensures.checked ns.nodes.value c.get-n.ensures) (missed.0 c.if-misses.true)

pub returns : goal.returns
returns c =
    let ns = c.args.contents in
    let ts = c.args.turns.now in
    let missed : Decides c.misses.result (Missed ns.nodes.value ts) = told_missed c.misses.result c.get-n.result ns.nodes.value ts ts c.get-n.ensures refl c.misses.ensures in
    (c.in_ok-check_body.ensures.checked ns.nodes.value c.get-n.ensures, all_named ns.nodes.value ts (not_from_Decides c.misses.result missed c.if-misses.false))
