use Rattle.std.proofs.lemmas.Result.{err_from_is_err_and}
use Rattle.sheet.specs.Judge.{places}
use Rattle.sheet.specs.Sheets.{drafted}
use Rattle.sheet.proofs.Checked.{lines_at_faults, lines_at_links, lines_checked}
use Rattle.sheet.proofs.draft.Draft.check_lines.Goals as goal

pub returns-in_err-check_links : goal.returns-in_err-check_links
returns-in_err-check_links c =
    let p = err_from_is_err_and c.from_residual.result c.from_residual.ensures.1 in
    let l = (drafted c.args.self).lists in
    rw (p.1, p.2) (lines_at_links c.args.self.contents l c.requires.links c.requires.faults c.requires.turns c.in_err-check_links.field-0.0 c.in_err-check_links.ensures)

pub returns-in_err-check_body : goal.returns-in_err-check_body
returns-in_err-check_body c =
    let p = err_from_is_err_and c.from_residual-in_err-check_body.result c.from_residual-in_err-check_body.ensures.1 in
    let l = (drafted c.args.self).lists in
    rw (p.1, p.2) (lines_at_faults c.args.self.contents l c.requires.links c.requires.faults c.requires.turns c.in_ok-check_links.ensures c.in_err-check_body.field-0.0 (c.in_err-check_body.ensures.checked (places c.args.self.contents) c.registers-registers.ensures))

pub returns : goal.returns
returns c =
    let l = (drafted c.args.self).lists in
    lines_checked c.args.self.contents l c.requires.links c.requires.faults c.requires.turns c.in_ok-check_links.ensures (c.in_ok-check_body.ensures.checked (places c.args.self.contents) c.registers-registers.ensures) c.check_turns.result c.check_turns.ensures
