use Rattle.std.proofs.lemmas.Result.{err_from_is_err_and}
use Rattle.sheet.specs.Sheets.{drafted}
use Rattle.sheet.proofs.Proper.{sheet_at_contents, sheet_at_lines}
use Rattle.sheet.proofs.draft.Draft.check.Goals as goal

pub returns-in_err-check_contents : goal.returns-in_err-check_contents
returns-in_err-check_contents c =
    let p = err_from_is_err_and c.from_residual.result c.from_residual.ensures.1 in
    rw (p.1, p.2) (sheet_at_contents c.args.self.contents (drafted c.args.self).lists c.in_err-check_contents.field-0.0 c.in_err-check_contents.ensures)

pub returns : goal.returns
returns c = sheet_at_lines c.args.self.contents (drafted c.args.self).lists c.check_lines.result c.in_ok-check_contents.ensures c.requires c.check_lines.ensures
