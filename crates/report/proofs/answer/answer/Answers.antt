use Rattle.sheet.specs.Sheets.{given, lists}
use Rattle.report.proofs.Told.{program_low}
use Rattle.report.proofs.answer.answer.Goals as goal

pub refused_line-requires : goal.refused_line-requires
refused_line-requires c =
    let n = c.sheet_bound.new.lists in
    program_low c.args.bytes.now (given c.args.lists) c.args.site.now (lists n.0 n.1.0 n.1.1.0) c.sheet_bound.new.site c.in-Err.e c.in-Err.ensures
