use Rattle.std.proofs.Common.{◌≤◌, length, sym, ◌∙◌, arith}
use Rattle.std.proofs.lemmas.Result.{err_from_is_err_and}
use Rattle.refusal.specs.declared.Refusal.TheVariants.{Limit}
use Rattle.sheet.specs.Sheets.{drafted, sheet_bytes}
use Rattle.sheet.proofs.Proper.{size_told, wrote_all, wrote_declined}
use Rattle.sheet.proofs.write.write_sheet.Goals as goal

pub returns-in_err-check-clause-wrote : goal.returns-in_err-check-clause-wrote
returns-in_err-check-clause-wrote c =
    let d = drafted c.args.draft in
    let s = drafted c.counted-sheet.result in
    let p = err_from_is_err_and c.from_residual-in_err-check.result c.from_residual-in_err-check.ensures.1 in
    let t = size_told (sheet_bytes s) 65536 c.size.result Limit c.in_ok-size.size c.size.ensures (sym c.ok_or.ensures.value ∙ c.in_ok-size.was) in
    let small : length (sheet_bytes s) ≤ 65536 = let e = t.0 in let m = t.1 in omega arith in
    rw (p.1, p.2) (wrote_declined d.contents d.lists s c.counted-sheet.ensures (c.have_room.ensures.0 c.if-not-have_room.false) c.args.page.now small c.in_err-check.field-0.0 c.in_err-check.ensures)

pub returns : goal.returns
returns c =
    let d = drafted c.args.draft in
    let s = drafted c.counted-sheet.result in
    let t = size_told (sheet_bytes s) 65536 c.size.result Limit c.in_ok-size.size c.size.ensures (sym c.ok_or.ensures.value ∙ c.in_ok-size.was) in
    let small : length (sheet_bytes s) ≤ 65536 = let e = t.0 in let m = t.1 in omega arith in
    let w = wrote_all d.contents d.lists s c.counted-sheet.ensures (c.have_room.ensures.0 c.if-not-have_room.false) c.args.page.now small c.in_ok-check.ensures c.in-Some.end c.put.new.page c.in-Some.ensures in
    record { wrote = w.0; returns = w.1 }
