use Rattle.std.proofs.Common.{◌<◌, length, take, arith}
use Rattle.std.proofs.lemmas.Result.{err_from_is_err_and}
use Rattle.text.specs.Spots.{spot}
use Rattle.sheet.specs.declared.fault.SheetFault.TheVariants.{Scan}
use Rattle.sheet.specs.Sheets.{front, lists}
use Rattle.sheet.proofs.Outcomes.{lines_stop, sheet_passed}
use Rattle.sheet.proofs.Stops.{all_lines, at_end, at_faults, at_links, at_turns}
use Rattle.sheet.proofs.read.read_all.Goals as goal

pub returns-in_err-site : goal.returns-in_err-site
returns-in_err-site c =
    let p = err_from_is_err_and c.from_residual-in_err-site.result c.from_residual-in_err-site.ensures.1 in
    let bytes = c.args.bytes.now in
    let ns = c.in_ok-contents.contents in
    let q = spot c.read_contents.new.rd in
    let e = c.in_err-site.field-0.0 in
    rw (p.1, p.2) (record {
      judged = lines_stop bytes (λ (over : 65536 < length bytes). omega arith) (spot c.new-rd.result) c.new-rd.ensures ns q e c.in_ok-contents.ensures.read (at_links ns q e c.in_err-site.ensures.read);
      site = tt;
    })

pub returns-in_err-read_faults : goal.returns-in_err-read_faults
returns-in_err-read_faults c =
    let p = err_from_is_err_and c.from_residual-in_err-read_faults.result c.from_residual-in_err-read_faults.ensures.1 in
    let bytes = c.args.bytes.now in
    let ns = c.in_ok-contents.contents in
    let q = spot c.read_contents.new.rd in
    let e = c.in_err-read_faults.field-0.0 in
    rw (p.1, p.2) (record {
      judged = lines_stop bytes (λ (over : 65536 < length bytes). omega arith) (spot c.new-rd.result) c.new-rd.ensures ns q e c.in_ok-contents.ensures.read
          (at_faults ns q (take ns.links.value c.read_links.new.links) (spot c.read_links.new.rd) c.in_ok-site.ensures.read e c.in_err-read_faults.ensures);
      site = tt;
    })

pub returns-in_err-read_turns : goal.returns-in_err-read_turns
returns-in_err-read_turns c =
    let p = err_from_is_err_and c.from_residual-in_err-read_turns.result c.from_residual-in_err-read_turns.ensures.1 in
    let bytes = c.args.bytes.now in
    let ns = c.in_ok-contents.contents in
    let q = spot c.read_contents.new.rd in
    let e = c.in_err-read_turns.field-0.0 in
    rw (p.1, p.2) (record {
      judged = lines_stop bytes (λ (over : 65536 < length bytes). omega arith) (spot c.new-rd.result) c.new-rd.ensures ns q e c.in_ok-contents.ensures.read
          (at_turns ns q (take ns.links.value c.read_links.new.links) (spot c.read_links.new.rd) c.in_ok-site.ensures.read (take ns.faults.value c.read_faults.new.faults) (spot c.read_faults.new.rd) c.in_ok-read_faults.ensures e
          c.in_err-read_turns.ensures);
      site = tt;
    })

pub returns-in_err-end : goal.returns-in_err-end
returns-in_err-end c =
    let p = err_from_is_err_and c.from_residual-in_err-end.result c.from_residual-in_err-end.ensures.1 in
    let bytes = c.args.bytes.now in
    let ns = c.in_ok-contents.contents in
    let q = spot c.read_contents.new.rd in
    rw (p.1, p.2) (record {
      judged = lines_stop bytes (λ (over : 65536 < length bytes). omega arith) (spot c.new-rd.result) c.new-rd.ensures ns q (Scan c.in_err-end.field-0.0) c.in_ok-contents.ensures.read
          (at_end ns q (take ns.links.value c.read_links.new.links) (spot c.read_links.new.rd) c.in_ok-site.ensures.read (take ns.faults.value c.read_faults.new.faults) (spot c.read_faults.new.rd) c.in_ok-read_faults.ensures
          (take ns.turns.value c.read_turns.new.turns) (spot c.read_turns.new.rd) c.in_ok-read_turns.ensures c.in_err-end.field-0.0 c.in_err-end.ensures);
      site = tt;
    })

pub returns : goal.returns
returns c =
    let bytes = c.args.bytes.now in
    let ns = c.in_ok-contents.contents in
    let q = spot c.read_contents.new.rd in
    let z = spot c.read_turns.new.rd in
    let l = lists c.read_links.new.links c.read_faults.new.faults c.read_turns.new.turns in
    record {
      judged = sheet_passed bytes (λ (over : 65536 < length bytes). omega arith) (spot c.new-rd.result) c.new-rd.ensures ns q z (front ns l) c.in_ok-contents.ensures.read
          (all_lines ns q (take ns.links.value l.links) (spot c.read_links.new.rd) c.in_ok-site.ensures.read (take ns.faults.value l.faults) (spot c.read_faults.new.rd) c.in_ok-read_faults.ensures (take ns.turns.value l.turns) z
          c.in_ok-read_turns.ensures c.in_ok-end.ensures);
      site = c.in_ok-site.ensures.site;
    }
