use Rattle.std.proofs.Common.{◌≡◌, List, ◌++◌, length, Some, subst, arith, length-append}
use Rattle.text.specs.Lines.{contents_bytes, fault_bytes, link_bytes, turn_bytes}
use Rattle.text.specs.Page.{Wrote}
use Rattle.text.specs.Written.{lines_of}
use Rattle.text.specs.declared.contents.ContentsLine.{ContentsLine}
use Rattle.sheet.specs.Sheets.{heads}
use Rattle.text.proofs.Pages.{wrote_then}
use Rattle.sheet.proofs.draft.Draft.put.Goals as goal

pub returns : goal.returns
returns c =
    let s = c.args.self in
    let page = c.args.page.now in
    let hs = lines_of contents_bytes (heads s.contents) in
    let ls = lines_of link_bytes s.links.now in
    let fs = lines_of fault_bytes s.faults.now in
    let ts = lines_of turn_bytes s.turns.now in
    let fits = c.requires in
    let n3 = length-append fs ts in
    let n2 = length-append ls (fs ++ ts) in
    let n1 = length-append hs (ls ++ (fs ++ ts)) in
    let a = c.in_ok-heads.heads in
    let b = c.in_ok-links.links in
    let d = c.in_ok-faults.faults in
    let p1 = c.write_lines.new.page in
    let p2 = c.write_lines-2.new.page in
    let p3 = c.write_lines-3.new.page in
    let p4 = c.write_lines-4.new.page in
    let kept1 : length p1 ≡ length page = c.write_lines.auto.page in
    let kept2 : length p2 ≡ length p1 = c.write_lines-2.auto.page in
    let w1 : Wrote hs 0 page (Some a) p1 = subst (λ (xs : List ContentsLine). Wrote (lines_of contents_bytes xs) 0 page (Some a) p1) c.heads.ensures c.in_ok-heads.ensures in
    let w2 : Wrote ls a p1 (Some b) p2 = c.in_ok-links.ensures in
    let w3 : Wrote fs b p2 (Some d) p3 = c.in_ok-faults.ensures in
    let w4 : Wrote ts d p3 c.write_lines-4.result p4 = c.write_lines-4.ensures in
    let e1 = w1.1 in
    let e2 = w2.1 in
    wrote_then hs (ls ++ (fs ++ ts)) page p1 p4 0 a c.write_lines-4.result (omega arith) w1
    (wrote_then ls (fs ++ ts) p1 p2 p4 a b c.write_lines-4.result (omega arith) w2 (wrote_then fs ts p2 p3 p4 b d c.write_lines-4.result (omega arith) w3 w4))
