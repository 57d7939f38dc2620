use Rattle.std.proofs.Common.{ℕ, List, take, sym, ap, ◌∙◌, arith}
use Rattle.text.specs.Page.{put}
use Rattle.text.specs.Written.{lines_of}
use Rattle.text.proofs.Written.{length_more, line_put, lines_more, piece}
use Rattle.text.proofs.lines.put_lines.Goals as goal

pub returns-in_err-after : goal.returns-in_err-after
returns-in_err-after g c =
    let p = piece g.L.WriteLine.bytes c.args.lines.now c.loop-line.line-index c.line-item.result c.loop-line-test.true c.line-item.is in
    let e = c.loop-line.invariant.0 in
    let k = c.loop-line.auto.page in
    let over = c.in_err-after.ensures.0 in
    absurd (omega arith)

pub bounds-page-after : goal.bounds-page-after
bounds-page-after g c =
    let p = piece g.L.WriteLine.bytes c.args.lines.now c.loop-line.line-index c.line-item.result c.loop-line-test.true c.line-item.is in
    let e = c.loop-line.invariant.0 in
    let k = c.loop-line.auto.page in
    let f = c.in_ok-after.ensures.1 in
    let l = c.write.auto.page in
    omega arith

pub loop-line-preserved : goal.loop-line-preserved
loop-line-preserved g c =
    let bytes = g.L.WriteLine.bytes in
    let l = c.args.lines.now in
    let i = c.loop-line.line-index in
    let x = c.line-item.result in
    let at = c.args.at in
    let p = piece bytes l i x c.loop-line-test.true c.line-item.is in
    let w = lines_more bytes l i x c.loop-line-test.true c.line-item.is in
    let n = length_more bytes l i x c.loop-line-test.true c.line-item.is in
    let e = c.loop-line.invariant.0 in
    let f = c.in_ok-after.ensures.1 in (
      omega arith,
      line_put at c.loop-line.end c.in_ok-after.after (lines_of bytes (take i l)) (bytes x) c.args.page.now c.loop-line.page c.write.new.page e c.loop-line.invariant.1 c.in_ok-after.ensures.2 f (omega arith)
          ∙ ap (λ (r : List ℕ). put at r c.args.page.now) (sym w),
    )
