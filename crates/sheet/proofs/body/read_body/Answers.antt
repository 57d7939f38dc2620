use Rattle.std.proofs.Common.{◌≡◌, ℕ, ◌+◌, ◌<◌, List, length, take, drop, sym, ap, ◌∙◌, subst, arith}
use Rattle.std.proofs.lemmas.List.{drop-drop, drop-set-lt, length-take-le, take_more_set}
use Rattle.std.proofs.lemmas.Result.{err_from_is_err_and}
use Rattle.text.specs.Spots.{spot}
use Rattle.sheet.specs.declared.fault.SheetFault.TheVariants.{Refused, Scan}
use Rattle.sheet.specs.Entering.{Entered}
use Rattle.sheet.proofs.Bodies.{body_stops, front_kept, front_more, rest_kept}
use Rattle.sheet.proofs.Located.{located_err, located_ok}
use Rattle.sheet.proofs.body.read_body.Goals as goal

-- what is the same from a place on is the same from the next on
drop-next : {X : Type 0} (xs ys : List X) (i : ℕ) → drop i xs ≡ drop i ys → drop (i + 1) xs ≡ drop (i + 1) ys
drop-next {X} xs ys i e = sym (drop-drop 1 i xs) ∙ ap (λ (l : List X). drop 1 l) e ∙ drop-drop 1 i ys

pub returns-in_err-line-clause-read : goal.returns-in_err-line-clause-read
returns-in_err-line-clause-read g c room k h =
    let i = c.loop-entry.entry-index in
    let items = c.loop-entry.entry-items in
    let list = c.args.list.now in
    let all = length-take-le c.args.count list room in
    let len : length items ≡ c.args.count = c.loop-entry.auto.entry-items ∙ all in
    let lt : i < c.args.count = omega arith in
    let p = err_from_is_err_and c.from_residual.result c.from_residual.ensures.1 in
    let why = c.in_err-line.ensures in
    let q = c.loop-entry.invariant.0 k h in
    rw (p.1, p.2) (body_stops g.R.WriteLine.bytes g.R.SheetLine.checks k c.args.count i (spot c.args.rd.now) (spot c.loop-entry.rd) (spot c.read.new.self) list _ (take i items) (g.R.SheetLine.Holds c.loop-entry.into k) (Scan c.in_err-line.field-0.0) lt
    (front_kept list items c.args.count i _ len lt) (rest_kept list items c.args.count i _ len lt room c.loop-entry.invariant.1) q.1 why.0 why.1 q.0)

pub returns-in_err-at_line-clause-read : goal.returns-in_err-at_line-clause-read
returns-in_err-at_line-clause-read g c room k h =
    let i = c.loop-entry.entry-index in
    let items = c.loop-entry.entry-items in
    let list = c.args.list.now in
    let all = length-take-le c.args.count list room in
    let len : length items ≡ c.args.count = c.loop-entry.auto.entry-items ∙ all in
    let lt : i < c.args.count = omega arith in
    let p = err_from_is_err_and c.from_residual-in_err-at_line.result c.from_residual-in_err-at_line.ensures.1 in
    let q = c.loop-entry.invariant.0 k h in
    let x = c.in_ok-line.line in
    let got = c.in_ok-line.ensures in
    let f = located_err c.enter.result c.lines-n.result c.in_err-at_line.field-0.0 (sym c.at_line.ensures ∙ c.in_err-at_line.was) in
    let en = subst (λ r. Entered g.R.SheetLine.Holds (g.R.SheetLine.checks k (take i items) x) k (take i items) x r c.enter.new.into) f.1.0 (c.enter.ensures k (take i items) q.0) in
    rw (p.1, p.2 ∙ f.1.1) (body_stops g.R.WriteLine.bytes g.R.SheetLine.checks k c.args.count i (spot c.args.rd.now) (spot c.loop-entry.rd) (spot c.read.new.self) list _ (take i items) (g.R.SheetLine.Holds c.enter.new.into k) (Refused f.0 c.lines-n.result) lt
    (front_kept list items c.args.count i _ len lt) (rest_kept list items c.args.count i _ len lt room c.loop-entry.invariant.1) q.1 (c.lines-n.ensures ∙ got.1, (x, (spot c.read.new.self, got, en.0))) (x, got) en.1)

pub loop-entry-preserved : goal.loop-entry-preserved
loop-entry-preserved g c =
    let i = c.loop-entry.entry-index in
    let items = c.loop-entry.entry-items in
    let x = c.in_ok-line.line in
    let got = c.in_ok-line.ensures in
    let lt : i < length items = omega (arith, c.loop-entry.auto.entry-items) in
    let e = take_more_set items i x lt in
    let done = located_ok c.enter.result c.lines-n.result c.in_ok-at_line.field-0 (sym c.at_line.ensures ∙ c.in_ok-at_line.was) in (
      (λ k h.
          let p = c.loop-entry.invariant.0 k h in
          let en = subst (λ r. Entered g.R.SheetLine.Holds (g.R.SheetLine.checks k (take i items) x) k (take i items) x r c.enter.new.into) done (c.enter.ensures k (take i items) p.0) in
          rw e (en.1, front_more g.R.WriteLine.bytes g.R.SheetLine.checks k (take i items) x (spot c.args.rd.now) (spot c.loop-entry.rd) (spot c.read.new.self) p.1 got en.0)),
      drop-set-lt (i + 1) items i x (omega arith) ∙ drop-next items (take c.args.count c.args.list.now) i c.loop-entry.invariant.1,
    )
