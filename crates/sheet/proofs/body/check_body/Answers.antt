use Rattle.std.proofs.Common.{◌≡◌, ◌+◌, [], ◌∷◌, ◌++◌, take, sym, ap, ◌∙◌, subst}
use Rattle.std.proofs.lemmas.List.{take_more}
use Rattle.std.proofs.lemmas.Result.{err_from_is_err_and}
use Rattle.sheet.specs.Entering.{Entered}
use Rattle.sheet.proofs.Bodies.{body_refused, good_push}
use Rattle.sheet.proofs.Located.{located_err, located_ok}
use Rattle.sheet.proofs.body.check_body.Goals as goal

pub returns-in_err-at_line-clause-checked : goal.returns-in_err-at_line-clause-checked
returns-in_err-at_line-clause-checked g c k h =
    let xs = c.args.list.now in
    let i = c.loop-i.i in
    let x = c.index-list-i.result in
    let q = c.loop-i.invariant k h in
    let p = err_from_is_err_and c.from_residual.result c.from_residual.ensures.1 in
    let f = located_err c.enter.result _ c.in_err-at_line.field-0.0 (sym c.at_line.ensures ∙ c.in_err-at_line.was) in
    let en = subst (λ r. Entered g.R.SheetLine.Holds (g.R.SheetLine.checks k (take i xs) x) k (take i xs) x r c.enter.new.into) f.1.0 (c.enter.ensures k (take i xs) q.0) in
    rw (p.1, p.2 ∙ f.1.1) (body_refused g.R.WriteLine.bytes g.R.SheetLine.checks k xs i x c.args.line f.0 c.loop-i-test.true c.index-list-i.is q.1 en.0)

pub loop-i-preserved : goal.loop-i-preserved
loop-i-preserved g c k h =
    let xs = c.args.list.now in
    let i = c.loop-i.i in
    let x = c.index-list-i.result in
    let q = c.loop-i.invariant k h in
    let done = located_ok c.enter.result _ c.in_ok-at_line.field-0 (sym c.at_line.ensures ∙ c.in_ok-at_line.was) in
    let en = subst (λ r. Entered g.R.SheetLine.Holds (g.R.SheetLine.checks k (take i xs) x) k (take i xs) x r c.enter.new.into) done (c.enter.ensures k (take i xs) q.0) in
    let e : take (i + 1) xs ≡ take i xs ++ (x ∷ []) = take_more xs i x c.loop-i-test.true ∙ ap (λ (y : g.row.R.Denot). take i xs ++ (y ∷ [])) (sym c.index-list-i.is) in
    rw e (en.1, good_push g.R.WriteLine.bytes g.R.SheetLine.checks k [] (take i xs) x q.1 en.0)
