use Rattle.std.proofs.Common.{Some, Ok, Option, ap, ◌∙◌, subst}
use Rattle.graph.specs.Model.{Model}
use Rattle.protocol.specs.Stack.{stack}
use Rattle.site.specs.declared.site.Site.{Site}
use Rattle.sheet.specs.Sheets.{ReadSheet, given, lists}
use Rattle.report.proofs.LineLow.{sited}
use Rattle.report.proofs.bound.sheet_bound.Goals as goal

pub returns : goal.returns
returns c =
    let ns = c.in_ok-read_sheet.field-0 in
    let l = given c.args.lists in
    let n = c.read_sheet.new.lists in
    let m = lists n.0 n.1.0 n.1.1.0 in
    let read : ReadSheet c.args.bytes.now l c.args.site.now (Ok ns) m (Some c.in-Some.read) =
    subst (λ (z : Option Site). ReadSheet c.args.bytes.now l c.args.site.now (Ok ns) m z) c.in-Some.is c.in_ok-read_sheet.ensures in
    (ns, read, c.stack_bound.ensures.bound ∙ ap (λ (s : Model). (stack s).bound) (sited c.args.bytes.now l c.args.site.now ns m (Some c.in-Some.read) read), c.stack_bound.ensures.low)
