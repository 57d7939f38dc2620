use Rattle.std.proofs.Common.{◌≡◌, ◌+◌, length, sym, ◌∙◌, subst}
use Rattle.std.proofs.lemmas.Result.{err_from_is_err_and}
use Rattle.graph.specs.Model.{Model, Proper, Reached}
use Rattle.site.specs.Entering.{Finished}
use Rattle.site.specs.Sites.{draft}
use Rattle.sheet.specs.Kinds.{site_of}
use Rattle.sheet.proofs.Checked.{links_apart, links_stopped}
use Rattle.sheet.proofs.Located.{located_err, located_ok}
use Rattle.sheet.proofs.check.check_links.Goals as goal

pub returns-in_err-check_body : goal.returns-in_err-check_body
returns-in_err-check_body c =
    let p = err_from_is_err_and c.from_residual.result c.from_residual.ensures.1 in
    let ns = c.args.contents in
    rw (p.1, p.2) (links_stopped ns c.args.links.now c.requires.count c.in_err-check_body.field-0.0 (c.in_err-check_body.ensures.checked ns.nodes.value c.begin-builder.ensures))

pub returns-in_err-at_line : goal.returns-in_err-at_line
returns-in_err-at_line c =
    let p = err_from_is_err_and c.from_residual-in_err-at_line.result c.from_residual-in_err-at_line.ensures.1 in
    let ns = c.args.contents in
    let ls = c.args.links.now in
    let good = c.in_ok-check_body.ensures.checked ns.nodes.value c.begin-builder.ensures in
    let held : draft c.check_body.new.into ≡ site_of ns.nodes.value ls = c.in_ok-check_body.ensures.held ns.nodes.value c.begin-builder.ensures in
    let f = located_err c.finish.result (4 + length ls) c.in_err-at_line.field-0.0 (sym c.at_line.ensures ∙ c.in_err-at_line.was) in
    let fin = subst (Finished (draft c.check_body.new.into)) f.1.0 c.finish.ensures in
    rw (p.1, p.2 ∙ f.1.1, fin.0) (links_apart ns ls c.requires.count good (subst (λ (m : Model). Reached m → ⊥) held fin.1))

pub returns : goal.returns
returns c =
    let ns = c.args.contents in
    let ls = c.args.links.now in
    let good = c.in_ok-check_body.ensures.checked ns.nodes.value c.begin-builder.ensures in
    let held : draft c.check_body.new.into ≡ site_of ns.nodes.value ls = c.in_ok-check_body.ensures.held ns.nodes.value c.begin-builder.ensures in
    let done = located_ok c.finish.result (4 + length ls) c.in_ok-at_line.field-0 (sym c.at_line.ensures ∙ c.in_ok-at_line.was) in
    let fin = subst (Finished (draft c.check_body.new.into)) done c.finish.ensures in
    (good, (subst Proper held fin.1).reached)
