use Rattle.std.proofs.Common.{◌≡◌, ℕ, take, ap, ◌∙◌, arith}
use Rattle.std.proofs.lemmas.Result.{err_from_is_err_and}
use Rattle.site.specs.Sites.{draft}
use Rattle.text.specs.Lines.{link_bytes}
use Rattle.text.specs.Spots.{spot}
use Rattle.sheet.specs.Kinds.{link_rules, site_of}
use Rattle.sheet.proofs.Bodies.{body_passed, body_stopped}
use Rattle.sheet.proofs.Linking.{links_end}
use Rattle.sheet.proofs.Stops.{links_stop}
use Rattle.sheet.proofs.stages.read_links.Goals as goal

pub returns-in_err-read_body : goal.returns-in_err-read_body
returns-in_err-read_body c =
    let p = err_from_is_err_and c.from_residual.result c.from_residual.ensures.1 in
    let ns = c.args.contents in
    let n = c.get-count.ensures in
    let kept = c.read_body.auto.list in
    let few = c.requires.few in
    let e = c.in_err-read_body.field-0.0 in
    let h = c.in_err-read_body.ensures.read (omega arith) ns.nodes.value c.begin-builder.ensures in
    rw (p.1, p.2) (record {
      read = links_stop ns (spot c.args.rd.now) e (body_stopped link_bytes link_rules ns.nodes.value c.get-count.result ns.links.value (spot c.args.rd.now) (spot c.read_body.new.rd) _ c.read_body.new.list (λ xs. draft c.read_body.new.into ≡ site_of ns.nodes.value xs) e n (omega arith) h);
      site = tt;
    })

pub returns : goal.returns
returns c =
    let ns = c.args.contents in
    let n = c.get-count.ensures in
    let few = c.requires.few in
    let list = c.read_body.new.list in
    let p = spot c.args.rd.now in
    let q = spot c.read_body.new.rd in
    let body = body_passed link_bytes link_rules ns.nodes.value c.get-count.result ns.links.value p q _ list (λ xs. draft c.read_body.new.into ≡ site_of ns.nodes.value xs) n (c.in_ok-read_body.ensures.read (omega arith) ns.nodes.value c.begin-builder.ensures) in
    let held : draft c.read_body.new.into ≡ site_of ns.nodes.value (take ns.links.value list) =
    (c.in_ok-read_body.ensures.read (omega arith) ns.nodes.value c.begin-builder.ensures).2 ∙ ap (λ (k : ℕ). site_of ns.nodes.value (take k list)) n in
    let r = links_end ns p c.read_body.new.rd (take ns.links.value list) (draft c.read_body.new.into) c.finish.result c.lines.result held body c.lines.ensures c.finish.ensures in
    rw c.at_line.ensures (record { read = r.0; site = r.1 })
