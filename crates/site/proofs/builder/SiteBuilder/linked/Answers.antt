use Rattle.std.proofs.Common.{◌≡◌, nat_eq, sym, ap, ◌∙◌, arith}
use Rattle.std.specs.List.{list_any}
use Rattle.graph.specs.Model.{ports}
use Rattle.graph.proofs.Ports.{repeat_seen, joins_ports}
use Rattle.site.specs.Kept.{ported}
use Rattle.site.specs.Sites.{draft}
use Rattle.site.proofs.Ends.{among_test}
use Rattle.site.proofs.Whole.{drawn, entry_read}
use Rattle.site.proofs.builder.SiteBuilder.linked.Goals as goal

pub returns : goal.returns
returns c =
    let s = c.args.self.now in
    let m = draft s in
    let a = c.args.a in
    let b = c.args.b in
    let p = c.requires.0 in
    let q = c.requires.1 in
    let node : c.index.result.now ≡ ported m a = entry_read s a c.index.result.now c.index.ensures (omega arith) in
    let test : c.contains.result ≡ list_any (λ y. nat_eq y b) (ports m a) = c.contains.ensures.value ∙ ap (list_any (λ y. nat_eq y b)) (c.deref.ensures.0 ∙ ap (λ d. d.ports.items) node) in
    let stands = among_test b (ports m a) in
    (λ e. repeat_seen m.links (λ x y k. ((drawn s).ordered x y k).0) a b p (stands.0 (sym test ∙ e)), λ k. test ∙ stands.1 (joins_ports m.links a b k))
