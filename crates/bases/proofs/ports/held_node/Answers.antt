use Rattle.std.proofs.Common.{◌≡◌, ℕ, Bool, eqb, ◌∙◌, sym, rules, tests}
use Rattle.std.specs.List.{list_any}
use Rattle.protocol.specs.First.{mem}
use Rattle.registers.proofs.Filters.{filter_is}
use Rattle.bases.proofs.Scans.{mem_any, held_filter}
use Rattle.bases.proofs.ports.held_node.Goals as goal

pub returns : goal.returns
returns c =
    let ns = c.args.nodes.now in
    let p : ℕ → Bool = λ u. mem u ns in
    filter_is p c.node_in.result c.filter.result _ c.filter.ensures (λ x b q. let e : b ≡ list_any (λ y. eqb y x) ns = search (rules, tests) in e ∙ sym (mem_any x ns))
    ∙ held_filter ns c.args.value c.node_in.result c.node_in.ensures
