use Rattle.std.proofs.Common.{get_or, Some, ap, ◌∙◌}
use Rattle.std.proofs.lemmas.List.{length-set}
use Rattle.site.specs.Table.{made}
use Rattle.site.proofs.Finishing.{started, completed}
use Rattle.site.proofs.levels.survey.Goals as goal

pub returns : goal.returns
returns c m e h =
    let ns = c.args.nodes.now in
    let r = c.args.root in
    let d = c.index-nodes-root.result in
    let one = length-set ns r (made (get_or ns r d).ports.items (get_or ns r d).first_arc (Some 0)) ∙ h.1 in
    let two = c.search.auto.nodes ∙ one in
    let marks = c.search.ensures m (h.0, one, started m ns (get_or ns r d) r e h (ap (get_or ns r) c.index-nodes-root.is)) in
    completed m h.0 c.number_arcs.new.nodes (c.number_arcs.auto.nodes ∙ two) (c.number_arcs.ensures m (h.0, two, marks)) c.greatest.result c.greatest.ensures
