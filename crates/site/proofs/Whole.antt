-- What the fields of a builder or a site keep is what a model keeps.
use Rattle.std.proofs.Common.{◌≡◌, ℕ, ◌<◌, get_or, vec_items, vec_len, ◌∙◌}
use Rattle.std.proofs.lemmas.List.{get_or_read_under}
use Rattle.graph.specs.Model.{Drawn, Proper}
use Rattle.graph.proofs.Deciding.{drawn_from, proper_from}
use Rattle.site.specs.declared.builder.SiteBuilder.{SiteBuilder}
use Rattle.site.specs.declared.site.Site.{Site}
use Rattle.site.specs.Kept.{ported}
use Rattle.site.specs.declared.node.Node.{Node}
use Rattle.site.specs.Table.{blank}
use Rattle.site.specs.Sites.{draft, model}

-- every draft is drawn
pub drawn : (b : SiteBuilder) → Drawn (draft b)
drawn b = drawn_from (draft b) b.drawn

-- every site is proper
pub proper : (s : Site) → Proper (model s)
proper s = proper_from (model s) s.proper

-- what is read of a builder's table is the node's entry
pub entry_read : (b : SiteBuilder) (v : ℕ) (d : Node) → d ≡ get_or (vec_items b.nodes) v d → v < vec_len b.nodes → d ≡ ported (draft b) v
entry_read b v d e l = get_or_read_under (vec_items b.nodes) v (vec_len b.nodes) d blank e l b.nodes.ok.0 ∙ b.table v l
