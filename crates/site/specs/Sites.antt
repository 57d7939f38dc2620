-- Builders and sites as plain data.
use Rattle.std.specs.Prelude.{vec_items, vec_len}
use Rattle.graph.specs.Model.{Model}
use Rattle.site.specs.declared.builder.SiteBuilder.{SiteBuilder}
use Rattle.site.specs.declared.site.Site.{Site}
use Rattle.site.specs.Table.{site_of}

-- what has been entered so far
abbrev pub draft : SiteBuilder → Model
draft b = site_of (vec_len b.nodes) b.root (vec_items b.links)

abbrev pub model : Site → Model
model s = site_of (vec_len s.nodes) s.root (vec_items s.links)
