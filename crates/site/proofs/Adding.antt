-- A link that is free of refusals, entered into the table and the list.
use Rattle.std.proofs.Common.{◌≡◌, ℕ, ◌<◌, List, [], ◌∷◌, ◌++◌, map, length, set, get_or, vec_items, vec_len, vec_capacity, ap, ◌∙◌, arith}
use Rattle.std.proofs.lemmas.List.{length-map, map_push}
use Rattle.std.proofs.lemmas.Bool.{cases_eq}
use Rattle.std.proofs.lemmas.Grind.{common_steps}
use Rattle.arrayvec.specs.ArrayVec.{ArrayVec}
use Rattle.refusal.specs.Checks.{Free}
use Rattle.graph.specs.Model.{Model, Drawn, ports}
use Rattle.graph.proofs.Ports.{ports_push_first, ports_push_second, ports_push_other}
use Rattle.graph.proofs.Growth.{drawn_push}
use Rattle.graph.proofs.Handshake.{links_room}
use Rattle.site.specs.declared.link.Link.{Link}
use Rattle.site.specs.declared.node.Node.{Node}
use Rattle.site.specs.declared.builder.SiteBuilder.{SiteBuilder}
use Rattle.site.specs.Table.{ends, made, site_of}
use Rattle.site.specs.Kept.{Table, ported}
use Rattle.site.specs.Sites.{draft}
use Rattle.site.specs.Entering.{link_checks, with_link}
use Rattle.site.proofs.Whole.{drawn}

module _ (m : Model) (a b : ℕ) (free : Free (link_checks m a b)) where
  pub free_order : (a < b) × (b < m.nodes)
  free_order = grind arith

  free_room : (length (ports m a) < 8) × (length (ports m b) < 8)
  free_room = grind arith

  -- with the link the model is drawn too
  pub free_drawn : Drawn m → Drawn (with_link m a b)
  free_drawn d = let o = free_order in let r = free_room in drawn_push m a b d o.0 o.1 free.1.0 r.0 r.1

-- the table of the links with one more, by a port more in each of two entries, one after the other
module _ (m : Model) (ns : List Node) (a b : ℕ) (low high : Node) (p q : ArrayVec ℕ) (ab : a < b) (bn : b < m.nodes) (len : m.nodes ≡ length ns) (table : Table ported m ns)
    (is_low : low ≡ get_or ns a low) (more_low : p.items ≡ low.ports.items ++ (b ∷ []))
    (is_high : high ≡ get_or (set ns a (made p.items low.first_arc low.distance)) b high) (more_high : q.items ≡ high.ports.items ++ (a ∷ [])) where
  at_low : made p.items low.first_arc low.distance ≡ ported (with_link m a b) a
  at_low = let e = table a (omega arith) in grind (arith, common_steps, ports_push_first m.links a b)

  at_high : made q.items high.first_arc high.distance ≡ ported (with_link m a b) b
  at_high = let e = table b bn in grind (arith, common_steps, ports_push_second m.links a b)

  pub table_push : (z : Model) → z ≡ with_link m a b → Table ported z (set (set ns a (made p.items low.first_arc low.distance)) b (made q.items high.first_arc high.distance))
  table_push z e v l = grind (arith, e, common_steps, at_low, at_high, cases_eq v a, cases_eq v b, table v, ports_push_other m.links a b v)

-- the draft with a link more
pub draft_push : (s : SiteBuilder) (ms : List Link) (a b : ℕ) → ms ≡ vec_items s.links ++ (record { a = a; b = b } ∷ []) → site_of (vec_len s.nodes) s.root ms ≡ with_link (draft s) a b
draft_push s ms a b e = ap (λ (ls : List (ℕ × ℕ)). record { nodes = vec_len s.nodes; root = s.root; links = ls }) (ap (map ends) e ∙ map_push ends (vec_items s.links) (record { a = a; b = b }))

-- there is room for a free link in the list
pub room_for : (s : SiteBuilder) (a b : ℕ) → Free (link_checks (draft s) a b) → vec_len s.links < vec_capacity s.links
room_for s a b free =
    let m = draft s in
    let d = drawn s in
    let o = free_order m a b free in
    let r = free_room m a b free in
    let k = links_room m d.ordered d.few a b (λ e. omega (arith, o.0)) (omega (arith, o.0, o.1)) o.1 (omega (arith, r.0)) (omega (arith, r.1)) in
    let n = d.limit in
    let e = s.links.ok.0 in
    let f = length-map (vec_items s.links) ends in
    let c = s.room in
    omega arith
