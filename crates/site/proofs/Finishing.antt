-- What the search, the numbers of arcs and the greatest distance make of a table of ports.
use Rattle.std.proofs.Common.{◌≡◌, ℕ, ◌<◌, ◌≤◌, true, List, length, Option, None, Some, get_or, set, sym, ap, ◌∙◌, arith}
use Rattle.std.proofs.lemmas.Grind.{common_steps}
use Rattle.graph.specs.Model.{Model, Drawn, Proper, Reached, ports, arcs_before, distance, within}
use Rattle.graph.proofs.Distances.{within_reached, reached_within_nodes}
use Rattle.graph.proofs.Heights.{distance_most, height_taken}
use Rattle.site.specs.declared.node.Node.{Node}
use Rattle.site.specs.Kept.{Highest, Table, ported}
use Rattle.site.specs.Levels.{Complete, Drawing, Tallest, mark, marked, numbered}
use Rattle.site.specs.Table.{entry, made}
use Rattle.site.proofs.Marks.{mark_start, mark_final, mark_reached}

module _ (m : Model) where
  -- with the root's distance, the table is that of level 0
  pub started : (ns : List Node) (d : Node) (r : ℕ) → m.root ≡ r → Drawing ported m ns → d ≡ get_or ns r d → Table (marked 0) m (set ns r (made d.ports.items d.first_arc (Some 0)))
  started ns d r q h e v l = let k = h.0.rooted in grind (arith, common_steps, h.2 r, h.2 v l, mark_start m v, mark_start m r)

  module _ (ok : Drawn m) (ns : List Node) (len : length ns ≡ m.nodes) (table : Table numbered m ns) where
    told : (v : ℕ) → v < m.nodes → (entry ns v).distance ≡ mark m m.nodes v
    told v l = ap (λ (n : Node). n.distance) (table v l)

    -- a node with no distance is out of reach
    unreached : (v : ℕ) → v < m.nodes → (entry ns v).distance ≡ None → Reached m → ⊥
    unreached v l e r = let a = mark_final m v (reached_within_nodes m ok r v l) in let b = told v l in cc

    module _ (h : ℕ) (tall : Tallest ns (Some h)) where
      all_within : (v : ℕ) → v < m.nodes → within m m.nodes v ≡ true
      all_within v l = let t = tall.0 v (omega arith) in mark_reached m m.nodes v t.0 (sym (told v l) ∙ t.1)

      proper : Proper m
      proper = record { drawn = ok; reached = within_reached m ok m.nodes all_within }

      reads : (v : ℕ) → v < m.nodes → mark m m.nodes v ≡ Some (distance m v)
      reads v l = mark_final m v (all_within v l)

      -- each distance is at most h, and one is h
      low : (v : ℕ) → v < m.nodes → distance m v ≤ h
      low v l = let t = tall.0 v (omega arith) in let e : distance m v ≡ t.0 = let a = reads v l in let b = told v l in let d = t.1 in cc in let k = t.2 in omega arith

      top : Highest m h
      top =
          let some = ok.some in
          let t = tall.1 (omega arith) in
          let here : t.0 < m.nodes = let k = t.1 in omega arith in
          let e : h ≡ distance m t.0 = let a = reads t.0 here in let b = told t.0 here in let d = t.2 in cc in
          let most = distance_most m proper t.0 here in
          let far = height_taken m proper in
          let k = low far.0 far.1 in
          let z = far.2 in
          omega arith

    pub completed : (r : Option ℕ) → Tallest ns r → Complete m ns r
    completed None t = unreached t.0 (let k = t.1 in omega arith) t.2
    completed (Some h) t = (proper h t, top h t, λ v l. table v l ∙ ap (made (ports m v) (arcs_before m v)) (reads h t v l))
