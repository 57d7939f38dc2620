-- The sizes of sites, and where their ports and slots stand.
use Rattle.std.specs.Prelude.{◌≡◌, ℕ, ◌+◌, ◌<◌, ◌≤◌, List, length, slice_index}
use Rattle.std.proofs.Common.{subst, inl, inr, arith}
use Rattle.std.proofs.lemmas.Bool.{cases_lt}
use Rattle.lists.specs.Members.{Among}
use Rattle.lists.proofs.Elements.{among_get_d}
use Rattle.graph.specs.Model.{Model, Proper, ports, arcs, arcs_before}
use Rattle.graph.proofs.Drawn.{inside, both, arcs_past, arcs_mono, arc_below}
use Rattle.protocol.specs.Rank.{port_to, slot}
use Rattle.protocol.proofs.RankSlots.{port_low}
use Rattle.site.specs.declared.site.Site.{Site}
use Rattle.site.specs.Sites.{model}
use Rattle.site.proofs.Whole.{proper}
use Rattle.layers.specs.Sites.{room}

module _ (m : Model) (ok : Proper m) where
  before_few : (v : ℕ) → arcs_before m v ≤ arcs m
  before_few v = elim (cases_lt v m.nodes) [ inl l ↦ arcs_mono m v m.nodes (omega arith) | inr l ↦ (let e = arcs_past m ok.drawn v l in omega arith) ]

  -- a port leads to a node
  pub port_inside : (v : ℕ) (ps : List ℕ) → ps ≡ ports m v → (i : ℕ) → i < length ps → slice_index ps i < m.nodes
  port_inside v ps e i l = (inside m ok.drawn (slice_index ps i) v (subst (Among (slice_index ps i)) e (among_get_d ps i 0 l))).1

  -- the slot of a neighbour is among the slots
  pub slot_inside : (v w : ℕ) → Among w (ports m v) → slot m w v < m.nodes + arcs m
  slot_inside v w h =
      let l = port_low v (ports m w) (both m ok.drawn w v h) in
      let a = arc_below m w m.nodes (port_to v (ports m w)) (inside m ok.drawn w v h).1 l in
      omega arith

pub site_room : (s : Site) → (model s).nodes + arcs (model s) ≤ 2304
site_room s = room (model s) (proper s)

pub site_before : (s : Site) (v : ℕ) → (model s).nodes + arcs_before (model s) v ≤ 2304
site_before s v = let a = site_room s in let b = before_few (model s) (proper s) v in omega arith
