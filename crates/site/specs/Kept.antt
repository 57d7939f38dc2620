-- What a builder and a site keep between calls, as facts of their fields.
use Rattle.std.specs.Prelude.{◌≡◌, ℕ, ◌<◌, List, None, Some}
use Rattle.graph.specs.Model.{Model, ports, arcs_before, distance, height}
use Rattle.site.specs.declared.node.Node.{Node}
use Rattle.site.specs.Table.{entry, made}

-- the table has this entry for each node of the model
abbrev pub Table : (Model → ℕ → Node) → Model → List Node → Type 0
Table e m ns = (v : ℕ) → v < m.nodes → entry ns v ≡ e m v

-- a node's entry while links are entered: its ports, and no more yet
abbrev pub ported : Model → ℕ → Node
ported m v = made (ports m v) 0 None

-- a node's entry at the end: its ports, the number of the arcs before its own, its distance
abbrev pub filled : Model → ℕ → Node
filled m v = made (ports m v) (arcs_before m v) (Some (distance m v))

-- h is the greatest distance, as a function
abbrev pub Highest : Model → ℕ → Type 0
Highest m h = h ≡ height m
