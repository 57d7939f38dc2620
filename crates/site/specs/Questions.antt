-- What a site answers where it can decline.
use Rattle.std.specs.Prelude.{◌≡◌, ℕ, ◌<◌, ◌≤◌, Ok, Err, Result}
use Rattle.refusal.specs.declared.Refusal.{Refusal}
use Rattle.refusal.specs.declared.Refusal.TheVariants as refusal
use Rattle.graph.specs.Model.{Model, Distance, distance}

-- the distance of a node is neighbours, or there is no such node
abbrev pub Told : Model → ℕ → Result ℕ Refusal → Type 0
Told m v (Ok d) = (v < m.nodes) × Distance m v d × (d ≡ distance m v)
Told m v (Err e) = (e ≡ refusal.Node) × (m.nodes ≤ v)
