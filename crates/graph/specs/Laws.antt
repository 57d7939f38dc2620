-- The theorems about sites: which ports, links and arcs they have, and that what is computed of them is what is meant.
use Rattle.std.specs.Prelude.{◌≡◌, ℕ, ◌*◌, ◌<◌, ◌≤◌, true, length, ◌≢◌}
use Rattle.lists.specs.Members.{Among, Once}
use Rattle.graph.specs.Model.{Model, ports, arcs, Reached, Distance, Greatest, Drawn, Proper, within, distance, height}

-- a node's ports lead to different nodes, other than itself, and each of those has a port back
abbrev pub PortsPair : Type 0
PortsPair = (m : Model) → Drawn m → (v : ℕ) → Once (ports m v) × ((u : ℕ) → Among u (ports m v) → (u ≢ v) × (u < m.nodes) × Among v (ports m u))

-- there are twice as many arcs as links
abbrev pub Handshake : Type 0
Handshake = (m : Model) → Drawn m → arcs m ≡ 2 * length m.links

-- there are at most four links for each node
abbrev pub LinksFew : Type 0
LinksFew = (m : Model) → Drawn m → length m.links ≤ 4 * m.nodes

-- every node is reached exactly where walks of as many links as there are nodes reach it
abbrev pub ReachedTold : Type 0
ReachedTold = (m : Model) → Drawn m → (Reached m → (v : ℕ) → v < m.nodes → within m m.nodes v ≡ true) × (((v : ℕ) → v < m.nodes → within m m.nodes v ≡ true) → Reached m)

-- what is computed of each node is its distance
abbrev pub DistancesAre : Type 0
DistancesAre = (m : Model) → Proper m → (v : ℕ) → v < m.nodes → Distance m v (distance m v)

-- a node has one distance
abbrev pub DistanceUnique : Type 0
DistanceUnique = (m : Model) (v d e : ℕ) → Distance m v d → Distance m v e → d ≡ e

-- a distance is less than the number of nodes
abbrev pub DistancesBelow : Type 0
DistancesBelow = (m : Model) → Proper m → (v d : ℕ) → Distance m v d → d < m.nodes

-- what is computed of the site is its greatest distance
abbrev pub HeightIs : Type 0
HeightIs = (m : Model) → Proper m → Greatest m (height m)

-- a site has one greatest distance
abbrev pub HeightUnique : Type 0
HeightUnique = (m : Model) (g h : ℕ) → Greatest m g → Greatest m h → g ≡ h

pub record Laws : Type 0 where
  pub ports_pair : PortsPair
  pub handshake : Handshake
  pub links_few : LinksFew
  pub reached_told : ReachedTold
  pub distances_are : DistancesAre
  pub distance_unique : DistanceUnique
  pub distances_below : DistancesBelow
  pub height_is : HeightIs
  pub height_unique : HeightUnique
