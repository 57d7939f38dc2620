-- What the search from the root finds, level by level, for every model that a table of nodes is of.
use Rattle.std.specs.Prelude.{◌≡◌, ℕ, suc, ◌<◌, ◌≤◌, Bool, false, cond, ◌&&◌, List, length, Option, None, Some, is_none, nat_le}
use Rattle.std.specs.List.{list_any}
use Rattle.graph.specs.Model.{Model, Drawn, Proper, Reached, ports, within, misses, arcs_before}
use Rattle.site.specs.declared.node.Node.{Node}
use Rattle.site.specs.Kept.{Highest, Table, filled, ported}
use Rattle.site.specs.Table.{entry, made}

-- the distance that a node has after k levels, if it is within k
unfoldable pub mark : Model → ℕ → ℕ → Option ℕ
mark m k v = cond (within m k v) (Some (misses m v k)) None

-- whether the distance is there and at most k
abbrev pub at_most : ℕ → Option ℕ → Bool
at_most k None = false
at_most k (Some d) = nat_le d k

-- whether an entry says that its node is reached, at the level or nearer
abbrev pub near : ℕ → Node → Bool
near k d = at_most k d.distance

-- whether a node is not reached yet and has a neighbour at the level or nearer
abbrev pub next : ℕ → List Node → ℕ → Bool
next k ns v = is_none (entry ns v).distance && list_any (λ u. near k (entry ns u)) (entry ns v).ports.items

-- a node's entry after k levels
abbrev pub marked : ℕ → Model → ℕ → Node
marked k m v = made (ports m v) 0 (mark m k v)

-- a node's entry after all levels, with the number of the arcs before its own
abbrev pub numbered : Model → ℕ → Node
numbered m v = made (ports m v) (arcs_before m v) (mark m m.nodes v)

-- the list has these entries, for as many nodes as the model has
abbrev pub Drawing : (Model → ℕ → Node) → Model → List Node → Type 0
Drawing e m ns = Drawn m × (length ns ≡ m.nodes) × Table e m ns

-- one level more: the table before, whether a node was added, the table after
abbrev pub Spread : ℕ → List Node → Bool → List Node → Type 0
Spread k ns r es =
    (m : Model) → Drawing (marked k) m ns
    → Table (marked (suc k)) m es × (r ≡ false → (v : ℕ) → v < m.nodes → within m (suc k) v ≡ within m k v)

-- all levels: the table at the start, the table at the end
abbrev pub Searched : List Node → List Node → Type 0
Searched ns es = (m : Model) → Drawing (marked 0) m ns → Table (marked m.nodes) m es

-- the numbers of the arcs: the table before, the table after
abbrev pub Counted : List Node → List Node → Type 0
Counted ns es = (m : Model) → Drawing (marked m.nodes) m ns → Table numbered m es

-- some node is not reached, or this is the greatest distance
abbrev pub Tallest : List Node → Option ℕ → Type 0
Tallest ns None = (v : ℕ) × (v < length ns) × ((entry ns v).distance ≡ None)
Tallest ns (Some h) =
    ((v : ℕ) → v < length ns → (d : ℕ) × ((entry ns v).distance ≡ Some d) × (d ≤ h))
    × (0 < length ns → (v : ℕ) × (v < length ns) × ((entry ns v).distance ≡ Some h))

-- some node cannot be reached, or every one can, this is the height, and the table is complete
abbrev pub Complete : Model → List Node → Option ℕ → Type 0
Complete m ns None = Reached m → ⊥
Complete m ns (Some h) = Proper m × Highest m h × Table filled m ns

-- the root, the table of the ports, the height, the table at the end
abbrev pub Surveyed : ℕ → List Node → Option ℕ → List Node → Type 0
Surveyed r ns h es = (m : Model) → m.root ≡ r → Drawing ported m ns → Complete m es h
