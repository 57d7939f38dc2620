-- A site as plain data, and what is said of it: ports, arcs, walks to the root, distances.
use Rattle.std.specs.Prelude.{◌≡◌, ℕ, zero, suc, ◌+◌, ◌<◌, ◌≤◌, max, Bool, false, cond, ◌||◌, List, [], ◌∷◌, length, ◌==◌}
use Rattle.lists.specs.Members.{Among, Once}

-- the nodes are the numbers below `nodes`; each link is the pair of the nodes that it joins
pub record Model : Type 0 where
  pub nodes : ℕ
  pub root : ℕ
  pub links : List (ℕ × ℕ)

-- the ports of a node: the other ends of its links, in list order
abbrev pub ports_of : List (ℕ × ℕ) → ℕ → List ℕ
ports_of [] v = []
ports_of (l ∷ ls) v = cond (l.0 == v) (l.1 ∷ ports_of ls v) (cond (l.1 == v) (l.0 ∷ ports_of ls v) (ports_of ls v))

abbrev pub ports : Model → ℕ → List ℕ
ports m v = ports_of m.links v

-- arcs are all ports, numbered node by node and port by port: how many stand before those of v
abbrev pub arcs_before : Model → ℕ → ℕ
arcs_before m zero = 0
arcs_before m (suc v) = arcs_before m v + length (ports m v)

abbrev pub arcs : Model → ℕ
arcs m = arcs_before m m.nodes

-- a walk of k links leads from v to the root
abbrev pub Walk : Model → ℕ → ℕ → Type 0
Walk m zero v = v ≡ m.root
Walk m (suc k) v = (u : ℕ) × Among u (ports m v) × Walk m k u

-- every node can be reached from the root
abbrev pub Reached : Model → Type 0
Reached m = (v : ℕ) → v < m.nodes → (k : ℕ) × Walk m k v

-- d is the fewest links from v to the root
pub record Distance (m : Model) (v d : ℕ) : Type 0 where
  pub way : Walk m d v
  pub least : (e : ℕ) → Walk m e v → d ≤ e

-- h is the greatest distance
pub record Greatest (m : Model) (h : ℕ) : Type 0 where
  pub most : (v d : ℕ) → v < m.nodes → Distance m v d → d ≤ h
  pub taken : (v : ℕ) × (v < m.nodes) × Distance m v h

-- what a list of links keeps, whether or not all nodes are linked yet
pub record Drawn (m : Model) : Type 0 where
  pub some : 1 ≤ m.nodes
  pub limit : m.nodes ≤ 256
  pub rooted : m.root < m.nodes
  pub ordered : (a b : ℕ) → Among (a, b) m.links → (a < b) × (b < m.nodes)
  pub once : Once m.links
  pub few : (v : ℕ) → v < m.nodes → length (ports m v) ≤ 8

-- what every site keeps
pub record Proper (m : Model) : Type 0 where
  pub drawn : Drawn m
  pub reached : Reached m

-- whether some element passes
abbrev pub any : (ℕ → Bool) → List ℕ → Bool
any p [] = false
any p (x ∷ xs) = p x || any p xs

-- whether a walk of at most k links leads from v to the root
unfoldable pub within : Model → ℕ → ℕ → Bool
within m zero v = v == m.root
within m (suc k) v = within m k v || any (within m k) (ports m v)

-- how many of the numbers below k are lengths within which v is not reached
unfoldable pub misses : Model → ℕ → ℕ → ℕ
misses m v zero = 0
misses m v (suc k) = cond (within m k v) 0 1 + misses m v k

-- the distance of a node, and the greatest, as functions: in a proper site they are the Distance and the Greatest
unfoldable pub distance : Model → ℕ → ℕ
distance m v = misses m v m.nodes

unfoldable pub greatest : Model → ℕ → ℕ
greatest m zero = 0
greatest m (suc v) = max (distance m v) (greatest m v)

unfoldable pub height : Model → ℕ
height m = greatest m m.nodes
