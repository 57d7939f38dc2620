-- The table of nodes: the entry that a node has in it, and the site that a list of links stands for.
use Rattle.std.specs.Prelude.{ℕ, List, [], map, Option, None, slice_index_or}
use Rattle.graph.specs.Model.{Model}
use Rattle.site.specs.declared.link.Link.{Link}
use Rattle.site.specs.declared.node.Node.{Node}

-- the two nodes that a link joins
abbrev pub ends : Link → ℕ × ℕ
ends l = (l.a, l.b)

-- the site that a number of nodes, a root and a list of links stand for
abbrev pub site_of : ℕ → ℕ → List Link → Model
site_of n r ls = record { nodes = n; root = r; links = map ends ls }

-- an entry with these neighbours, so many arcs before its own, and this distance
abbrev pub made : List ℕ → ℕ → Option ℕ → Node
made ps a d = record { ports = record { items = ps }; first_arc = a; distance = d }

-- an entry with no ports, that is not reached
abbrev pub blank : Node
blank = made [] 0 None

-- the entry of a node; past the table a blank one
abbrev pub entry : List Node → ℕ → Node
entry ns v = slice_index_or ns v blank
