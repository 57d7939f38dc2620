-- The checks of each kind of line, in order.
use Rattle.std.specs.Prelude.{ℕ, ◌<◌, ◌≤◌, List, [], ◌∷◌, map, length, ◌≢◌}
use Rattle.refusal.specs.declared.Refusal.TheVariants.{Form, Limit, Place, Node}
use Rattle.graph.specs.Model.{Model}
use Rattle.site.specs.Entering.{link_checks}
use Rattle.text.specs.declared.records.LinkLine.{LinkLine}
use Rattle.text.specs.declared.records.FaultLine.{FaultLine}
use Rattle.text.specs.declared.records.TurnLine.{TurnLine}
use Rattle.text.specs.declared.contents.Word.{Word}
use Rattle.text.specs.declared.contents.Word.TheVariants.{Nodes, Links, Faults, Turns}
use Rattle.text.specs.declared.contents.ContentsLine.{ContentsLine}
use Rattle.sheet.specs.Body.{Rules}

-- the contents' words in order, and the limits of their numbers
abbrev pub order : Word → ℕ
order Nodes = 0
order Links = 1
order Faults = 2
order Turns = 3

abbrev pub least : Word → ℕ
least Nodes = 1
least Links = 0
least Faults = 0
least Turns = 0

abbrev pub most : Word → ℕ
most Nodes = 256
most Links = 1024
most Faults = 4096
most Turns = 1024

-- a contents line: its word is the next in order; its number is within the word's limits
abbrev pub contents_rules : Rules ContentsLine
contents_rules k before x =
    (Form, (order x.word ≢ length before)) ∷ ((Limit, ((least x.word ≤ x.number.value) × (x.number.value ≤ most x.word) → ⊥)) ∷ [])

-- the site of n nodes with the links of these lines
abbrev pub ends : LinkLine → ℕ × ℕ
ends x = (x.a.value, x.b.value)

abbrev pub site_of : ℕ → List LinkLine → Model
site_of n ls = record { nodes = n; root = 0; links = map ends ls }

-- a link line: the checks of a link that is entered into the site so far
abbrev pub link_rules : Rules LinkLine
link_rules n before x = link_checks (site_of n before) x.a.value x.b.value

-- a fault line: its value fits 16 bits; its place is below the number of registers, k
abbrev pub fault_rules : Rules FaultLine
fault_rules k before x = (Limit, 65535 < x.value.value) ∷ ((Place, k ≤ x.register.value) ∷ [])

-- a turn line: its node is below the number of nodes, n
abbrev pub turn_rules : Rules TurnLine
turn_rules n before x = (Node, n ≤ x.node.value) ∷ []
