-- The judgement of a sheet's bytes, stage by stage: the order of the stages is the order of the checks.
use Rattle.std.specs.Prelude.{◌≡◌, ℕ, ◌+◌, ◌*◌, ◌<◌, ◌⊎◌, List, [], map, length, Err, slice_index_or}
use Rattle.lists.specs.Members.{Among}
use Rattle.refusal.specs.declared.Refusal.{Refusal}
use Rattle.refusal.specs.declared.Refusal.TheVariants.{Limit, Unreached, Missing}
use Rattle.graph.specs.Model.{Reached}
use Rattle.text.specs.Spots.{Spot, AtEnd}
use Rattle.text.specs.Number.{zero_number}
use Rattle.text.specs.declared.records.LinkLine.{LinkLine}
use Rattle.text.specs.declared.records.FaultLine.{FaultLine}
use Rattle.text.specs.declared.records.TurnLine.{TurnLine}
use Rattle.text.specs.declared.contents.Word.TheVariants.{Nodes}
use Rattle.text.specs.declared.contents.ContentsLine.{ContentsLine}
use Rattle.text.specs.declared.fault.ScanFault.{ScanFault}
use Rattle.sheet.specs.declared.fault.SheetFault.{SheetFault}
use Rattle.sheet.specs.declared.fault.SheetFault.TheVariants.{Scan, Refused}
use Rattle.sheet.specs.declared.contents.Contents.{Contents}
use Rattle.sheet.specs.Body.{Body, Out, passed, refused}
use Rattle.text.specs.Lines.{contents_bytes, link_bytes, fault_bytes, turn_bytes}
use Rattle.sheet.specs.Kinds.{contents_rules, link_rules, fault_rules, turn_rules, site_of}

-- one stage, and if it passes the next
abbrev pub and_then : {A B : Type 0} → (Spot → Out A → Type 0) → (A → Spot → Out B → Type 0) → Spot → Out B → Type 0
and_then {A} f g p (passed b r) = (a : A) × ((q : Spot) × f p (passed a q) × g a q (passed b r))
and_then {A} f g p (refused e) = f p (refused e) ⊎ ((a : A) × ((q : Spot) × f p (passed a q) × g a q (refused e)))

-- nothing is read
abbrev pub give : {A : Type 0} → A → Spot → Out A → Type 0
give a p (passed b q) = (b ≡ a) × (q ≡ p)
give a p (refused e) = ⊥

-- refused if P holds, with the last line read
abbrev pub refuse_if : Type 0 → Refusal → Spot → Out (Unit {0}) → Type 0
refuse_if P cause p (passed u q) = (P → ⊥) × (q ≡ p)
refuse_if P cause p (refused e) = P × (e ≡ Refused cause p.line)

-- no bytes follow
abbrev pub ending : Spot → Out (Unit {0}) → Type 0
ending p (passed u q) = (p.rest ≡ []) × (q ≡ p)
ending p (refused e) = (s : ScanFault) × (e ≡ Scan s) × AtEnd p (Err s)

-- the four numbers of the contents
abbrev pub blank : ContentsLine
blank = record { word = Nodes; number = zero_number }

abbrev pub numbers : List ContentsLine → Contents
numbers cs = record { nodes = (slice_index_or cs 0 blank).number; links = (slice_index_or cs 1 blank).number; faults = (slice_index_or cs 2 blank).number; turns = (slice_index_or cs 3 blank).number }

abbrev pub contents : Spot → Out Contents → Type 0
contents = and_then (Body contents_bytes contents_rules 0 4) (λ cs. give (numbers cs))

-- the program's stack has five registers for each node and two for each link
abbrev pub places : Contents → ℕ
places ns = 5 * ns.nodes.value + 2 * ns.links.value

-- every node is named by a turn line
abbrev pub Named : ℕ → List TurnLine → Type 0
Named n ts = (v : ℕ) → v < n → Among v (map (λ t. t.node.value) ts)

-- the lines of a sheet, by kind
pub record Lists : Type 0 where
  pub links : List LinkLine
  pub faults : List FaultLine
  pub turns : List TurnLine

-- the link lines, and after the last that every node can be reached
abbrev pub link_lines : Contents → Spot → Out (List LinkLine) → Type 0
link_lines ns =
    and_then (Body link_bytes link_rules ns.nodes.value ns.links.value) (λ ls.
    and_then (refuse_if (Reached (site_of ns.nodes.value ls) → ⊥) Unreached) (λ _.
    give ls))

-- the turn lines, and after the last that every node is named, if there are any
abbrev pub turn_lines : Contents → Spot → Out (List TurnLine) → Type 0
turn_lines ns =
    and_then (Body turn_bytes turn_rules ns.nodes.value ns.turns.value) (λ ts.
    and_then (refuse_if ((0 < length ts) × (Named ns.nodes.value ts → ⊥)) Missing) (λ _.
    give ts))

-- the lines after the contents: links, faults, turns, and nothing more
abbrev pub lines : Contents → Spot → Out Lists → Type 0
lines ns =
    and_then (link_lines ns) (λ ls.
    and_then (Body fault_bytes fault_rules (places ns) ns.faults.value) (λ fs.
    and_then (turn_lines ns) (λ ts.
    and_then ending (λ _.
    give (record { links = ls; faults = fs; turns = ts })))))

pub record Sheet : Type 0 where
  pub contents : Contents
  pub lists : Lists

abbrev pub start : List ℕ → Spot
start bytes = record { rest = bytes; line = 0 }

-- the size, the contents, the lines
abbrev pub sheet : List ℕ → Out Sheet → Type 0
sheet bytes =
    and_then (refuse_if (65536 < length bytes) Limit) (λ _.
    and_then contents (λ ns.
    and_then (lines ns) (λ ls.
    give (record { contents = ns; lists = ls })))) (start bytes)

-- these bytes are accepted as this sheet; they are declined for this cause
abbrev pub Accepts : List ℕ → Sheet → Type 0
Accepts bytes s = (q : Spot) × sheet bytes (passed s q)

abbrev pub Declines : List ℕ → SheetFault → Type 0
Declines bytes e = sheet bytes (refused e)
