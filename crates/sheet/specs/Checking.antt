-- What the writer finds of contents and lists before it writes: what reading them would find.
use Rattle.std.specs.Prelude.{◌≡◌, ℕ, ◌+◌, ◌<◌, ◌≤◌, List, [], ◌++◌, length, Ok, Err, Result}
use Rattle.graph.specs.Model.{Reached}
use Rattle.text.specs.Lines.{contents_bytes, link_bytes, turn_bytes}
use Rattle.text.specs.Spots.{Spot}
use Rattle.text.specs.declared.records.LinkLine.{LinkLine}
use Rattle.text.specs.declared.records.TurnLine.{TurnLine}
use Rattle.sheet.specs.declared.contents.Contents.{Contents}
use Rattle.sheet.specs.declared.fault.SheetFault.{SheetFault}
use Rattle.sheet.specs.Body.{Good, refused}
use Rattle.text.specs.Written.{lines_of}
use Rattle.sheet.specs.Judge.{Declines, Lists, Named, Sheet, contents, link_lines, lines, places, turn_lines}
use Rattle.sheet.specs.Kinds.{fault_rules, link_rules, site_of, turn_rules}
use Rattle.sheet.specs.Sheets.{Proper, Within, body_bytes, heads, sheet_bytes}

-- the place where lines stand, after so many others and before any text
abbrev pub ahead : {X : Type 0} → (X → List ℕ) → List X → ℕ → List ℕ → Spot
ahead bytes xs line more = record { rest = lines_of bytes xs ++ more; line = line }

-- the contents numbers
abbrev pub ContentsChecked : Contents → Result (Unit {0}) SheetFault → Type 0
ContentsChecked ns (Ok u) = Within ns
ContentsChecked ns (Err e) = (more : List ℕ) → contents (ahead contents_bytes (heads ns) 0 more) (refused e)

-- the link lines after the four of the contents
abbrev pub LinksChecked : Contents → List LinkLine → Result (Unit {0}) SheetFault → Type 0
LinksChecked ns ls (Ok u) = Good link_rules ns.nodes.value [] ls × Reached (site_of ns.nodes.value ls)
LinksChecked ns ls (Err e) = (more : List ℕ) → link_lines ns (ahead link_bytes ls 4 more) (refused e)

-- the turn lines after so many others
abbrev pub TurnsChecked : Contents → List TurnLine → ℕ → Result (Unit {0}) SheetFault → Type 0
TurnsChecked ns ts line (Ok u) = Good turn_rules ns.nodes.value [] ts × (0 < length ts → Named ns.nodes.value ts)
TurnsChecked ns ts line (Err e) = (more : List ℕ) → turn_lines ns (ahead turn_bytes ts line more) (refused e)

-- the lines after the contents
abbrev pub LinesChecked : Contents → Lists → Result (Unit {0}) SheetFault → Type 0
LinesChecked ns l (Ok u) =
    LinksChecked ns l.links (Ok tt) × Good fault_rules (places ns) [] l.faults × TurnsChecked ns l.turns (4 + length l.links + length l.faults) (Ok tt)
LinesChecked ns l (Err e) = lines ns (record { rest = body_bytes l; line = 4 }) (refused e)

-- each list has as many lines as the contents say, if that is within its limit
abbrev pub Counts : Contents → Lists → Type 0
Counts ns l =
    (ns.links.value ≤ 1024 → length l.links ≡ ns.links.value) × (ns.faults.value ≤ 4096 → length l.faults ≡ ns.faults.value)
    × (ns.turns.value ≤ 1024 → length l.turns ≡ ns.turns.value)

-- a sheet that is not too large
abbrev pub SheetChecked : Sheet → Result (Unit {0}) SheetFault → Type 0
SheetChecked s (Ok u) = length (sheet_bytes s) ≤ 65536 → Proper s
SheetChecked s (Err e) = length (sheet_bytes s) ≤ 65536 → Declines (sheet_bytes s) e
