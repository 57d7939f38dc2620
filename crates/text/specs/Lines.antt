-- The bytes of each kind of line, without the line feed.
use Rattle.std.specs.Prelude.{ℕ, List, [], ◌∷◌}
use Rattle.text.specs.declared.field.Field.{Field}
use Rattle.text.specs.declared.field.Field.TheVariants.{Word, Value}
use Rattle.text.specs.declared.field.Keyword.TheVariants.{Contents, Refused}
use Rattle.text.specs.declared.field.Keyword.TheVariants.{Tally as Told}
use Rattle.text.specs.declared.records.LinkLine.{LinkLine}
use Rattle.text.specs.declared.records.FaultLine.{FaultLine}
use Rattle.text.specs.declared.records.TurnLine.{TurnLine}
use Rattle.text.specs.declared.contents.ContentsLine.{ContentsLine}
use Rattle.text.specs.declared.report.Tally.{Tally}
use Rattle.text.specs.declared.report.RefusedLine.{RefusedLine}
use Rattle.text.specs.declared.report.NodeLine.{NodeLine}
use Rattle.text.specs.declared.report.ReportLine.{ReportLine}
use Rattle.text.specs.declared.report.ReportLine.TheVariants as report
use Rattle.text.specs.Fields.{line_of, pair, headed, optional}

-- `a;b`
abbrev pub link_bytes : LinkLine → List ℕ
link_bytes x = line_of (pair x.a x.b)

-- `register;value`
abbrev pub fault_bytes : FaultLine → List ℕ
fault_bytes x = line_of (pair x.register x.value)

-- `node`
abbrev pub turn_bytes : TurnLine → List ℕ
turn_bytes x = line_of (Value x.node ∷ [])

-- `WORD;number`
abbrev pub contents_bytes : ContentsLine → List ℕ
contents_bytes x = line_of (headed (Contents x.word) x.number)

-- `WORD;number`
abbrev pub tally_bytes : Tally → List ℕ
tally_bytes x = line_of (headed (Told x.word) x.number)

-- `REFUSED;number;line`
abbrev pub refused_bytes : RefusedLine → List ℕ
refused_bytes x = line_of (Word Refused ∷ pair x.number x.line)

-- node, parent, count, rank and mate
abbrev pub node_fields : NodeLine → List Field
node_fields x = Value x.node ∷ (optional x.parent ∷ (Value x.count ∷ (Value x.rank ∷ (optional x.mate ∷ []))))

-- `node;parent;count;rank;mate`, with `-` for none
abbrev pub node_bytes : NodeLine → List ℕ
node_bytes x = line_of (node_fields x)

-- a line of a report, by its kind
abbrev pub report_bytes : ReportLine → List ℕ
report_bytes (report.Tally x) = tally_bytes x
report_bytes (report.Node x) = node_bytes x
report_bytes (report.Refused x) = refused_bytes x
