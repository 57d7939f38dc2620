-- Kinds of lines: their bytes have no line feed, are short, and tell the line.
use Rattle.std.specs.Prelude.{◌≡◌, ◌≤◌, [], ◌∷◌, length}
use Rattle.std.proofs.Common.{lit≤}
use Rattle.text.specs.declared.field.Field.TheVariants.{Value, Word}
use Rattle.text.specs.declared.field.Keyword.TheVariants.{Contents}
use Rattle.text.specs.declared.field.Keyword.TheVariants as word
use Rattle.text.specs.declared.report.ReportLine.{ReportLine}
use Rattle.text.specs.declared.report.ReportLine.TheVariants as report
use Rattle.text.specs.declared.report.Tally.{Tally}
use Rattle.text.specs.declared.report.NodeLine.{NodeLine}
use Rattle.text.specs.declared.report.RefusedLine.{RefusedLine}
use Rattle.text.specs.declared.records.LinkLine.{LinkLine}
use Rattle.text.specs.declared.records.FaultLine.{FaultLine}
use Rattle.text.specs.declared.records.TurnLine.{TurnLine}
use Rattle.text.specs.declared.contents.ContentsLine.{ContentsLine}
use Rattle.text.specs.Fields.{pair, headed}
use Rattle.text.specs.Lines.{link_bytes, fault_bytes, turn_bytes, contents_bytes, tally_bytes, node_bytes, refused_bytes, report_bytes, node_fields}
use Rattle.text.specs.Page.{Lacks}
use Rattle.text.specs.FieldsLemmas.{five_short, line_plain, pair_once, contents_once}
use Rattle.text.specs.Numbers.{written_once}

pub link_plain : (x : LinkLine) → Lacks 10 (link_bytes x)
link_plain x = line_plain (pair x.a x.b)

pub fault_plain : (x : FaultLine) → Lacks 10 (fault_bytes x)
fault_plain x = line_plain (pair x.register x.value)

pub turn_plain : (x : TurnLine) → Lacks 10 (turn_bytes x)
turn_plain x = line_plain (Value x.node ∷ [])

pub contents_plain : (x : ContentsLine) → Lacks 10 (contents_bytes x)
contents_plain x = line_plain (headed (Contents x.word) x.number)

pub tally_plain : (x : Tally) → Lacks 10 (tally_bytes x)
tally_plain x = line_plain (headed (word.Tally x.word) x.number)

pub node_plain : (x : NodeLine) → Lacks 10 (node_bytes x)
node_plain x = line_plain (node_fields x)

pub refused_plain : (x : RefusedLine) → Lacks 10 (refused_bytes x)
refused_plain x = line_plain (Word word.Refused ∷ pair x.number x.line)

pub report_plain : (x : ReportLine) → Lacks 10 (report_bytes x)
report_plain (report.Tally x) = tally_plain x
report_plain (report.Node x) = node_plain x
report_plain (report.Refused x) = refused_plain x

pub link_short : (x : LinkLine) → length (link_bytes x) ≤ 63
link_short x = five_short (pair x.a x.b) (lit≤ tt)

pub fault_short : (x : FaultLine) → length (fault_bytes x) ≤ 63
fault_short x = five_short (pair x.register x.value) (lit≤ tt)

pub turn_short : (x : TurnLine) → length (turn_bytes x) ≤ 63
turn_short x = five_short (Value x.node ∷ []) (lit≤ tt)

pub contents_short : (x : ContentsLine) → length (contents_bytes x) ≤ 63
contents_short x = five_short (headed (Contents x.word) x.number) (lit≤ tt)

pub tally_short : (x : Tally) → length (tally_bytes x) ≤ 63
tally_short x = five_short (headed (word.Tally x.word) x.number) (lit≤ tt)

pub node_short : (x : NodeLine) → length (node_bytes x) ≤ 63
node_short x = five_short (node_fields x) (lit≤ tt)

pub refused_short : (x : RefusedLine) → length (refused_bytes x) ≤ 63
refused_short x = five_short (Word word.Refused ∷ pair x.number x.line) (lit≤ tt)

pub report_short : (x : ReportLine) → length (report_bytes x) ≤ 63
report_short (report.Tally x) = tally_short x
report_short (report.Node x) = node_short x
report_short (report.Refused x) = refused_short x

pub same_link : (x y : LinkLine) → link_bytes x ≡ link_bytes y → x ≡ y
same_link x y e = let h = pair_once x.a x.b y.a y.b e in λ i. record { a = h.0 i; b = h.1 i }

pub same_fault : (x y : FaultLine) → fault_bytes x ≡ fault_bytes y → x ≡ y
same_fault x y e =
    let h = pair_once x.register x.value y.register y.value e in λ i. record { register = h.0 i; value = h.1 i }

pub same_turn : (x y : TurnLine) → turn_bytes x ≡ turn_bytes y → x ≡ y
same_turn x y e = let h = written_once x.node y.node e in λ i. record { node = h i }

pub same_contents : (x y : ContentsLine) → contents_bytes x ≡ contents_bytes y → x ≡ y
same_contents x y e =
    let h = contents_once x.word y.word x.number y.number e in λ i. record { word = h.0 i; number = h.1 i }
