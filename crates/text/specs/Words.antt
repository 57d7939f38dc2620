-- The words of lines, by their letters.
use Rattle.std.specs.Prelude.{ℕ, List, codes}
use Rattle.text.specs.declared.contents.Word.{Word}
use Rattle.text.specs.declared.contents.Word.TheVariants.{Nodes, Links, Faults, Turns}
use Rattle.text.specs.declared.report.TallyWord.{TallyWord}
use Rattle.text.specs.declared.report.TallyWord.TheVariants.{Bound, Rounds, Last}
use Rattle.text.specs.declared.field.Keyword.{Keyword}
use Rattle.text.specs.declared.field.Keyword.TheVariants.{Contents, Tally, Refused, Absent}

-- the words of the contents
abbrev pub letters : Word → List ℕ
letters Nodes = codes "NODES"
letters Links = codes "LINKS"
letters Faults = codes "FAULTS"
letters Turns = codes "TURNS"

-- the words of a report's numbers
abbrev pub tally_letters : TallyWord → List ℕ
tally_letters Bound = codes "BOUND"
tally_letters Rounds = codes "ROUNDS"
tally_letters Last = codes "LAST"

-- every word
abbrev pub spelling : Keyword → List ℕ
spelling (Contents w) = letters w
spelling (Tally w) = tally_letters w
spelling Refused = codes "REFUSED"
spelling Absent = codes "-"
