use Rattle.std.proofs.Common.{◌≡◌, ℕ, ◌+◌, List, ◌∷◌, ◌++◌, Option, Some, None, Ok, ap, ◌∙◌}
use Rattle.std.specs.Option.{ok_or}
use Rattle.text.specs.declared.fault.ScanFault.TheVariants.{Form}
use Rattle.text.specs.declared.reader.Reader.{Reader}
use Rattle.text.specs.Line.{Accepts}
use Rattle.text.specs.Page.{Lacks}
use Rattle.text.specs.Spots.{spot, Cut, Got}
use Rattle.text.proofs.Spots.{not_form}
use Rattle.text.proofs.reader.Reader.read.Goals as goal

was_some : {A E : Type 0} (o : Option A) (e : E) (x : A) → Ok x ≡ ok_or o e → o ≡ Some x
was_some (Some y) e x h = cc
was_some None e x h = cc

got :
    {X : Type 0} (bytes : X → List ℕ) (plain : (x : X) → Lacks 10 (bytes x)) (a z : Reader) (line : List ℕ) (r : Option X) → Cut a (Some line) z
    → Accepts bytes line r → Got bytes a (ok_or r (Form (a.line + 1))) z
got bytes plain a z line (Some x) cut same = (cut.0 ∙ ap (λ (l : List ℕ). l ++ (10 ∷ (spot z).rest)) same, cut.2)
got bytes plain a z line None cut not = (not_form bytes plain (spot a) line (spot z).rest cut.0 cut.1 not, (line, cut.0, cut.1, cut.2))

pub returns : goal.returns
returns g c =
    rw (c.ok_or-2.ensures.value)
    (got g.R.WriteLine.bytes g.met.R.WriteLine.plain c.args.self.now c.next.new.self c.in_ok-line.line.now c.read.result (rw (was_some c.next.result _ c.in_ok-line.line c.in_ok-line.ensures.value) at c.next.ensures) c.read.ensures)
