use Rattle.std.proofs.Common.{◌∙◌, sym}
use Rattle.text.specs.Cuts.{cut_once, no_cut}
use Rattle.text.proofs.field.read_two.Goals as goal

pub returns-in_err-left : goal.returns-in_err-left
returns-in_err-left g c = rw c.from_residual.ensures (λ x y e. no_cut 59 c.args.line.now _ _ c.in_err-left.ensures e)

pub returns-in_err-read_field : goal.returns-in_err-read_field
returns-in_err-read_field g c =
    let l = c.in_ok-left.ensures in
    rw c.from_residual-in_err-read_field.ensures (λ x y e. c.in_err-read_field.ensures x (cut_once 59 _ _ _ _ l.1 (g.met.A.ReadField.whole x) (sym l.0 ∙ e)).0)

pub returns-in_err-read_field-2 : goal.returns-in_err-read_field-2
returns-in_err-read_field-2 g c =
    let l = c.in_ok-left.ensures in
    rw c.from_residual-in_err-read_field-2.ensures (λ x y e. c.in_err-read_field-2.ensures y (cut_once 59 _ _ _ _ l.1 (g.met.A.ReadField.whole x) (sym l.0 ∙ e)).1)
