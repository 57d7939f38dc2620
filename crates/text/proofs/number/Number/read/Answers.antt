use Rattle.std.proofs.Common.{None, Some}
use Rattle.text.specs.DigitsLemmas.{reads}
use Rattle.text.proofs.number.Number.read.Goals as goal

pub returns-in_err-value : goal.returns-in_err-value
returns-in_err-value c = rw (c.from_residual.ensures) (λ x e. reads _ None (c.in_err-value.ensures) x.value x.five e)

pub returns : goal.returns
returns c = (reads c.args.field.now (Some c.in_ok-value.value) c.in_ok-value.ensures).1
