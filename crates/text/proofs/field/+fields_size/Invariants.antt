use Rattle.std.proofs.Common.{length}
use Rattle.text.proofs.field.+fields_size.Given as goal

abbrev pub decreases-fields_size : goal.decreases-fields_size
decreases-fields_size l = length l.fields.now
