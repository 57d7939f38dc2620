use Rattle.text.proofs.scan.split_field.Goals as goal

pub returns : goal.returns
returns c = c.around.ensures 59 c.field_end.ensures
