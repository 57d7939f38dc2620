use Rattle.text.proofs.scan.split_line.Goals as goal

pub returns : goal.returns
returns c = c.around.ensures 10 c.line_end.ensures
