use Rattle.std.proofs.Common.{List, subst}
use Rattle.text.specs.Lines.{contents_bytes}
use Rattle.text.specs.declared.contents.ContentsLine.{ContentsLine}
use Rattle.sheet.specs.Body.{BodyChecked}
use Rattle.sheet.specs.Kinds.{contents_rules}
use Rattle.sheet.proofs.Checked.{contents_checked}
use Rattle.sheet.proofs.check.check_contents.Goals as goal

pub returns : goal.returns
returns c =
    contents_checked c.args.contents c.check_body.result
    (subst (λ (hs : List ContentsLine). BodyChecked contents_bytes contents_rules 0 hs 0 c.check_body.result) c.heads-heads.ensures (c.check_body.ensures.checked 0 c.new-progress.ensures))
