use Rattle.site.specs.Sites.{draft}
use Rattle.sheet.proofs.Linking.{link_entered}
use Rattle.sheet.proofs.kinds.LinkLineSheetLine.enter.Goals as goal

pub returns : goal.returns
returns c k before e = link_entered k before c.args.self (draft c.args.into.now) _ _ c.enter.result c.enter.new.self e c.get.ensures c.get-2.ensures c.enter.ensures
