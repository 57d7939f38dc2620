use Rattle.std.proofs.Common.{zero-add, subst, rules, arith}
use Rattle.text.specs.Written.{Within}
use Rattle.std.proofs.iter.Yields.{fronts}
use Rattle.std.proofs.lemmas.Iterator.{YieldsList-from_slice}
use Rattle.text.proofs.Written.{counted}
use Rattle.text.proofs.lines.lines_size.Goals as goal

pub returns : goal.returns
returns g c =
    let a = c.try_fold.ensures.ran in
    subst (λ n. Within n c.args.most c.try_fold.result) (zero-add _)
    (counted g.L.WriteLine.bytes fronts (λ y. y.now) _ c.args.most _ (λ n x r q h. search rules) _ c.args.lines.now c.iter.result (YieldsList-from_slice {s = c.iter.result} c.args.lines.now c.iter.ensures.rest).runs 0 (omega arith) c.try_fold.result c.try_fold.new.self a.0 a.1 a.2 a.3 a.4.0 a.4.1 a.4.2 a.5 a.6)
