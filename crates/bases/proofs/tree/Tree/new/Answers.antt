use Rattle.std.proofs.Common.{◌++◌, ◌∙◌, ap₂}
use Rattle.std.proofs.lemmas.List.{replicate-append-replicate}
use Rattle.registers.specs.Fronts.{front_zero}
use Rattle.bases.proofs.tree.Tree.new.Goals as goal

pub returns : goal.returns
returns c = λ m p.
    let n = m.nodes in
    let few = p.drawn.limit in
    ap₂ ◌++◌ (front_zero n c.in_ok-distances.distances few c.in_ok-distances.ensures) (front_zero n c.in_ok-parents.parents few c.in_ok-parents.ensures) ∙ replicate-append-replicate n n 0
