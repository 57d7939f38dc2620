use Rattle.std.proofs.Common.{◌≡◌, ◌+◌, ◌≤◌, drop}
use Rattle.site.specs.Sites.{model}
use Rattle.protocol.specs.Rank.{put, slots}
use Rattle.registers.specs.Blocks.{held}
use Rattle.registers.specs.Lists.{Changed}
use Rattle.layers.specs.Below.{told}
use Rattle.layers.proofs.rank.fill.Given as goal

abbrev pub invariant-loop-j : goal.invariant-loop-j
invariant-loop-j g l =
    let t = told g.P.Silent l.below (model l.site) in
    let place = l.first + l.j in
    (l.next ≤ l.n)
    × (put (held l.own) place (slots l.n t l.v l.next (drop l.j l.ports)) ≡ put (held l.initial.own) l.first (slots l.n t l.v (l.rank + 1) l.ports))
    × Changed (held l.initial.own) l.changed (held l.own)
    × (drop place (held l.own) ≡ drop place (held l.initial.own))
