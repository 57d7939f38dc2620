use Rattle.std.proofs.Common.{◌<◌, arith}
use Rattle.std.proofs.lemmas.Grind.{common_steps}
use Rattle.site.proofs.Marks.{level_adds, level_leaves}
use Rattle.site.proofs.Partial.{partly_next}
use Rattle.site.proofs.levels.spread.Goals as goal

pub loop-v-preserved : goal.loop-v-preserved
loop-v-preserved c m d =
    let k = c.args.level in
    let i = c.loop-v.v in
    let inv = c.loop-v.invariant m d in
    let l : i < m.nodes = let a = d.1 in let b = c.loop-v-test.true in omega arith in
    let test = partly_next m k d.0 i c.loop-v.nodes l inv.0 in
    grind (arith, common_steps, test, inv, level_adds m k i, level_leaves m k i)
