use Rattle.std.proofs.Common.{arith}
use Rattle.std.proofs.lemmas.Grind.{common_steps}
use Rattle.site.proofs.Marks.{mark_stuck}
use Rattle.site.proofs.levels.search.Goals as goal

pub returns-then-not-spread : goal.returns-then-not-spread
returns-then-not-spread c m d = grind (arith, common_steps, c.spread.ensures m, c.loop-level.invariant m d, mark_stuck m d.0 c.loop-level.level)
