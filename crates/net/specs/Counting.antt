-- What a turn and a fault make of the counters.
use Rattle.std.specs.Prelude.{◌≡◌, ℕ, ◌+◌, ◌<◌, Bool, false, cond}
use Rattle.rounds.specs.Marks.{Counts}
use Rattle.net.specs.declared.counters.Counters.{Counters}
use Rattle.net.specs.Marking.{has}

-- nothing counted, of n nodes
pub record Cleared (n : ℕ) (z : Counters) : Type 0 where
  pub nodes : z.nodes ≡ n
  pub turns : z.turns ≡ 0
  pub rounds : z.rounds ≡ 0
  pub last : z.last_change ≡ 0
  pub named : (w : ℕ) → w < 256 → has z.named w ≡ false

-- a turn of v counted
pub record Counted (a : Counters) (v : ℕ) (changed : Bool) (z : Counters) : Type 0 where
  pub nodes : z.nodes ≡ a.nodes
  pub turns : z.turns ≡ a.turns + 1
  pub last : z.last_change ≡ cond changed (a.rounds + 1) a.last_change
  pub counts : Counts a.nodes v a.rounds (has a.named) z.rounds (has z.named)
