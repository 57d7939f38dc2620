-- A daemon as plain data: within how many askings each node is named, and what an asking makes of that.
use Rattle.std.specs.Prelude.{◌≡◌, ℕ, ◌<◌, ◌≢◌}
use Rattle.rounds.specs.Patience.{DueWithin}

-- what a daemon is at a time: its nodes are the numbers below `nodes`, and a node v is named within `due v` askings
pub record Dues : Type 0 where
  pub nodes : ℕ
  pub patience : ℕ
  pub due : ℕ → ℕ

-- every node's due is 1 to the patience
abbrev pub Timely : Dues → Type 0
Timely d = DueWithin d.nodes d.patience d.due

-- what an asking makes of the dues a: it names the node v, and leaves the dues z, where every other node's due is less
pub record Asked (a : Dues) (v : ℕ) (z : Dues) : Type 0 where
  pub named : v < a.nodes
  pub nodes : z.nodes ≡ a.nodes
  pub patience : z.patience ≡ a.patience
  pub falls : (u : ℕ) → u < a.nodes → (u ≢ v) → z.due u < a.due u
  pub timely : Timely z
