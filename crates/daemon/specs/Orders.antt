-- The order in which a round robin and a script name the nodes, whatever they were asked before.
use Rattle.std.specs.Prelude.{◌≡◌, ℕ, ◌+◌, ◌%◌, ◌<◌, List, length, slice_index}
use Rattle.daemon.specs.declared.robin.RoundRobin.{RoundRobin}
use Rattle.daemon.specs.declared.script.Script.{Script}
use Rattle.daemon.specs.Dues.{Run}
use Rattle.daemon.specs.RoundRobins.{RobinAsked}
use Rattle.daemon.specs.Scripts.{ScriptAsked, names_of}

-- asking k, from 0, names the node that is k after the one that was next
abbrev pub RobinOrder : Type 0
RobinOrder = (a z : RoundRobin) (vs : List ℕ) → Run RobinAsked a vs z → (k : ℕ) → k < length vs → slice_index vs k ≡ (a.next + k) % a.nodes

-- asking k, from 0, names what stands k after the place, again and again
abbrev pub ScriptOrder : Type 0
ScriptOrder = (a z : Script) (vs : List ℕ) → Run ScriptAsked a vs z → (k : ℕ) → k < length vs → slice_index vs k ≡ slice_index (names_of a) ((a.at + k) % length (names_of a))
