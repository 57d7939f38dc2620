-- Round robins: within how many askings a node is named, and what the calls answer.
use Rattle.std.specs.Prelude.{◌≡◌, ℕ, ◌+◌, ◌-◌, ◌≤◌, cond, [], ◌∷◌, Result, nat_le, nat_lt}
use Rattle.refusal.specs.declared.Refusal.{Refusal}
use Rattle.refusal.specs.declared.Refusal.TheVariants.{Limit}
use Rattle.refusal.specs.Checks.{Checks, Judged}
use Rattle.daemon.specs.declared.robin.RoundRobin.{RoundRobin}
use Rattle.rounds.specs.Dues.{Dues}

-- where u is named next, a node v from u on waits for those before it, and any other for the end of the nodes too
abbrev pub robin_due : ℕ → ℕ → ℕ → ℕ
robin_due n u v = cond (nat_le u v) (v - u + 1) (v + n - u + 1)

-- what a round robin means
abbrev pub robin_dues : RoundRobin → Dues
robin_dues d = record { nodes = d.nodes; patience = d.nodes; due = robin_due d.nodes d.next }

-- the node after v, in a ring of n
abbrev pub after : ℕ → ℕ → ℕ
after n v = cond (nat_lt (v + 1) n) (v + 1) 0

-- a number of nodes
abbrev pub nodes_checks : ℕ → Checks
nodes_checks n = (Limit, (1 ≤ n) × (n ≤ 256) → ⊥) ∷ []

-- a round robin of n nodes was made, to name 0 first, or declined
abbrev pub RobinMade : ℕ → Result RoundRobin Refusal → Type 0
RobinMade n = Judged (nodes_checks n) (λ d. (d.nodes ≡ n) × (d.next ≡ 0))

-- a round robin named the node that was next, and the one after it is next now
pub record RobinAsked (a : RoundRobin) (v : ℕ) (z : RoundRobin) : Type 0 where
  pub named : v ≡ a.next
  pub next : z.next ≡ after a.nodes v
  pub nodes : z.nodes ≡ a.nodes
