-- Worked examples in one table: those of the protocols, and the rounds and awaited nodes that a net tells on the site of five nodes, over any protocol.
use Rattle.std.specs.Prelude.{◌≡◌, ℕ, List, [], ◌∷◌}
use Rattle.protocol.specs.Cases as protocols
use Rattle.protocol.specs.Cases.{five}
use Rattle.protocol.specs.Protocols.{Protocol, Laws}
use Rattle.promise.specs.Nets.{State, awaited, number}
use Rattle.promise.specs.History.{Exchange, accepted, since}
use Rattle.promise.specs.Promise.{Run}

-- after these turns since the latest fault, the net has so many complete rounds and awaits so many nodes
abbrev pub Counted : Protocol → List ℕ → ℕ → ℕ → Type 0
Counted p ts rounds waits = (regs : List ℕ) (own : ℕ) (es : List Exchange) (z : State) → Run five p regs own es z → since (accepted es) ≡ ts → (z.rounds ≡ rounds) × (number five p z awaited ≡ waits)

-- the net's rows
pub record Table (p : Protocol) : Type 0 where
  pub four_named : Counted p (0 ∷ 0 ∷ 1 ∷ 2 ∷ 3 ∷ []) 0 1
  pub all_named : Counted p (0 ∷ 0 ∷ 1 ∷ 2 ∷ 3 ∷ 4 ∷ []) 1 5

-- the whole table
abbrev pub TableStands : Protocol → Type 0
TableStands p = protocols.Table × (Laws five p → Table p)
