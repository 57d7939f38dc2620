-- Draws one after the other, until the rounds have reached the bound.
use Rattle.std.specs.Prelude.{◌≡◌, ℕ, ◌*◌, ◌<◌, ◌≤◌, List, [], ◌∷◌, ◌++◌, Ok, Err, Result}
use Rattle.refusal.specs.declared.Refusal.{Refusal}
use Rattle.rounds.specs.Changes.{Last}
use Rattle.rounds.specs.Rounds.{Splits}
use Rattle.rounds.specs.Runs.{run, Below}
use Rattle.protocol.specs.Protocols.{told_bound, turn_budget}
use Rattle.silent.specs.declared.Silent.{Ghosts}
use Rattle.daemon.specs.declared.Daemon as daemon
use Rattle.daemon.specs.Dues.{Run}
use Rattle.promise.specs.Nets.{Fresh}
use Rattle.promise.specs.declared.Drawn.{Drawn}
use Rattle.net.specs.declared.net.Net.{Net}
use Rattle.net.specs.Calls.{Does, Stays, at, drawing, meant, state}

-- the complete rounds are below the told bound, or have reached it
abbrev pub Early : {X : Type 0} → Ghosts X → Net X → Type 0
Early g t = t.counters.rounds < told_bound (meant g t)

abbrev pub Reached : {X : Type 0} → Ghosts X → Net X → Type 0
Reached g t = told_bound (meant g t) ≤ t.counters.rounds

-- accepted draws, all made before the rounds had reached the bound, named the nodes vs, the oldest first: from the net a and the
-- daemon d to the net z and the daemon y
pub data Drew {X D : Type 0} (g : Ghosts X) (e : daemon.Ghosts D) (a : Net X) (d : D) : List ℕ → Net X → D → Type 0 where
  none : Drew g e a d [] a d
  more : {vs : List ℕ} {b z : Net X} {c y : D} (t : Drawn) → Drew g e a d vs b c → Early g b → Does g b (drawing e c y) (Ok t) z → e.Asks c t.node y → Drew g e a d (vs ++ (t.node ∷ [])) z y

-- drawn until the bound is reached, or until before that a draw, of the net b, was declined
abbrev pub Settles : {X D : Type 0} → Ghosts X → daemon.Ghosts D → Net X → D → Result (Unit {0}) Refusal → Net X → D → Type 0
Settles g e a d (Ok u) z y = (vs : List ℕ) × Drew g e a d vs z y × Reached g z
Settles {X} g e a d (Err r) z y = (vs : List ℕ) × (b : Net X) × Drew g e a d vs b y × Early g b × Does g b (drawing e y y) (Err r) z

-- nothing is counted yet, the daemon is made for as many nodes, and the turns suffice
pub record Able {X D : Type 0} (g : Ghosts X) (e : daemon.Ghosts D) (a : Net X) (d : D) : Type 0 where
  pub fresh : Fresh (at a).nodes (state g a)
  pub nodes : (e.meaning d).nodes ≡ (at a).nodes
  pub turns : (e.meaning d).patience * told_bound (meant g a) ≤ turn_budget

-- the turns vs are just as many rounds as the bound, and no turn more; registers and last change are what they make, and what is
-- told then is legitimate
pub record Whole {X : Type 0} (g : Ghosts X) (a : Net X) (vs : List ℕ) (z : Net X) : Type 0 where
  pub stays : Stays g a z
  pub nodes : Below (at a).nodes vs
  pub rounds : Splits (at a).nodes (told_bound (meant g a)) vs []
  pub counted : z.counters.rounds ≡ told_bound (meant g a)
  pub registers : (state g z).registers ≡ run (meant g a).turn vs (state g a).registers
  pub last : Last (at a).nodes (meant g a).turn (state g a).registers vs z.counters.last_change
  pub soon : z.counters.last_change ≤ told_bound (meant g a)
  pub legitimate : (meant g a).Legitimate ((meant g a).output (state g z).registers)

-- such turns were named by the daemon
abbrev pub Course : {X D : Type 0} → Ghosts X → daemon.Ghosts D → Net X → D → Net X → D → Type 0
Course g e a d z y = (vs : List ℕ) × Run e.Asks d vs y × Whole g a vs z

-- then it is never declined
abbrev pub Rests : {X D : Type 0} → Ghosts X → daemon.Ghosts D → Net X → D → Result (Unit {0}) Refusal → Net X → D → Type 0
Rests g e a d (Ok u) z y = Able g e a d → Course g e a d z y
Rests g e a d (Err r) z y = Able g e a d → ⊥
