-- What names have that pass the checks of a script.
use Rattle.std.specs.Prelude.{ℕ, ◌<◌, List}
use Rattle.std.proofs.Common.{inl, inr}
use Rattle.std.proofs.lemmas.Bool.{cases_lt}
use Rattle.refusal.specs.Checks.{Free}
use Rattle.lists.specs.Members.{Among}
use Rattle.lists.proofs.Decisions.{among_number?}
use Rattle.rounds.specs.Rounds.{Covers}
use Rattle.daemon.specs.ScriptChecks.{script_checks}

pub free_below : (n : ℕ) (names : List ℕ) → Free (script_checks n names) → (v : ℕ) → Among v names → v < n
free_below n names f v h = elim (cases_lt v n) [ inl l ↦ l | inr l ↦ absurd (f.1.0 (v, h, l)) ]

pub free_covers : (n : ℕ) (names : List ℕ) → Free (script_checks n names) → Covers n names
free_covers n names f v l = elim (among_number? v names) [ inl a ↦ a | inr out ↦ absurd (f.1.1.0 (v, l, out)) ]
