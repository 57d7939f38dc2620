-- Askings with dues leave no node out for long.
use Rattle.std.proofs.Common.{◌≡◌, ℕ, List, [], ◌∷◌, refl, subst}
use Rattle.rounds.specs.Patience.{DueWithin, Due}
use Rattle.rounds.proofs.PatienceLaws.{due_patient, patient_completes}
use Rattle.rounds.specs.Dues.{Dues, Timely}
use Rattle.daemon.specs.Dues.{Askings, NamesAll, CompletesRounds}

timely_within : (n w : ℕ) (a : Dues) → a.nodes ≡ n → a.patience ≡ w → Timely a → DueWithin n w a.due
timely_within n w a en ew t = subst (λ k. DueWithin k w a.due) en (subst (λ k. DueWithin a.nodes k a.due) ew t)

-- the names of askings are turns with dues
askings_due : (n w : ℕ) (a : Dues) (vs : List ℕ) (z : Dues) → a.nodes ≡ n → a.patience ≡ w → Timely a → Askings a vs z → Due n w a.due vs
askings_due n w a [] z en ew t h = timely_within n w a en ew t
askings_due n w a (v ∷ vs) z en ew t h =
    let m = h.0 in
    let one = h.1 in
    (timely_within n w a en ew t, (m.due, (λ u l. one.falls u (rw en l)), askings_due n w m vs z (cc) (cc) one.timely h.2))

pub names_all : (a : Dues) → Timely a → NamesAll a
names_all a t vs z h = due_patient a.nodes a.patience a.due vs (askings_due a.nodes a.patience a vs z refl refl t h)

pub completes_rounds : (a : Dues) → Timely a → CompletesRounds a
completes_rounds a t vs z k l h q = patient_completes a.nodes a.patience k vs l (names_all a t vs z h) q
