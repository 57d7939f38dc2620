-- What a check at a line comes to.
use Rattle.std.proofs.Common.{◌≡◌, ℕ, Ok, Err, Result, refl}
use Rattle.refusal.specs.declared.Refusal.{Refusal}
use Rattle.sheet.specs.declared.fault.SheetFault.{SheetFault}
use Rattle.sheet.specs.declared.fault.SheetFault.TheVariants.{Refused}
use Rattle.sheet.specs.Faults.{located}

pub located_err : {A : Type 0} (r : Result A Refusal) (l : ℕ) (f : SheetFault) → located r l ≡ Err f → (e : Refusal) × ((r ≡ Err e) × (f ≡ Refused e l))
located_err (Ok a) l f h = absurd cc
located_err (Err e) l f h = (e, (refl, cc))

pub located_ok : {A : Type 0} (r : Result A Refusal) (l : ℕ) (a : A) → located r l ≡ Ok a → r ≡ Ok a
located_ok (Ok b) l a h = cc
located_ok (Err e) l a h = absurd cc
