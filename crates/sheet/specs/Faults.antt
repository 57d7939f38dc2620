-- The refusal that a sheet's fault stands for, and its line.
use Rattle.std.specs.Prelude.{ℕ, Ok, Err, Result}
use Rattle.refusal.specs.declared.Refusal.{Refusal}
use Rattle.refusal.specs.declared.Refusal.TheVariants.{Form}
use Rattle.text.specs.Faults.{line_of_fault}
use Rattle.sheet.specs.declared.fault.SheetFault.{SheetFault}
use Rattle.sheet.specs.declared.fault.SheetFault.TheVariants.{Scan, Refused}

-- the scanner's causes are all of form
abbrev pub cause_of : SheetFault → Refusal
cause_of (Scan e) = Form
cause_of (Refused c l) = c

abbrev pub line_of : SheetFault → ℕ
line_of (Scan e) = line_of_fault e
line_of (Refused c l) = l

-- what a check at a line comes to, as a sheet's outcome
abbrev pub located : {A : Type 0} → Result A Refusal → ℕ → Result A SheetFault
located (Ok a) l = Ok a
located (Err e) l = Err (Refused e l)
