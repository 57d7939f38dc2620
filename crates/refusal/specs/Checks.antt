-- Checks in order: a list of refusals, each with the fact that calls for it. A call is declined by the first
-- whose fact holds, and accepted where none does.
use Rattle.std.specs.Prelude.{◌≡◌, ◌⊎◌, List, [], ◌∷◌, Ok, Err, Result}
use Rattle.refusal.specs.declared.Refusal.{Refusal}
use Rattle.refusal.specs.declared.fault.Fault.{Fault}
use Rattle.refusal.specs.declared.fault.Fault.TheVariants.{Refused, Memory}

abbrev pub Checks : Type 1
Checks = List (Refusal × Type 0)

-- the refusal e is the first whose fact holds
abbrev pub First : Checks → Refusal → Type 0
First [] e = ⊥
First (c ∷ cs) e = ((e ≡ c.0) × c.1) ⊎ ((c.1 → ⊥) × First cs e)

-- no refusal's fact holds
abbrev pub Free : Checks → Type 0
Free [] = Unit {0}
Free (c ∷ cs) = (c.1 → ⊥) × Free cs

-- the checks were made: none called for its refusal, or the answer is the first that did
abbrev pub Checked : Checks → Result (Unit {0}) Refusal → Type 0
Checked cs (Ok u) = Free cs
Checked cs (Err e) = First cs e

-- accepted just where no check fails, and then with this property; else declined by the first that fails
abbrev pub Judged : {A : Type 0} → Checks → (A → Type 0) → Result A Refusal → Type 0
Judged cs Holds (Ok a) = Free cs × Holds a
Judged cs Holds (Err e) = First cs e

-- something with this property was made after the checks, or declined by the first that failed, or memory was wanting
abbrev pub Made : {A : Type 0} → Checks → (A → Type 0) → Result A Fault → Type 0
Made cs Holds (Ok a) = Free cs × Holds a
Made cs Holds (Err (Refused e)) = First cs e
Made cs Holds (Err Memory) = Free cs
