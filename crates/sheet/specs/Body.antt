-- A body of lines of one kind: which lines stand from a place on, or the first that is refused and why.
use Rattle.std.specs.Prelude.{◌≡◌, ℕ, ◌+◌, ◌<◌, List, [], ◌∷◌, ◌++◌, length, take, drop, Ok, Err, Result}
use Rattle.refusal.specs.Checks.{Checks, First, Free}
use Rattle.text.specs.Spots.{Past, Spot, Takes, Why, spot}
use Rattle.text.specs.Written.{lines_of}
use Rattle.text.specs.declared.reader.Reader.{Reader}
use Rattle.sheet.specs.declared.fault.SheetFault.{SheetFault}
use Rattle.sheet.specs.declared.fault.SheetFault.TheVariants.{Scan, Refused}

-- the checks of a kind of line, by a limit and the lines of the kind before it
abbrev pub Rules : Type 0 → Type 1
Rules X = ℕ → List X → X → Checks

-- every line passes its checks, after those before it
abbrev pub Good : {X : Type 0} → Rules X → ℕ → List X → List X → Type 0
Good rules k before [] = Unit {0}
Good rules k before (x ∷ xs) = Free (rules k before x) × Good rules k (before ++ (x ∷ [])) xs

-- from one place to another stand just these lines, all of them good
pub record Front {X : Type 0} (bytes : X → List ℕ) (rules : Rules X) (k : ℕ) (xs : List X) (p q : Spot) : Type 0 where
  pub text : p.rest ≡ lines_of bytes xs ++ q.rest
  pub lines : q.line ≡ p.line + length xs
  pub good : Good rules k [] xs

-- the line at a place is refused: it is not in its form, or a check finds a cause
abbrev pub Refuses : {X : Type 0} → (X → List ℕ) → Rules X → ℕ → List X → Spot → SheetFault → Type 0
Refuses bytes rules k before q (Scan e) = Why bytes q e
Refuses {X} bytes rules k before q (Refused c l) = (l ≡ q.line + 1) × ((x : X) × ((z : Spot) × Takes bytes q x z × First (rules k before x) c))

-- what comes of reading from a place on: a value and the place after it, or the refusal
pub data Out (A : Type 0) : Type 0 where
  passed : A → Spot → Out A
  refused : SheetFault → Out A

-- so many lines of a kind
abbrev pub Body : {X : Type 0} → (X → List ℕ) → Rules X → ℕ → ℕ → Spot → Out (List X) → Type 0
Body bytes rules k count p (passed xs q) = (length xs ≡ count) × Front bytes rules k xs p q
Body {X} bytes rules k count p (refused e) = (xs : List X) × ((q : Spot) × (length xs < count) × Front bytes rules k xs p q × Refuses bytes rules k xs q e)

-- what a call on a reader gave
abbrev pub out : {A U : Type 0} → A → Reader → Result U SheetFault → Out A
out a z (Ok u) = passed a (spot z)
out a z (Err e) = refused e

-- where the reader stands after a line that is refused
abbrev pub After : {X : Type 0} → (X → List ℕ) → Spot → SheetFault → Spot → Type 0
After bytes q (Scan e) z = Past q e z
After {X} bytes q (Refused c l) z = (x : X) × Takes bytes q x z

-- what reading so many lines into a list leaves: the lines read, and then the entries as they were; H holds of the lines that
-- the context has taken in, and the reader stands after the last line read
abbrev pub BodyRead : {X : Type 0} → (X → List ℕ) → Rules X → ℕ → ℕ → Spot → List X → Result (Unit {0}) SheetFault → List X → Spot → (List X → Type 0) → Type 0
BodyRead bytes rules k count p before (Ok u) after z H = Body bytes rules k count p (passed (take count after) z) × (drop count after ≡ drop count before) × H (take count after)
BodyRead bytes rules k count p before (Err e) after z H =
    (i : ℕ) × (i < count) × (drop i after ≡ drop i before) × ((q : Spot) × Front bytes rules k (take i after) p q × Refuses bytes rules k (take i after) q e × After bytes q e z) × H (take i after)

-- lines that stand after so many others and before any text are what reading them would find
abbrev pub BodyChecked : {X : Type 0} → (X → List ℕ) → Rules X → ℕ → List X → ℕ → Result (Unit {0}) SheetFault → Type 0
BodyChecked bytes rules k xs line (Ok u) = Good rules k [] xs
BodyChecked bytes rules k xs line (Err e) = (more : List ℕ) → Body bytes rules k (length xs) (record { rest = lines_of bytes xs ++ more; line = line }) (refused e)
