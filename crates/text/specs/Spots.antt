-- What a reader has yet to read, and what its calls answer.
use Rattle.std.specs.Prelude.{◌≡◌, ℕ, ◌+◌, List, [], ◌∷◌, ◌++◌, Some, None, Ok, Err, Option, Result, ◌≢◌}
use Rattle.text.specs.declared.fault.ScanFault.{ScanFault}
use Rattle.text.specs.declared.fault.ScanFault.TheVariants.{Form, Lacking, Trailing}
use Rattle.text.specs.declared.reader.Reader.{Reader}
use Rattle.text.specs.Line.{NoLine}
use Rattle.text.specs.Page.{Lacks}

-- a place in a file: the bytes to come, and the number of lines read
pub record Spot : Type 0 where
  pub rest : List ℕ
  pub line : ℕ

abbrev pub spot : Reader → Spot
spot r = record { rest = r.rest.now; line = r.line }

-- the bytes up to the first line feed are taken off
abbrev pub Cut : Reader → Option (List ℕ) → Reader → Type 0
Cut a (Some l) z = ((spot a).rest ≡ l ++ (10 ∷ (spot z).rest)) × Lacks 10 l × (z.line ≡ a.line + 1)
Cut a None z = Lacks 10 (spot a).rest × (z ≡ a)

-- why no line can be read at a place: there is no line feed, or what stands before it is no written form
abbrev pub Why : {X : Type 0} → (X → List ℕ) → Spot → ScanFault → Type 0
Why bytes p (Form l) = (l ≡ p.line + 1) × (Lacks 10 p.rest → ⊥) × NoLine bytes p.rest
Why bytes p (Lacking l) = (l ≡ p.line + 1) × Lacks 10 p.rest
Why bytes p (Trailing l) = ⊥

-- one line is read
abbrev pub Takes : {X : Type 0} → (X → List ℕ) → Spot → X → Spot → Type 0
Takes bytes p x q = (p.rest ≡ bytes x ++ (10 ∷ q.rest)) × (q.line ≡ p.line + 1)

-- where a reader stands after that: as before if no line feed was left, else after the line
abbrev pub Past : Spot → ScanFault → Spot → Type 0
Past p (Form l) q = (line : List ℕ) × (p.rest ≡ line ++ (10 ∷ q.rest)) × Lacks 10 line × (q.line ≡ p.line + 1)
Past p (Lacking l) q = q ≡ p
Past p (Trailing l) q = ⊥

abbrev pub Got : {X : Type 0} → (X → List ℕ) → Reader → Result X ScanFault → Reader → Type 0
Got bytes a (Ok x) z = Takes bytes (spot a) x (spot z)
Got bytes a (Err e) z = Why bytes (spot a) e × Past (spot a) e (spot z)

-- nothing is left
abbrev pub AtEnd : Spot → Result (Unit {0}) ScanFault → Type 0
AtEnd p (Ok u) = p.rest ≡ []
AtEnd p (Err (Form l)) = ⊥
AtEnd p (Err (Lacking l)) = ⊥
AtEnd p (Err (Trailing l)) = (l ≡ p.line + 1) × (p.rest ≢ [])

abbrev pub Ended : Reader → Result (Unit {0}) ScanFault → Type 0
Ended a r = AtEnd (spot a) r
