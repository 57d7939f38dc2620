-- What a reader of lines accepts.
use Rattle.std.specs.Prelude.{◌≡◌, ℕ, List, ◌∷◌, ◌++◌, Some, None, Option, ◌≢◌}

-- exactly the written form is accepted
abbrev pub Accepts : {X : Type 0} → (X → List ℕ) → List ℕ → Option X → Type 0
Accepts bytes line (Some x) = line ≡ bytes x
Accepts {X} bytes line None = (x : X) → line ≢ bytes x

-- exactly two written forms with a semicolon between them are accepted
abbrev pub AcceptsTwo : {X Y : Type 0} → (X → List ℕ) → (Y → List ℕ) → List ℕ → Option (X × Y) → Type 0
AcceptsTwo f g line (Some p) = line ≡ f p.0 ++ (59 ∷ g p.1)
AcceptsTwo {X} {Y} f g line None = (x : X) (y : Y) → line ≢ f x ++ (59 ∷ g y)

-- no written form ends at the first line feed of the text
abbrev pub NoLine : {X : Type 0} → (X → List ℕ) → List ℕ → Type 0
NoLine {X} bytes text = (x : X) (more : List ℕ) → text ≢ bytes x ++ (10 ∷ more)
