-- Lines as fields with semicolons between them.
use Rattle.std.specs.Prelude.{ℕ, List, [], ◌∷◌, ◌++◌, Some, None, Option}
use Rattle.text.specs.declared.number.Number.{Number}
use Rattle.text.specs.declared.field.Keyword.{Keyword}
use Rattle.text.specs.declared.field.Keyword.TheVariants.{Absent}
use Rattle.text.specs.declared.field.Field.{Field}
use Rattle.text.specs.declared.field.Field.TheVariants.{Word, Value}
use Rattle.text.specs.Number.{written}
use Rattle.text.specs.Words.{spelling}

-- the bytes of a field
abbrev pub field_of : Field → List ℕ
field_of (Word w) = spelling w
field_of (Value n) = written n

-- the bytes of fields with semicolons between them
abbrev pub line_of : List Field → List ℕ
line_of [] = []
line_of (f ∷ []) = field_of f
line_of (f ∷ (g ∷ gs)) = field_of f ++ (59 ∷ line_of (g ∷ gs))

-- two numbers
abbrev pub pair : Number → Number → List Field
pair a b = Value a ∷ (Value b ∷ [])

-- a word and a number
abbrev pub headed : Keyword → Number → List Field
headed w n = Word w ∷ (Value n ∷ [])

-- a number that may be absent
abbrev pub optional : Option Number → Field
optional (Some n) = Value n
optional None = Word Absent
