-- A word is known by its letters, which are neither digits nor the ends of fields and lines.
use Rattle.std.specs.Prelude.{◌≡◌, ℕ, ◌≤◌, Bool, true, false, cond, List, [], ◌∷◌, length, ◌==◌, ◌≢◌, nat_lt, slice_index, refl}
use Rattle.std.proofs.Common.{sym, ap, ◌∙◌, arith, lit≤}
use Rattle.std.proofs.lemmas.Bool.Decides.{nat_tests}
use Rattle.text.specs.declared.contents.Word.TheVariants.{Nodes, Links, Faults, Turns}
use Rattle.text.specs.declared.report.TallyWord.TheVariants.{Bound, Rounds, Last}
use Rattle.text.specs.declared.field.Keyword.{Keyword}
use Rattle.text.specs.declared.field.Keyword.TheVariants.{Contents, Tally, Refused, Absent}
use Rattle.text.specs.Page.{Lacks}
use Rattle.text.specs.Words.{spelling}

-- the word that begins with these two letters
abbrev begun : ℕ → ℕ → Keyword
begun a b =
    cond (a == 78) (Contents Nodes) (cond (a == 70) (Contents Faults) (cond (a == 84) (Contents Turns) (cond (a == 66) (Tally Bound)
    (cond (b == 73) (Contents Links) (cond (b == 65) (Tally Last) (cond (b == 79) (Tally Rounds) (cond (b == 69) Refused Absent)))))))

-- a capital letter or the hyphen
abbrev lettered : List ℕ → Bool
lettered [] = true
lettered (x ∷ xs) = cond (nat_lt 64 x) (lettered xs) (cond (x == 45) (lettered xs) false)

known : (w : Keyword) → (begun (slice_index (spelling w) 0) (slice_index (spelling w) 1) ≡ w) × (length (spelling w) ≤ 7) × (lettered (spelling w) ≡ true)
known (Contents Nodes) = (refl, lit≤ tt, refl)
known (Contents Links) = (refl, lit≤ tt, refl)
known (Contents Faults) = (refl, lit≤ tt, refl)
known (Contents Turns) = (refl, lit≤ tt, refl)
known (Tally Bound) = (refl, lit≤ tt, refl)
known (Tally Rounds) = (refl, lit≤ tt, refl)
known (Tally Last) = (refl, lit≤ tt, refl)
known Refused = (refl, lit≤ tt, refl)
known Absent = (refl, lit≤ tt, refl)

pub spelling_once : (v w : Keyword) → spelling v ≡ spelling w → v ≡ w
spelling_once v w e = sym (known v).0 ∙ ap (λ (l : List ℕ). begun (slice_index l 0) (slice_index l 1)) e ∙ (known w).0

pub spelling_short : (w : Keyword) → length (spelling w) ≤ 7
spelling_short w = (known w).1

lacks_lettered : (c : ℕ) (l : List ℕ) → c ≤ 64 → (c ≢ 45) → lettered l ≡ true → Lacks c l
lacks_lettered c [] le ne h = tt
lacks_lettered c (x ∷ xs) le ne h = ((λ e. grind (arith, nat_tests)), lacks_lettered c xs le ne (grind (arith, nat_tests)))

pub lacks_spelling : (c : ℕ) (w : Keyword) → c ≤ 64 → (c ≢ 45) → Lacks c (spelling w)
lacks_spelling c w le ne = lacks_lettered c (spelling w) le ne (known w).2
