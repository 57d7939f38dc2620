-- Bytes written onto a page, and lists that lack a byte.
use Rattle.std.specs.Prelude.{◌≡◌, ℕ, ◌+◌, ◌<◌, ◌≤◌, List, [], ◌∷◌, ◌++◌, length, take, drop, Some, None, Option, ◌≢◌}

-- the page with bs from `at` on; the rest stays
abbrev pub put : ℕ → List ℕ → List ℕ → List ℕ
put at bs page = take at page ++ (bs ++ drop (at + length bs) page)

-- the page with bs at its start; the rest stays
abbrev pub over : List ℕ → List ℕ → List ℕ
over bs page = bs ++ drop (length bs) page

-- c does not stand in the list
abbrev pub Lacks : ℕ → List ℕ → Type 0
Lacks c [] = Unit {0}
Lacks c (x ∷ xs) = (x ≢ c) × Lacks c xs

-- bs are written from `at` on where there is room for them, and else the page stays
abbrev pub Wrote : List ℕ → ℕ → List ℕ → Option ℕ → List ℕ → Type 0
Wrote bs at page (Some end) after = (at + length bs ≤ length page) × (end ≡ at + length bs) × (after ≡ put at bs page)
Wrote bs at page None after = (length page < at + length bs) × (after ≡ page)
