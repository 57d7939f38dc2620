-- A body grows line by line, and ends where a line is refused.
use Rattle.std.proofs.Common.{slice_index_or, slice_set, ◌≡◌, ℕ, ◌+◌, ◌<◌, ◌≤◌, List, [], ◌∷◌, ◌++◌, length, get_or, take, drop, Ok, Err, Result, sym, refl, ap, ◌∙◌, subst, append_assoc, arith, take-append-drop}
use Rattle.std.proofs.lemmas.List.{append-nil, drop-append-le, drop_more, flat_map_more, length_push, length-take-le, set-get_or, take-append-le}
use Rattle.refusal.specs.declared.Refusal.{Refusal}
use Rattle.refusal.specs.Checks.{First, Free}
use Rattle.text.specs.Spots.{Spot, Takes, spot}
use Rattle.text.specs.declared.reader.Reader.{Reader}
use Rattle.text.proofs.Written.{lines_append, lines_head}
use Rattle.sheet.specs.declared.fault.SheetFault.{SheetFault}
use Rattle.sheet.specs.declared.fault.SheetFault.TheVariants.{Refused}
use Rattle.sheet.specs.Body.{After, Body, BodyRead, Front, Good, Refuses, Rules, out, passed, refused}
use Rattle.text.specs.Written.{lines_of}

module _ {X : Type 0} (bytes : X → List ℕ) (rules : Rules X) (k : ℕ) where
  pub good_push : (before xs : List X) (x : X) → Good rules k before xs → Free (rules k (before ++ xs) x) → Good rules k before (xs ++ (x ∷ []))
  good_push before [] x g f = (subst (λ (b : List X). Free (rules k b x)) (append-nil before) f, tt)
  good_push before (y ∷ xs) x g f =
      (g.0, good_push (before ++ (y ∷ [])) xs x g.1 (subst (λ (b : List X). Free (rules k b x)) (sym (append_assoc before (y ∷ []) xs)) f))

  pub front_more : (xs : List X) (x : X) (p q z : Spot) → Front bytes rules k xs p q → Takes bytes q x z → Free (rules k xs x) → Front bytes rules k (xs ++ (x ∷ [])) p z
  front_more xs x p q z f t free =
      let l = f.lines in
      let lp = length_push xs x in
      let b : X → List ℕ = λ y. bytes y ++ (10 ∷ []) in
      record {
        text =
            f.text ∙ ap (λ (r : List ℕ). lines_of bytes xs ++ r) (t.0 ∙ sym (append_assoc (bytes x) (10 ∷ []) z.rest))
            ∙ sym (append_assoc (lines_of bytes xs) (b x) z.rest) ∙ ap (λ (r : List ℕ). r ++ z.rest) (flat_map_more b [] xs x);
        lines = let e = t.1 in omega arith;
        good = good_push [] xs x f.good free;
      }

  -- the lines of a list stand before any text that follows them
  pub front_whole : (xs : List X) (more : List ℕ) (line : ℕ) → Good rules k [] xs → Front bytes rules k xs (record { rest = lines_of bytes xs ++ more; line = line }) (record { rest = more; line = line + length xs })
  front_whole xs more line g = record { text = refl; lines = refl; good = g }

  -- what a reading left is a body
  pub body_passed : (n count : ℕ) (p z : Spot) (before after : List X) (H : List X → Type 0) → n ≡ count → BodyRead bytes rules k n p before (Ok tt) after z H → Body bytes rules k count p (passed (take count after) z)
  body_passed n count p z before after H e h = subst (λ (j : ℕ). Body bytes rules k j p (passed (take j after) z)) e h.0

  pub body_stopped : (n count : ℕ) (p z : Spot) (before after : List X) (H : List X → Type 0) (f : SheetFault) → n ≡ count → n ≤ length after → BodyRead bytes rules k n p before (Err f) after z H → Body bytes rules k count p (refused f)
  body_stopped n count p z before after H f e le h =
      let lt = h.1 in
      let l : length (take h.0 after) ≡ h.0 = length-take-le h.0 after (omega arith) in
      (take h.0 after, (h.3.0, omega arith, h.3.1, h.3.2))

  -- what a reading left, however it ended
  pub body_read : (n count : ℕ) (p : Spot) (rd : Reader) (before after : List X) (H : List X → Type 0) (r : Result (Unit {0}) SheetFault) → n ≡ count → n ≤ length after → BodyRead bytes rules k n p before r after (spot rd) H → Body bytes rules k count p (out (take count after) rd r)
  body_read n count p rd before after H (Ok u) e le h = body_passed n count p (spot rd) before after H e h
  body_read n count p rd before after H (Err f) e le h = body_stopped n count p (spot rd) before after H f e le h

  -- what a reading left that stopped at a line
  pub body_stops :
      (n i : ℕ) (p q z : Spot) (before after ts : List X) (H : List X → Type 0) (e : SheetFault) → i < n → take i after ≡ ts → drop i after ≡ drop i before
      → Front bytes rules k ts p q → Refuses bytes rules k ts q e → After bytes q e z → H ts → BodyRead bytes rules k n p before (Err e) after z H
  body_stops n i p q z before after ts H e lt is rest f r a h =
      (i, lt, rest, (q, subst (λ (l : List X). Front bytes rules k l p q) (sym is) f, subst (λ (l : List X). Refuses bytes rules k l q e) (sym is) r, a), subst H (sym is) h)

  split_at : (xs : List X) (i : ℕ) (x : X) → i < length xs → x ≡ get_or xs i x → xs ≡ take i xs ++ (x ∷ drop (i + 1) xs)
  split_at xs i x lt e = sym (take-append-drop i xs) ∙ ap (λ (r : List X). take i xs ++ r) (drop_more xs i x lt ∙ ap (λ (y : X). y ∷ drop (i + 1) xs) (sym e))

  -- a list whose line at i is refused, read after so many lines and before any text
  pub body_refused : (xs : List X) (i : ℕ) (x : X) (line : ℕ) (c : Refusal) → i < length xs → x ≡ get_or xs i x → Good rules k [] (take i xs) → First (rules k (take i xs) x) c
      → (more : List ℕ) → Body bytes rules k (length xs) (record { rest = lines_of bytes xs ++ more; line = line }) (refused (Refused c (line + i + 1)))
  body_refused xs i x line c lt is good first more =
      let n : length (take i xs) ≡ i = length-take-le i xs (omega arith) in
      let rest : List ℕ = lines_of bytes (drop (i + 1) xs) ++ more in
      let tail : List ℕ = bytes x ++ (10 ∷ rest) in
      let q : Spot = record { rest = tail; line = line + i } in
      let z : Spot = record { rest = rest; line = line + i + 1 } in
      let text : lines_of bytes xs ++ more ≡ lines_of bytes (take i xs) ++ tail =
      ap (λ (r : List X). lines_of bytes r ++ more) (split_at xs i x lt is)
      ∙ ap (λ (r : List ℕ). r ++ more) (lines_append bytes (take i xs) (x ∷ drop (i + 1) xs))
      ∙ append_assoc (lines_of bytes (take i xs)) (lines_of bytes (x ∷ drop (i + 1) xs)) more
      ∙ ap (λ (r : List ℕ). lines_of bytes (take i xs) ++ r) (lines_head bytes x (drop (i + 1) xs) more) in
      (take i xs, (q, omega arith, record { text = text; lines = ap (λ (j : ℕ). line + j) (sym n); good = good }, (refl, (x, (z, (refl, refl), first)))))

-- a list whose first entries are lent and written to, up to one that is written back as it was
module _ {X : Type 0} (list items : List X) (count i : ℕ) (d : X) (len : length items ≡ count) (lt : i < count) where
  abbrev after : List X
  after = slice_set items i (slice_index_or items i d) ++ drop count list

  pub front_kept : take i after ≡ take i items
  front_kept = ap (λ (xs : List X). take i (xs ++ drop count list)) (set-get_or items i d) ∙ take-append-le i items (drop count list) (omega arith)

  pub rest_kept : count ≤ length list → drop i items ≡ drop i (take count list) → drop i after ≡ drop i list
  rest_kept room e =
      let full : length (take count list) ≡ count = length-take-le count list room in
      ap (λ (xs : List X). drop i (xs ++ drop count list)) (set-get_or items i d)
      ∙ drop-append-le i items (drop count list) (omega arith)
      ∙ ap (λ (xs : List X). xs ++ drop count list) e
      ∙ sym (drop-append-le i (take count list) (drop count list) (omega arith))
      ∙ ap (λ (xs : List X). drop i xs) (take-append-drop count list)
