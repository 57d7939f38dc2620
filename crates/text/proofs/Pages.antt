-- Bytes put onto a page one after the other.
use Rattle.std.proofs.Common.{◌≡◌, ℕ, ◌+◌, ◌-◌, ◌<◌, ◌≤◌, true, List, [], ◌∷◌, ◌++◌, length, take, drop, set, is_some, Some, None, Option, sym, refl, ap, ◌∙◌, append-nil, append_assoc, add_assoc, zero-add, add-one, arith, length-append, length-drop, take-append-drop}
use Rattle.std.proofs.lemmas.List.{take_at, take_rest, drop_at, drop_all, drop-drop, length-take-le, set_split}
use Rattle.text.specs.Page.{Wrote, over, put}

-- the length up to the end of what was put
front : (at : ℕ) (bs page : List ℕ) → at + length bs ≤ length page → length (take at page ++ bs) ≡ at + length bs
front at bs page h = length-append (take at page) bs ∙ ap (λ (k : ℕ). k + length bs) (length-take-le at page (omega arith))

pub put_put :
    (at to : ℕ) (bs cs page : List ℕ) → to ≡ at + length bs → at + length bs + length cs ≤ length page
    → put to cs (put at bs page) ≡ put at (bs ++ cs) page
put_put at to bs cs page is h =
    let p = take at page in
    let r = drop (at + length bs) page in
    let f : length (p ++ bs) ≡ to = front at bs page (omega arith) ∙ sym is in
    let whole : p ++ (bs ++ r) ≡ (p ++ bs) ++ r = sym (append_assoc p bs r) in
    let a : take to (p ++ (bs ++ r)) ≡ p ++ bs = ap (take to) whole ∙ take_at (p ++ bs) r to f in
    let b : drop (to + length cs) (p ++ (bs ++ r)) ≡ drop (length cs) r =
    sym (drop-drop (length cs) to (p ++ (bs ++ r))) ∙ ap (λ (x : List ℕ). drop (length cs) x) (ap (drop to) whole ∙ drop_at (p ++ bs) r to f) in
    let e : drop (length cs) r ≡ drop (at + length (bs ++ cs)) page =
    drop-drop (length cs) (at + length bs) page ∙ ap (λ (k : ℕ). drop k page) (add_assoc at (length bs) (length cs) ∙ ap (λ (k : ℕ). at + k) (sym (length-append bs cs))) in
    let q = drop (at + length (bs ++ cs)) page in
    ap (λ (x : List ℕ). x ++ (cs ++ drop (to + length cs) (p ++ (bs ++ r)))) a
    ∙ ap (λ (x : List ℕ). (p ++ bs) ++ (cs ++ x)) (b ∙ e)
    ∙ append_assoc p bs (cs ++ q) ∙ ap (λ (x : List ℕ). p ++ x) (sym (append_assoc bs cs q))

pub put_one : (at b : ℕ) (page : List ℕ) → at < length page → set page at b ≡ put at (b ∷ []) page
put_one at b page h = set_split page at b h ∙ ap (λ (k : ℕ). take at page ++ (b ∷ drop k page)) (sym (add-one at))

pub length_put : (at : ℕ) (bs page : List ℕ) → at + length bs ≤ length page → length (put at bs page) ≡ length page
length_put at bs page h =
    ap length (sym (append_assoc (take at page) bs (drop (at + length bs) page))) ∙ length-append (take at page ++ bs) (drop (at + length bs) page)
    ∙ ap (λ (k : ℕ). k + length (drop (at + length bs) page)) (front at bs page h ∙ sym (length-take-le (at + length bs) page h))
    ∙ sym (length-append (take (at + length bs) page) (drop (at + length bs) page)) ∙ ap length (take-append-drop (at + length bs) page)

-- a byte after a part
pub put_end :
    (at mid b : ℕ) (bs page one : List ℕ) → mid ≡ at + length bs → at + length bs + 1 ≤ length page
    → one ≡ put at bs page → set one mid b ≡ put at (bs ++ (b ∷ [])) page
put_end at mid b bs page one is fits p =
    let l : length (put at bs page) ≡ length page = length_put at bs page (omega arith) in
    ap (λ (r : List ℕ). set r mid b) p ∙ put_one mid b (put at bs page) (omega arith) ∙ put_put at mid bs (b ∷ []) page is (omega arith)

-- two parts and a byte between them
pub put_three :
    (at mid b : ℕ) (xs ys page one three : List ℕ) → mid ≡ at + length xs → at + length (xs ++ (b ∷ ys)) ≤ length page
    → one ≡ put at xs page → three ≡ put (mid + 1) ys (set one mid b) → three ≡ put at (xs ++ (b ∷ ys)) page
put_three at mid b xs ys page one three is fits p q =
    let l : length (xs ++ (b ∷ ys)) ≡ length xs + 1 + length ys = length-append xs (b ∷ ys) ∙ omega arith in
    let k : length (xs ++ (b ∷ [])) ≡ length xs + 1 = length-append xs (b ∷ []) in
    q ∙ ap (λ (r : List ℕ). put (mid + 1) ys r) (put_end at mid b xs page one is (omega arith) p)
    ∙ put_put at (mid + 1) (xs ++ (b ∷ [])) ys page (omega arith) (omega arith)
    ∙ ap (λ (bs : List ℕ). put at bs page) (append_assoc xs (b ∷ []) ys)

-- nothing
pub put_none : (at : ℕ) (bs page : List ℕ) → bs ≡ [] → put at bs page ≡ page
put_none at bs page e =
    ap (λ (x : List ℕ). put at x page) e ∙ ap (λ (k : ℕ). take at page ++ drop k page) (omega arith) ∙ take-append-drop at page

-- where there is room, bytes are written
pub wrote_fits : (bs : List ℕ) (at : ℕ) (page : List ℕ) (r : Option ℕ) (after : List ℕ) → at + length bs ≤ length page → Wrote bs at page r after → is_some r ≡ true
wrote_fits bs at page (Some end) after fits w = refl
wrote_fits bs at page None after fits w = let over = w.0 in absurd (omega arith)

-- a part at the start of a page, and at the start of its rest
pub over_put : (bs page : List ℕ) → put 0 bs page ≡ over bs page
over_put bs page = ap (λ (k : ℕ). bs ++ drop k page) (zero-add (length bs))

pub put_over : (at : ℕ) (bs page : List ℕ) → take at page ++ over bs (drop at page) ≡ put at bs page
put_over at bs page = ap (λ (r : List ℕ). take at page ++ (bs ++ r)) (drop-drop (length bs) at page ∙ ap (λ (k : ℕ). drop k page) (omega arith))

-- a part written at the start of the rest from k on
pub part_over :
    (k : ℕ) (bs page new : List ℕ) → new ≡ over bs (take (length page - k) (drop k page))
    → take k page ++ (new ++ drop (length page - k) (drop k page)) ≡ put k bs page
part_over k bs page new e =
    let none : drop (length page - k) (drop k page) ≡ [] = drop_all (length page - k) (drop k page) (omega (arith, length-drop k page)) in
    ap (λ (r : List ℕ). take k page ++ (new ++ r)) none ∙ ap (λ (r : List ℕ). take k page ++ r) (append-nil new ∙ e ∙ ap (over bs) (take_rest page k)) ∙ put_over k bs page

-- bytes written after others, on a page that has room for both
pub wrote_then :
    (xs ys page mid after : List ℕ) (at end : ℕ) (r : Option ℕ) → at + length (xs ++ ys) ≤ length page → Wrote xs at page (Some end) mid → Wrote ys end mid r after
    → Wrote (xs ++ ys) at page r after
wrote_then xs ys page mid after at end (Some n) room w z =
    let e = length-append xs ys in
    let k = w.1 in
    let l = z.1 in
    (room, omega arith, z.2 ∙ ap (λ (p : List ℕ). put end ys p) w.2 ∙ put_put at end xs ys page w.1 (omega arith))
wrote_then xs ys page mid after at end None room w z =
    let e = length-append xs ys in
    let k = w.1 in
    let l : length mid ≡ length page = ap length w.2 ∙ length_put at xs page w.0 in
    let over = z.0 in
    absurd (omega arith)
