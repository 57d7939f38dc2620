-- A line of fields: its length, the bytes that it lacks, and that it tells its fields.
use Rattle.std.specs.Prelude.{◌≡◌, suc, ◌+◌, ◌-◌, ◌*◌, ◌≤◌, List, [], ◌∷◌, ◌++◌, length, take, drop, slice_index_or}
use Rattle.std.proofs.Common.{sym, ap, ◌∙◌, arith, length-append}
use Rattle.std.proofs.lemmas.List.{take_all}
use Rattle.text.specs.declared.number.Number.{Number}
use Rattle.text.specs.declared.contents.Word.{Word as Contents-Word}
use Rattle.text.specs.declared.field.Keyword.{Keyword}
use Rattle.text.specs.declared.field.Keyword.TheVariants.{Contents}
use Rattle.text.specs.declared.field.Field.{Field}
use Rattle.text.specs.declared.field.Field.TheVariants.{Word, Value}
use Rattle.text.specs.Fields.{field_of, line_of, pair, headed}
use Rattle.text.specs.Page.{Lacks}
use Rattle.text.specs.Cuts.{cut_once, lacks_append}
use Rattle.text.specs.Numbers.{written_once, written_short, lacks_written}
use Rattle.text.specs.WordsLemmas.{spelling_once, spelling_short, lacks_spelling}

pub field_short : (f : Field) → length (field_of f) ≤ 7
field_short (Word w) = spelling_short w
field_short (Value n) = let h = written_short n in omega arith

pub field_whole : (f : Field) → Lacks 59 (field_of f)
field_whole (Word w) = lacks_spelling 59 w (omega arith) (λ e. omega arith)
field_whole (Value n) = lacks_written 59 n (λ h. let k = h.1 in omega arith)

pub field_plain : (f : Field) → Lacks 10 (field_of f)
field_plain (Word w) = lacks_spelling 10 w (omega arith) (λ e. omega arith)
field_plain (Value n) = lacks_written 10 n (λ h. let k = h.0 in omega arith)

pub line_plain : (fs : List Field) → Lacks 10 (line_of fs)
line_plain [] = tt
line_plain (f ∷ []) = field_plain f
line_plain (f ∷ (g ∷ gs)) = lacks_append 10 (field_of f) (59 ∷ line_of (g ∷ gs)) (field_plain f) ((λ e. omega arith), line_plain (g ∷ gs))

pub line_short : (fs : List Field) → length (line_of fs) ≤ 8 * length fs
line_short [] = omega arith
line_short (f ∷ []) = let h = field_short f in omega arith
line_short (f ∷ (g ∷ gs)) =
    let h = field_short f in
    let k = line_short (g ∷ gs) in
    let l = length-append (field_of f) (59 ∷ line_of (g ∷ gs)) in
    omega arith

pub five_short : (fs : List Field) → length fs ≤ 5 → length (line_of fs) ≤ 63
five_short fs few = let h = line_short fs in omega arith

-- lines of two fields are equal if the fields' bytes are
pub two_once : (f g h k : Field) → line_of (f ∷ (g ∷ [])) ≡ line_of (h ∷ (k ∷ [])) → (field_of f ≡ field_of h) × (field_of g ≡ field_of k)
two_once f g h k e = cut_once 59 (field_of f) (field_of h) (field_of g) (field_of k) (field_whole f) (field_whole h) e

pub pair_once : (a b x y : Number) → line_of (pair a b) ≡ line_of (pair x y) → (a ≡ x) × (b ≡ y)
pair_once a b x y e =
    let h = two_once (Value a) (Value b) (Value x) (Value y) e in
    (written_once a x h.0, written_once b y h.1)

pub headed_once : (v w : Keyword) (m n : Number) → line_of (headed v m) ≡ line_of (headed w n) → (v ≡ w) × (m ≡ n)
headed_once v w m n e =
    let h = two_once (Word v) (Value m) (Word w) (Value n) e in
    (spelling_once v w h.0, written_once m n h.1)

pub contents_once : (v w : Contents-Word) (m n : Number) → line_of (headed (Contents v) m) ≡ line_of (headed (Contents w) n) → (v ≡ w) × (m ≡ n)
contents_once v w m n e = let h = headed_once (Contents v) (Contents w) m n e in let k = h.0 in (cc, h.1)

pub line_more :
    (l : List Field) (x : Field) → 2 ≤ length l → x ≡ slice_index_or l 0 x
    → line_of l ≡ field_of x ++ (59 ∷ line_of (take (length l - 1) (drop 1 l)))
line_more [] x h e = absurd (omega arith)
line_more (f ∷ []) x h e = absurd (omega arith)
line_more (f ∷ (g ∷ gs)) x h e =
    ap (λ (y : Field). field_of y ++ (59 ∷ line_of (g ∷ gs))) (sym e)
    ∙ ap (λ (r : List Field). field_of x ++ (59 ∷ line_of r)) (sym (take_all (suc (suc (length gs)) - 1) (g ∷ gs) (omega arith)))

pub length_more :
    (l : List Field) (x : Field) → 2 ≤ length l → x ≡ slice_index_or l 0 x
    → length (line_of l) ≡ length (field_of x) + 1 + length (line_of (take (length l - 1) (drop 1 l)))
length_more l x h e = ap length (line_more l x h e) ∙ length-append (field_of x) (59 ∷ line_of (take (length l - 1) (drop 1 l))) ∙ omega arith
