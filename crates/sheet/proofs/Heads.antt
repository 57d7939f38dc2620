-- The contents lines: four good ones are those of their numbers, within the limits.
use Rattle.std.proofs.Common.{◌≡◌, ℕ, ◌<◌, ◌≤◌, List, [], ◌∷◌, length, get_or, take, sym, refl, ◌∙◌, subst, ⊎_elim, arith}
use Rattle.std.proofs.lemmas.Bool.{cases_eq, cases_lt}
use Rattle.text.specs.declared.contents.Word.{Word}
use Rattle.text.specs.declared.contents.Word.TheVariants.{Nodes, Links, Faults, Turns}
use Rattle.text.specs.declared.contents.ContentsLine.{ContentsLine}
use Rattle.sheet.specs.declared.contents.Contents.{Contents}
use Rattle.sheet.specs.Body.{Good}
use Rattle.sheet.specs.Kinds.{contents_rules, least, most, order}
use Rattle.sheet.specs.Judge.{numbers}
use Rattle.sheet.specs.Sheets.{Within, heads}

-- what is not refused holds
settled : (a b : ℕ) → ((a ≡ b → ⊥) → ⊥) → a ≡ b
settled a b h = ⊎_elim (λ e. e) (λ ne. absurd (h ne)) (cases_eq a b)

ranged : (l n m : ℕ) → (((l ≤ n) × (n ≤ m) → ⊥) → ⊥) → (l ≤ n) × (n ≤ m)
ranged l n m h =
    ⊎_elim (λ (lt : n < l). absurd (h (λ p. let q = p.0 in omega arith)))
    (λ le. ⊎_elim (λ (lt : m < n). absurd (h (λ p. let q = p.1 in omega arith))) (λ up. (le, up)) (cases_lt m n)) (cases_lt n l)

order_once : (v w : Word) → order v ≡ order w → v ≡ w
order_once Nodes Nodes e = refl
order_once Nodes Links e = absurd (omega arith)
order_once Nodes Faults e = absurd (omega arith)
order_once Nodes Turns e = absurd (omega arith)
order_once Links Nodes e = absurd (omega arith)
order_once Links Links e = refl
order_once Links Faults e = absurd (omega arith)
order_once Links Turns e = absurd (omega arith)
order_once Faults Nodes e = absurd (omega arith)
order_once Faults Links e = absurd (omega arith)
order_once Faults Faults e = refl
order_once Faults Turns e = absurd (omega arith)
order_once Turns Nodes e = absurd (omega arith)
order_once Turns Links e = absurd (omega arith)
order_once Turns Faults e = absurd (omega arith)
order_once Turns Turns e = refl

-- a good contents line at a word's place has that word, and a number within its limits
line_is : (before : List ContentsLine) (x : ContentsLine) (w : Word) → order w ≡ length before → Good contents_rules 0 before (x ∷ [])
    → (x ≡ record { word = w; number = x.number }) × (least w ≤ x.number.value) × (x.number.value ≤ most w)
line_is before x w at g =
    let is : x.word ≡ w = order_once x.word w (settled _ _ g.0.0 ∙ sym at) in
    let r = ranged _ _ _ g.0.1.0 in
    let s : (least w ≤ x.number.value) × (x.number.value ≤ most w) = subst (λ (v : Word). (least v ≤ x.number.value) × (x.number.value ≤ most v)) is r in
    ((λ t. record { word = is t; number = x.number }), s.0, s.1)

-- four good lines are the contents lines of their numbers, which are within their limits
pub heads_good : (cs : List ContentsLine) → length cs ≡ 4 → Good contents_rules 0 [] cs → (cs ≡ heads (numbers cs)) × Within (numbers cs)
heads_good [] h g = absurd (omega arith)
heads_good (a ∷ []) h g = absurd (omega arith)
heads_good (a ∷ (b ∷ [])) h g = absurd (omega arith)
heads_good (a ∷ (b ∷ (c ∷ []))) h g = absurd (omega arith)
heads_good (a ∷ (b ∷ (c ∷ (d ∷ [])))) h g =
    let A = line_is [] a Nodes refl (g.0, tt) in
    let B = line_is (a ∷ []) b Links refl (g.1.0, tt) in
    let C = line_is (a ∷ (b ∷ [])) c Faults refl (g.1.1.0, tt) in
    let D = line_is (a ∷ (b ∷ (c ∷ []))) d Turns refl (g.1.1.1.0, tt) in
    let ea = A.0 in
    let eb = B.0 in
    let ec = C.0 in
    let ed = D.0 in
    (cc, record { nodes_some = A.1; nodes_most = A.2; links_most = B.2; faults_most = C.2; turns_most = D.2 })
heads_good (a ∷ (b ∷ (c ∷ (d ∷ (e ∷ l))))) h g = absurd (omega arith)

-- numbers within their limits make four good lines
pub good_heads : (ns : Contents) → Within ns → Good contents_rules 0 [] (heads ns)
good_heads ns w =
    let s = w.nodes_some in
    let a = w.nodes_most in
    let b = w.links_most in
    let c = w.faults_most in
    let d = w.turns_most in (
      ((λ ne. ne refl), ((λ ne. ne (omega arith, omega arith)), tt)),
      (
        ((λ ne. ne refl), ((λ ne. ne (omega arith, omega arith)), tt)),
        (
          ((λ ne. ne refl), ((λ ne. ne (omega arith, omega arith)), tt)),
          (((λ ne. ne refl), ((λ ne. ne (omega arith, omega arith)), tt)), tt),
        ),
      ),
    )

-- the numbers as the code takes them out of four lines
pub numbers_read : (l : List ContentsLine) (w x y z : ContentsLine) → length l ≡ 4
    → ◌≡◌ {A = Contents} (record { nodes = (get_or l 0 w).number; links = (get_or l 1 x).number; faults = (get_or l 2 y).number; turns = (get_or l 3 z).number }) (numbers (take 4 l))
numbers_read [] w x y z h = absurd (omega arith)
numbers_read (a ∷ []) w x y z h = absurd (omega arith)
numbers_read (a ∷ (b ∷ [])) w x y z h = absurd (omega arith)
numbers_read (a ∷ (b ∷ (c ∷ []))) w x y z h = absurd (omega arith)
numbers_read (a ∷ (b ∷ (c ∷ (d ∷ l)))) w x y z h = refl
