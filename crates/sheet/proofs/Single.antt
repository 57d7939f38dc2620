-- Each stage of the judgement gives one outcome.
use Rattle.std.proofs.Common.{◌≡◌, ℕ, ◌+◌, ◌≤◌, ◌⊎◌, List, [], ◌∷◌, ◌++◌, length, sym, refl, ap, ◌∙◌, subst, inl, inr, ⊎_elim, append_assoc, arith}
use Rattle.std.proofs.lemmas.List.{append-nil}
use Rattle.text.specs.Spots.{Spot}
use Rattle.text.specs.Cuts.{cut_once}
use Rattle.text.proofs.Spots.{end_not, end_once, takes_not_why, why_once}
use Rattle.refusal.specs.declared.Refusal.{Refusal}
use Rattle.sheet.specs.declared.fault.SheetFault.{SheetFault}
use Rattle.sheet.specs.declared.fault.SheetFault.TheVariants.{Scan, Refused}
use Rattle.refusal.specs.Checks.{Checks, First, Free}
use Rattle.sheet.specs.Body.{Rules, Good, Refuses, Body, Out, passed, refused}
use Rattle.text.specs.Written.{lines_of}
use Rattle.text.proofs.Written.{lines_head}
use Rattle.sheet.specs.Judge.{and_then, give, refuse_if, ending}
use Rattle.sheet.proofs.Forms.{Kind}

abbrev pub Single : {A : Type 0} → (Spot → Out A → Type 0) → Type 0
Single {A} f = (p : Spot) (o o' : Out A) → f p o → f p o' → o ≡ o'

pub never : {A : Type 0} (a : A) (q : Spot) (e : SheetFault) → passed a q ≡ refused e → ⊥
never a q e h = let z : ◌≡◌ {A = ℕ} 0 1 = cc in omega arith

same_passed : {A : Type 0} (a b : A) (p q : Spot) → a ≡ b → p ≡ q → passed a p ≡ passed b q
same_passed a b p q e f = cc

pub first_free : (cs : Checks) (c : Refusal) → First cs c → Free cs → ⊥
first_free [] c f g = f
first_free (p ∷ ps) c f g = ⊎_elim (λ h. g.0 h.1) (λ h. first_free ps c h.1 g.1) f

pub first_once : (cs : Checks) (c d : Refusal) → First cs c → First cs d → c ≡ d
first_once [] c d f g = absurd f
first_once (p ∷ ps) c d f g =
    ⊎_elim (λ h. ⊎_elim (λ k. h.0 ∙ sym k.0) (λ k. absurd (k.0 h.1)) g)
    (λ h. ⊎_elim (λ k. absurd (h.0 k.1)) (λ k. first_once ps c d h.1 k.1) g) f

pub single_give : {A : Type 0} (a : A) → Single (give a)
single_give a p (passed b q) (passed b' q') h k = same_passed b b' q q' (h.0 ∙ sym k.0) (h.1 ∙ sym k.1)
single_give a p (passed b q) (refused e) h k = absurd k
single_give a p (refused e) o h k = absurd h

pub single_refuse_if : (P : Type 0) (cause : Refusal) → Single (refuse_if P cause)
single_refuse_if P cause p (passed u q) (passed v q') h k = same_passed u v q q' refl (h.1 ∙ sym k.1)
single_refuse_if P cause p (passed u q) (refused e) h k = absurd (h.0 k.0)
single_refuse_if P cause p (refused e) (passed v q') h k = absurd (k.0 h.0)
single_refuse_if P cause p (refused e) (refused e') h k = ap refused (h.1 ∙ sym k.1)

pub single_ending : Single ending
single_ending p (passed u q) (passed v q') h k = same_passed u v q q' refl (h.1 ∙ sym k.1)
single_ending p (passed u q) (refused e) h k = absurd (end_not p k.0 h.0 k.2)
single_ending p (refused e) (passed v q) h k = absurd (end_not p h.0 k.0 h.2)
single_ending p (refused e) (refused e') h k = ap refused (h.1 ∙ ap Scan (end_once p h.0 k.0 h.2 k.2) ∙ sym k.1)

-- how a chain of stages came to its outcome
parts :
    {A B : Type 0} (f : Spot → Out A → Type 0) (g : A → Spot → Out B → Type 0) (p : Spot) (o : Out B) → and_then f g p o
    → ((e : SheetFault) × (f p (refused e) × (o ≡ refused e))) ⊎ ((a : A) × ((q : Spot) × (f p (passed a q) × g a q o)))
parts f g p (passed b r) h = inr (h.0, (h.1.0, (h.1.1, h.1.2)))
parts f g p (refused e) h = ⊎_elim (λ k. inl (e, (k, refl))) (λ k. inr (k.0, (k.1.0, (k.1.1, k.1.2)))) h

pub single_then : {A B : Type 0} (f : Spot → Out A → Type 0) (g : A → Spot → Out B → Type 0) → Single f → ((a : A) → Single (g a)) → Single (and_then f g)
single_then {A} {B} f g sf sg p o o' h k =
    ⊎_elim
    (λ x. ⊎_elim
    (λ y.
    let r = sf p (refused x.0) (refused y.0) x.1.0 y.1.0 in
    let e : x.0 ≡ y.0 = cc in
    x.1.1 ∙ ap (λ (w : SheetFault). refused w) e ∙ sym y.1.1)
    (λ y. absurd (never y.0 y.1.0 x.0 (sf p (passed y.0 y.1.0) (refused x.0) y.1.1.0 x.1.0)))
    (parts f g p o' k))
    (λ x. ⊎_elim
    (λ y. absurd (never x.0 x.1.0 y.0 (sf p (passed x.0 x.1.0) (refused y.0) x.1.1.0 y.1.0)))
    (λ y.
    let e = sf p (passed y.0 y.1.0) (passed x.0 x.1.0) y.1.1.0 x.1.1.0 in
    let ea : y.0 ≡ x.0 = cc in
    let eq : y.1.0 ≡ x.1.0 = cc in
    sg x.0 x.1.0 o o' x.1.1.1 (subst (λ (q : Spot). g x.0 q o') eq (subst (λ (a : A). g a y.1.0 o') ea y.1.1.1)))
    (parts f g p o' k))
    (parts f g p o h)

line_once : {X : Type 0} {bytes : X → List ℕ} (kind : Kind bytes) (x y : X) (t r s : List ℕ) → t ≡ bytes x ++ (10 ∷ r) → t ≡ bytes y ++ (10 ∷ s) → (x ≡ y) × (r ≡ s)
line_once {X} {bytes} kind x y t r s e f =
    let c = cut_once 10 (bytes x) (bytes y) r s (kind.plain x) (kind.plain y) (sym e ∙ f) in
    (kind.once x y c.0, c.1)

-- a good line is not refused
clash :
    {X : Type 0} {bytes : X → List ℕ} (kind : Kind bytes) (rules : Rules X) (k : ℕ) (b : List X) (q : Spot) (e : SheetFault) (y : X) (r : List ℕ)
    → Refuses bytes rules k b q e → q.rest ≡ bytes y ++ (10 ∷ r) → Free (rules k b y) → ⊥
clash {X} {bytes} kind rules k b q (Scan s) y r h t f = takes_not_why bytes q y (record { rest = r; line = q.line + 1 }) s (t, refl) h
clash {X} {bytes} kind rules k b q (Refused c l) y r h t f =
    let x = h.1.0 in
    let z = h.1.1.0 in
    let same = line_once kind x y q.rest z.rest r h.1.1.1.0 t in
    first_free (rules k b y) c (subst (λ (w : X). First (rules k b w) c) same.0 h.1.1.2) f

refuses_once :
    {X : Type 0} {bytes : X → List ℕ} (kind : Kind bytes) (rules : Rules X) (k : ℕ) (b : List X) (q : Spot) (e d : SheetFault)
    → Refuses bytes rules k b q e → Refuses bytes rules k b q d → e ≡ d
refuses_once {X} {bytes} kind rules k b q (Scan s) (Scan t) h g = ap Scan (why_once bytes q s t h g)
refuses_once {X} {bytes} kind rules k b q (Scan s) (Refused c l) h g = absurd (takes_not_why bytes q g.1.0 g.1.1.0 s g.1.1.1 h)
refuses_once {X} {bytes} kind rules k b q (Refused c l) (Scan t) h g = absurd (takes_not_why bytes q h.1.0 h.1.1.0 t h.1.1.1 g)
refuses_once {X} {bytes} kind rules k b q (Refused c l) (Refused d m) h g =
    let same = line_once kind h.1.0 g.1.0 q.rest h.1.1.0.rest g.1.1.0.rest h.1.1.1.0 g.1.1.1.0 in
    let ce : c ≡ d = first_once (rules k b g.1.0) c d (subst (λ (w : X). First (rules k b w) c) same.0 h.1.1.2) g.1.1.2 in
    let le : l ≡ m = h.0 ∙ sym g.0 in
    cc

-- two readings of one body stop at the same place
same_front :
    {X : Type 0} {bytes : X → List ℕ} (kind : Kind bytes) (rules : Rules X) (k n m : ℕ) (b xs ys : List X) (q z : Spot)
    → lines_of bytes xs ++ q.rest ≡ lines_of bytes ys ++ z.rest → Good rules k b xs → Good rules k b ys → m + length xs ≤ n → m + length ys ≤ n
    → (m + length xs ≡ n) ⊎ ((e : SheetFault) × Refuses bytes rules k (b ++ xs) q e) → (m + length ys ≡ n) ⊎ ((e : SheetFault) × Refuses bytes rules k (b ++ ys) z e)
    → (xs ≡ ys) × (q.rest ≡ z.rest)
same_front kind rules k n m b [] [] q z t gx gy lx ly sx sy = (refl, t)
same_front {X} {bytes} kind rules k n m b [] (y ∷ ys) q z t gx gy lx ly sx sy =
    absurd (⊎_elim (λ e. omega arith)
    (λ e. clash kind rules k b q e.0 y (lines_of bytes ys ++ z.rest) (subst (λ (w : List X). Refuses bytes rules k w q e.0) (append-nil b) e.1) (t ∙ lines_head bytes y ys z.rest) gy.0) sx)
same_front {X} {bytes} kind rules k n m b (x ∷ xs) [] q z t gx gy lx ly sx sy =
    absurd (⊎_elim (λ e. omega arith)
    (λ e. clash kind rules k b z e.0 x (lines_of bytes xs ++ q.rest) (subst (λ (w : List X). Refuses bytes rules k w z e.0) (append-nil b) e.1) (sym t ∙ lines_head bytes x xs q.rest) gx.0) sy)
same_front {X} {bytes} kind rules k n m b (x ∷ xs) (y ∷ ys) q z t gx gy lx ly sx sy =
    let same = line_once kind x y (lines_of bytes (x ∷ xs) ++ q.rest) (lines_of bytes xs ++ q.rest) (lines_of bytes ys ++ z.rest) (lines_head bytes x xs q.rest) (t ∙ lines_head bytes y ys z.rest) in
    let e : x ≡ y = same.0 in
    let more =
    same_front kind rules k n (m + 1) (b ++ (x ∷ [])) xs ys q z same.1 gx.1 (subst (λ (w : X). Good rules k (b ++ (w ∷ [])) ys) (sym e) gy.1) (omega arith) (omega arith)
    (⊎_elim (λ h. inl (omega arith)) (λ h. inr (h.0, subst (λ (w : List X). Refuses bytes rules k w q h.0) (sym (append_assoc b (x ∷ []) xs)) h.1)) sx)
    (⊎_elim (λ h. inl (omega arith)) (λ h. inr (h.0, subst (λ (w : List X). Refuses bytes rules k w z h.0) (ap (λ (v : X). b ++ (v ∷ ys)) (sym e) ∙ sym (append_assoc b (x ∷ []) ys)) h.1)) sy) in
    let es = more.0 in
    (cc, more.1)

same_spot : (p q z : Spot) (i j : ℕ) → q.rest ≡ z.rest → q.line ≡ p.line + i → z.line ≡ p.line + j → i ≡ j → q ≡ z
same_spot p q z i j e f g h = let l : q.line ≡ z.line = omega arith in λ t. record { rest = e t; line = l t }

pub single_body : {X : Type 0} {bytes : X → List ℕ} (kind : Kind bytes) (rules : Rules X) (k count : ℕ) → Single (Body bytes rules k count)
single_body {X} {bytes} kind rules k count p (passed xs q) (passed ys z) h g =
    let lx = h.0 in
    let ly = g.0 in
    let s = same_front kind rules k count 0 [] xs ys q z (sym h.1.text ∙ g.1.text) h.1.good g.1.good (omega arith) (omega arith) (inl (omega arith)) (inl (omega arith)) in
    same_passed xs ys q z s.0 (same_spot p q z (length xs) (length ys) s.1 h.1.lines g.1.lines (ap length s.0))
single_body {X} {bytes} kind rules k count p (passed xs q) (refused e) h g =
    let lx = h.0 in
    let ys = g.0 in
    let z = g.1.0 in
    let ly = g.1.1 in
    let f = g.1.2 in
    let s = same_front kind rules k count 0 [] xs ys q z (sym h.1.text ∙ f.text) h.1.good f.good (omega arith) (omega arith) (inl (omega arith)) (inr (e, g.1.3)) in
    let l = ap length s.0 in
    absurd (omega arith)
single_body {X} {bytes} kind rules k count p (refused e) (passed ys z) g h =
    let lx = h.0 in
    let xs = g.0 in
    let q = g.1.0 in
    let ly = g.1.1 in
    let f = g.1.2 in
    let s = same_front kind rules k count 0 [] ys xs z q (sym h.1.text ∙ f.text) h.1.good f.good (omega arith) (omega arith) (inl (omega arith)) (inr (e, g.1.3)) in
    let l = ap length s.0 in
    absurd (omega arith)
single_body {X} {bytes} kind rules k count p (refused e) (refused d) h g =
    let xs = h.0 in
    let ys = g.0 in
    let q = h.1.0 in
    let z = g.1.0 in
    let lx = h.1.1 in
    let ly = g.1.1 in
    let fx = h.1.2 in
    let fy = g.1.2 in
    let s = same_front kind rules k count 0 [] xs ys q z (sym fx.text ∙ fy.text) fx.good fy.good (omega arith) (omega arith) (inr (e, h.1.3)) (inr (d, g.1.3)) in
    let eq : q ≡ z = same_spot p q z (length xs) (length ys) s.1 fx.lines fy.lines (ap length s.0) in
    ap (λ (w : SheetFault). refused w)
    (refuses_once kind rules k ys z e d (subst (λ (w : Spot). Refuses bytes rules k ys w e) eq (subst (λ (w : List X). Refuses bytes rules k w q e) s.0 h.1.3)) g.1.3)
