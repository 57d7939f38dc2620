-- Deciding what holds: of equal things, of the elements of a list, of the numbers below another.
use Rattle.std.proofs.Common.{◌≡◌, ℕ, zero, suc, ◌<◌, ◌≤◌, ◌⊎◌, List, [], ◌∷◌, sym, refl, ap, ◌∙◌, subst, inl, inr, arith}
use mathlib.Core.HLevel.{⊥_prop}
use mathlib.Core.Logic.{∥∥₁_elim}
use Rattle.std.proofs.lemmas.Bool.{cases_eq, cases_lt}
use Rattle.lists.specs.Members.{Among, Once}

abbrev pub Decided : Type 0 → Type 0
Decided P = P ⊎ (P → ⊥)

pub both? : {P Q : Type 0} → Decided P → Decided Q → Decided (P × Q)
both? (inl p) (inl q) = inl (p, q)
both? (inl p) (inr q) = inr (λ t. q t.1)
both? (inr p) d = inr (λ t. p t.0)

pub either? : {P Q : Type 0} → Decided P → Decided Q → Decided (P ⊎ Q)
either? (inl p) d = inl (inl p)
either? (inr p) (inl q) = inl (inr q)
either? (inr p) (inr q) = inr (λ t. elim t [ inl a ↦ p a | inr b ↦ q b ])

pub not? : {P : Type 0} → Decided P → Decided (P → ⊥)
not? (inl p) = inr (λ h. h p)
not? (inr p) = inl p

-- what is decided comes out of a truncation, as a ghost field has it
pub decided_from : {P : Type 0} → Decided P → ∥ P ∥₁ → P
decided_from (inl p) t = p
decided_from (inr n) t = absurd (∥∥₁_elim t ⊥_prop n)

pub same? : {P Q : Type 0} → (P → Q) → (Q → P) → Decided P → Decided Q
same? f g (inl p) = inl (f p)
same? f g (inr n) = inr (λ q. n (g q))

pub lt? : (a b : ℕ) → Decided (a < b)
lt? a b = elim (cases_lt a b) [ inl l ↦ inl l | inr l ↦ inr (λ h. absurd (omega arith)) ]

pub le? : (a b : ℕ) → Decided (a ≤ b)
le? a b = elim (cases_lt b a) [ inl l ↦ inr (λ h. absurd (omega arith)) | inr l ↦ inl l ]

pub same_pair : {X Y : Type 0} {a c : X} {b d : Y} → a ≡ c → b ≡ d → ◌≡◌ {A = X × Y} (a, b) (c, d)
same_pair {X} {Y} {a} {c} {b} {d} e f = ap {A = X} {B = X × Y} (λ z. (z, b)) e ∙ ap {A = Y} {B = X × Y} (λ z. (c, z)) f

pub pair? : {X Y : Type 0} → ((x y : X) → Decided (x ≡ y)) → ((x y : Y) → Decided (x ≡ y)) → (p q : X × Y) → Decided (p ≡ q)
pair? {X} {Y} f g p q = go (f p.0 q.0) (g p.1 q.1)
  where
    go : Decided (p.0 ≡ q.0) → Decided (p.1 ≡ q.1) → Decided (p ≡ q)
    go (inl a) (inl b) = inl (same_pair a b)
    go (inl a) (inr b) = inr (λ e. b (ap (λ (z : X × Y). z.1) e))
    go (inr a) d = inr (λ e. a (ap (λ (z : X × Y). z.0) e))

-- whether x stands in the list
pub among? : {X : Type 0} → ((x y : X) → Decided (x ≡ y)) → (x : X) (xs : List X) → Decided (Among x xs)
among? f x [] = inr (λ h. h)
among? f x (y ∷ ys) = either? (f x y) (among? f x ys)

pub among_number? : (x : ℕ) (xs : List ℕ) → Decided (Among x xs)
among_number? x xs = among? cases_eq x xs

pub among_pair? : (x : ℕ × ℕ) (xs : List (ℕ × ℕ)) → Decided (Among x xs)
among_pair? x xs = among? (pair? cases_eq cases_eq) x xs

-- whether some element of the list passes
pub any? : {X : Type 0} (P : X → Type 0) → ((u : X) → Decided (P u)) → (xs : List X) → Decided ((u : X) × Among u xs × P u)
any? P d [] = inr (λ t. t.1)
any? {X} P d (x ∷ xs) = go (d x) (any? P d xs)
  where
    go : Decided (P x) → Decided ((u : X) × Among u xs × P u) → Decided ((u : X) × Among u (x ∷ xs) × P u)
    go (inl p) r = inl (x, inl refl, p)
    go (inr p) (inl t) = inl (t.0, inr t.1, t.2)
    go (inr p) (inr q) = inr (λ t. elim t.1 [ inl e ↦ p (subst P e t.2) | inr m ↦ q (t.0, m, t.2) ])

-- whether every element of the list passes
pub all? : {X : Type 0} (P : X → Type 0) → ((u : X) → Decided (P u)) → (xs : List X) → Decided ((u : X) → Among u xs → P u)
all? {X} P d xs = go (any? (λ u. P u → ⊥) (λ u. not? (d u)) xs)
  where
    go : Decided ((u : X) × Among u xs × (P u → ⊥)) → Decided ((u : X) → Among u xs → P u)
    go (inl t) = inr (λ h. t.2 (h t.0 t.1))
    go (inr q) = inl (λ u m. elim (d u) [ inl p ↦ p | inr p ↦ absurd (q (u, m, p)) ])

-- whether no element stands twice
pub once? : {X : Type 0} → ((x y : X) → Decided (x ≡ y)) → (xs : List X) → Decided (Once xs)
once? f [] = inl tt
once? f (x ∷ xs) = both? (not? (among? f x xs)) (once? f xs)

-- whether some number below n passes
pub below? : (P : ℕ → Type 0) → ((u : ℕ) → Decided (P u)) → (n : ℕ) → Decided ((u : ℕ) × (u < n) × P u)
below? P d zero = inr (λ t. absurd (omega (arith, t.1)))
below? P d (suc n) = go (d n) (below? P d n)
  where
    go : Decided (P n) → Decided ((u : ℕ) × (u < n) × P u) → Decided ((u : ℕ) × (u < suc n) × P u)
    go (inl p) r = inl (n, omega arith, p)
    go (inr p) (inl t) = inl (t.0, omega (arith, t.1), t.2)
    go (inr p) (inr q) = inr (λ t. elim (cases_eq t.0 n) [ inl e ↦ p (subst P e t.2) | inr e ↦ q (t.0, omega (arith, t.1), t.2) ])

-- either one thing holds, or another of each number below n
pub either_all : (H : Type 0) (X : ℕ → Type 0) (n : ℕ) → ((v : ℕ) → v < n → H ⊎ X v) → H ⊎ ((v : ℕ) → v < n → X v)
either_all H X zero h = inr (λ v l. absurd (omega arith))
either_all H X (suc n) h = go (h n (omega arith)) (either_all H X n (λ v l. h v (omega arith)))
  where
    go : H ⊎ X n → H ⊎ ((v : ℕ) → v < n → X v) → H ⊎ ((v : ℕ) → v < suc n → X v)
    go (inl a) r = inl a
    go (inr a) (inl b) = inl b
    go (inr a) (inr b) = inr (λ v l. elim (cases_eq v n) [ inl e ↦ subst X (sym e) a | inr e ↦ b v (omega arith) ])

-- whether every number below n passes
pub all_below? : (P : ℕ → Type 0) → ((u : ℕ) → Decided (P u)) → (n : ℕ) → Decided ((u : ℕ) → u < n → P u)
all_below? P d n = go (below? (λ u. P u → ⊥) (λ u. not? (d u)) n)
  where
    go : Decided ((u : ℕ) × (u < n) × (P u → ⊥)) → Decided ((u : ℕ) → u < n → P u)
    go (inl t) = inr (λ h. t.2 (h t.0 t.1))
    go (inr q) = inl (λ u l. elim (d u) [ inl p ↦ p | inr p ↦ absurd (q (u, l, p)) ])

-- the least number that passes, where one below k does
pub least_below : (P : ℕ → Type 0) → ((u : ℕ) → Decided (P u)) → (k : ℕ) → ((d : ℕ) × P d × ((e : ℕ) → e < d → P e → ⊥)) ⊎ ((e : ℕ) → e < k → P e → ⊥)
least_below P d zero = inr (λ e l. absurd (omega arith))
least_below P d (suc k) = go (d k) (least_below P d k)
  where
    go : Decided (P k) → ((d : ℕ) × P d × ((e : ℕ) → e < d → P e → ⊥)) ⊎ ((e : ℕ) → e < k → P e → ⊥) → ((d : ℕ) × P d × ((e : ℕ) → e < d → P e → ⊥)) ⊎ ((e : ℕ) → e < suc k → P e → ⊥)
    go r (inl t) = inl t
    go (inl p) (inr h) = inl (k, p, h)
    go (inr p) (inr h) = inr (λ e l q. elim (cases_eq e k) [ inl x ↦ p (subst P x q) | inr x ↦ h e (omega arith) q ])

-- the least number that passes, from one that does
pub least_of : (P : ℕ → Type 0) → ((u : ℕ) → Decided (P u)) → (k : ℕ) → P k → (d : ℕ) × P d × ((e : ℕ) → P e → d ≤ e)
least_of P d k p = elim (least_below P d (suc k)) [ inl t ↦ (t.0, t.1, λ e q. elim (cases_lt e t.0) [ inl l ↦ absurd (t.2 e l q) | inr l ↦ l ]) | inr h ↦ absurd (h k (omega arith) p) ]
