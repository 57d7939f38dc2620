-- Counting the numbers below n that pass.
use Rattle.std.proofs.Common.{◌≡◌, ℕ, zero, suc, ◌+◌, ◌<◌, ◌≤◌, ◌⊎◌, sym, refl, ap, subst, inl, inr, arith}
use Rattle.std.proofs.lemmas.Bool.{cases_eq}
use Rattle.lists.proofs.Decisions.{Decided, either?}
use Rattle.rounds.specs.Forest.{Counted, none, pass, fail}

pub counted_unique : {P : ℕ → Type 0} {n m k : ℕ} → Counted P n m → Counted P n k → m ≡ k
counted_unique none none = refl
counted_unique (pass p a) (pass q b) = ap suc (counted_unique a b)
counted_unique (pass p a) (fail q b) = absurd (q p)
counted_unique (fail p a) (pass q b) = absurd (p q)
counted_unique (fail p a) (fail q b) = counted_unique a b

pub counted_le : {P : ℕ → Type 0} {n m : ℕ} → Counted P n m → m ≤ n
counted_le none = omega arith
counted_le (pass p c) = let t = counted_le c in omega arith
counted_le (fail p c) = let t = counted_le c in omega arith

pub counted_map : (P Q : ℕ → Type 0) (n m : ℕ) → ((u : ℕ) → u < n → P u → Q u) → ((u : ℕ) → u < n → Q u → P u) → Counted P n m → Counted Q n m
counted_map P Q n m f g none = none
counted_map P Q n m f g (pass {n = k} p c) = pass (f k (omega arith) p) (counted_map P Q k _ (λ u l. f u (omega arith)) (λ u l. g u (omega arith)) c)
counted_map P Q n m f g (fail {n = k} p c) = fail (λ q. p (g k (omega arith) q)) (counted_map P Q k _ (λ u l. f u (omega arith)) (λ u l. g u (omega arith)) c)

-- 1 for what holds, 0 for what does not
abbrev pub score : {P : Type 0} → Decided P → ℕ
score (inl p) = 1
score (inr p) = 0

pub score_yes : {P : Type 0} (d : Decided P) → P → score d ≡ 1
score_yes (inl p) h = refl
score_yes (inr p) h = absurd (p h)

pub score_no : {P : Type 0} (d : Decided P) → (P → ⊥) → score d ≡ 0
score_no (inl p) h = absurd (h p)
score_no (inr p) h = refl

pub score_le : {P Q : Type 0} (d : Decided P) (e : Decided Q) → (P → Q) → score d ≤ score e
score_le (inl p) e h = omega (arith, score_yes e (h p))
score_le (inr p) e h = omega arith

-- the number of those below n that pass, where each is decided
abbrev pub tally : (P : ℕ → Type 0) → ((u : ℕ) → Decided (P u)) → ℕ → ℕ
tally P d zero = 0
tally P d (suc n) = score (d n) + tally P d n

pub tally_counted : (P : ℕ → Type 0) (d : (u : ℕ) → Decided (P u)) (n : ℕ) → Counted P n (tally P d n)
tally_counted P d zero = none
tally_counted P d (suc n) = elim (d n) as (λ z. Counted P (suc n) (score z + tally P d n)) [ inl p ↦ subst (Counted P (suc n)) (omega arith) (pass p (tally_counted P d n)) | inr p ↦ subst (Counted P (suc n)) (omega arith) (fail p (tally_counted P d n)) ]

pub tally_all : (n : ℕ) → tally (λ _. Unit {0}) (λ _. inl tt) n ≡ n
tally_all zero = refl
tally_all (suc n) = let t = tally_all n in omega arith

-- one number below n equals v
pub tally_equal : (v n : ℕ) → v < n → tally (λ u. u ≡ v) (λ u. cases_eq u v) n ≡ 1
tally_equal v zero h = absurd (omega arith)
tally_equal v (suc n) h = elim (cases_eq n v) [ inl e ↦ (let a = score_yes (cases_eq n v) e in let b = past n (omega arith) in omega arith) | inr e ↦ (let a = score_no (cases_eq n v) e in let b = tally_equal v n (omega arith) in omega arith) ]
  where
    past : (m : ℕ) → m ≤ v → tally (λ u. u ≡ v) (λ u. cases_eq u v) m ≡ 0
    past zero h = refl
    past (suc m) h = let a = score_no (cases_eq m v) (λ e. absurd (omega arith)) in let b = past m (omega arith) in omega arith

-- what passes P passes Q
module _ (P Q : ℕ → Type 0) (d : (u : ℕ) → Decided (P u)) (e : (u : ℕ) → Decided (Q u)) where
  pub tally_le : (n : ℕ) → ((v : ℕ) → v < n → P v → Q v) → tally P d n ≤ tally Q e n
  tally_le zero h = omega arith
  tally_le (suc n) h = let a = tally_le n (λ v l. h v (omega arith)) in let b = score_le (d n) (e n) (h n (omega arith)) in omega arith

  -- and one more does
  pub tally_one : (n v : ℕ) → ((v : ℕ) → v < n → P v → Q v) → v < n → (P v → ⊥) → Q v → tally P d n + 1 ≤ tally Q e n
  tally_one zero v h l a b = absurd (omega arith)
  tally_one (suc n) v h l a b = elim (cases_eq v n) [ inl x ↦ (let p = score_no (d n) (subst (λ z. P z → ⊥) x a) in let q = score_yes (e n) (subst Q x b) in let t = tally_le n (λ v l. h v (omega arith)) in omega arith) | inr x ↦ (let t = tally_one n v (λ v l. h v (omega arith)) (omega arith) a b in let s = score_le (d n) (e n) (h n (omega arith)) in omega arith) ]

-- and two more do: the first joins P
pub tally_two : (P Q : ℕ → Type 0) (d : (u : ℕ) → Decided (P u)) (e : (u : ℕ) → Decided (Q u)) (n v u : ℕ) → ((v : ℕ) → v < n → P v → Q v) → (v ≡ u → ⊥) → v < n → (P v → ⊥) → Q v → u < n → (P u → ⊥) → Q u → tally P d n + 2 ≤ tally Q e n
tally_two P Q d e n v u h ne l a b m c f =
    let More : ℕ → Type 0 = λ w. P w ⊎ (w ≡ v) in
    let more? : (w : ℕ) → Decided (More w) = λ w. either? (d w) (cases_eq w v) in
    let one = tally_one P More d more? n v (λ w _ p. inl p) l a (inr refl) in
    let two = tally_one More Q more? e n u (λ w k t. elim t [ inl p ↦ h w k p | inr x ↦ subst Q (sym x) b ]) m (λ t. elim t [ inl p ↦ c p | inr x ↦ ne (sym x) ]) f in
    omega arith
