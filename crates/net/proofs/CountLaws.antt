-- Marks counted: past the nodes there are none, and all nodes are marked once no more are awaited.
use Rattle.std.proofs.Common.{◌≡◌, ℕ, zero, suc, ◌+◌, ◌-◌, ◌<◌, ◌≤◌, Bool, true, false, cond, refl, ap, ◌∙◌, add-zero, sym, arith}
use Rattle.std.proofs.lemmas.Bool.{cond-false, false_from_ne_true}
use Rattle.rounds.specs.Marks.{marked, all_marked, count_marked}
use Rattle.rounds.proofs.MarksLaws.{all_count, count_low}

pub count_append : (k l : ℕ) (f : ℕ → Bool) → count_marked (k + l) f ≡ count_marked k f + count_marked l (λ t. f (k + t))
count_append k zero f = ap (λ n. count_marked n f) (add-zero k) ∙ sym (add-zero (count_marked k f))
count_append k (suc l) f =
    let e : k + suc l ≡ suc (k + l) = omega arith in
    let rest = count_append k l f in
    ap (λ n. count_marked n f) e ∙ omega arith

count_none : (n : ℕ) (f : ℕ → Bool) → ((w : ℕ) → w < n → f w ≡ false) → count_marked n f ≡ 0
count_none zero f h = refl
count_none (suc n) f h =
    let here = cond-false {A = ℕ} (f n) 1 0 (h n (omega arith)) in
    let rest = count_none n f (λ w l. h w (omega arith)) in
    omega arith

-- no mark from n on
pub count_inside : (n m : ℕ) (f : ℕ → Bool) → n ≤ m → ((w : ℕ) → n ≤ w → w < m → f w ≡ false) → count_marked m f ≡ count_marked n f
count_inside n m f l h =
    let e : m ≡ n + (m - n) = omega arith in
    let none = count_none (m - n) (λ t. f (n + t)) (λ t k. h (n + t) (omega arith) (omega arith)) in
    ap (λ k. count_marked k f) e ∙ count_append n (m - n) f ∙ omega arith

count_same : (n : ℕ) (f g : ℕ → Bool) → ((w : ℕ) → w < n → f w ≡ g w) → count_marked n f ≡ count_marked n g
count_same zero f g h = refl
count_same (suc n) f g h =
    let here : ◌≡◌ {A = ℕ} (cond (f n) 1 0) (cond (g n) 1 0) = ap (λ (b : Bool). cond b 1 0) (h n (omega arith)) in
    let rest = count_same n f g (λ w l. h w (omega arith)) in
    omega arith

-- the marks g are f with one on v
module _ (n v : ℕ) (f g : ℕ → Bool) (is : (w : ℕ) → w < n → g w ≡ marked f v w) where
  same : count_marked n g ≡ count_marked n (marked f v)
  same = count_same n g (marked f v) is

  pub set_full : n - count_marked n g ≡ 0 → all_marked n (marked f v) ≡ true
  set_full e = let l = count_low n g in let s = same in (all_count n (marked f v)).1 (omega arith)

  pub set_part : (n - count_marked n g ≡ 0 → ⊥) → all_marked n (marked f v) ≡ false
  set_part ne = false_from_ne_true _ (λ e. ne (let s = same in let t = (all_count n (marked f v)).0 e in omega arith))
