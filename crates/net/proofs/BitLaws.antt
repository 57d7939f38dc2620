-- Bits of words: one more is set, and how many are set.
use Rattle.std.proofs.Common.{◌≡◌, ℕ, zero, suc, ◌+◌, ◌*◌, ◌/◌, ◌%◌, ◌^◌, ◌<◌, Bool, cond, ◌||◌, eqb, List, [], ◌∷◌, length, get_or, sum_by, set, sym, refl, ap, ◌∙◌, subst, ap₂, inl, inr, add-zero, mod-lt, div-one, add-one, arith, lit<, w64, bit_or, get_or-set_other, get_or-set_same, shr-shr, shr_lt}
use lib.Arith.{digits_div, digits_mod, lt-one}
use lib.Count.{ones, ones_step}
use Rattle.std.proofs.lemmas.Bool.{cases_eq, eq-eqb, ne_eqb}
use Rattle.std.proofs.lemmas.List.Sums.{sum_by-cons}
use Rattle.std.proofs.lemmas.Nat.Bits.{bit_at_set_same, bit_at_set_other}
use Rattle.rounds.specs.Marks.{count_marked}
use Rattle.net.specs.Bits.{bit, in_words}
use Rattle.net.proofs.CountLaws.{count_append}

-- the words once the bit of v is set
pub add_bit :
    (ws : List ℕ) (v w : ℕ) → v / 64 < length ws
    → in_words (set ws (v / 64) (bit_or (get_or ws (v / 64) 0) (1 * 2 ^ (v % 64) % 2 ^ 64))) w ≡ (eqb w v || in_words ws w)
add_bit ws v w lt =
    let x = get_or ws (v / 64) 0 in
    let y = bit_or x (1 * 2 ^ (v % 64) % 2 ^ 64) in
    elim (cases_eq w v) [
      | inl e ↦ rw (e, eq-eqb v v refl, get_or-set_same ws (v / 64) y 0 lt) (ap (λ (z : ℕ). eqb z 1) (bit_at_set_same w64 x (v % 64) (omega arith)))
      | inr ne ↦
          rw (ne_eqb w v ne)
          (elim (cases_eq (w / 64) (v / 64)) [
            | inl q ↦ rw (q, get_or-set_same ws (v / 64) y 0 lt) (ap (λ (z : ℕ). eqb z 1) (bit_at_set_other w64 x (v % 64) (omega arith) (w % 64) (λ r. ne (omega arith))))
            | inr q ↦ rw (get_or-set_other ws (v / 64) (w / 64) y 0 q) refl
          ])
    ]

digit : (b : ℕ) → b < 2 → cond (eqb b 1) 1 0 ≡ b
digit zero h = refl
digit (suc zero) h = refl
digit (suc (suc b)) h = absurd (omega arith)

count_word : (k x : ℕ) (f : ℕ → Bool) → ((t : ℕ) → t < k → f t ≡ bit x t) → x < 2 ^ k → count_marked k f ≡ ones x
unfolding ones
count_word zero x f h lt = sym (ap ones (lt-one lt))
count_word (suc k) x f h lt =
    let here : f 0 ≡ eqb (x % 2) 1 = h 0 (omega arith) ∙ ap (λ (z : ℕ). eqb (z % 2) 1) (div-one x) in
    let one : count_marked 1 f ≡ x % 2 = add-zero (cond (f 0) 1 0) ∙ ap (λ (b : Bool). cond b 1 0) here ∙ digit (x % 2) (mod-lt x (lit< tt)) in
    let rest = count_word k (x / 2) (λ t. f (1 + t)) (λ t l. h (1 + t) (omega arith) ∙ ap (λ (z : ℕ). eqb (z % 2) 1) (sym (shr-shr x 1 t))) (shr_lt k 1 (subst (λ (z : ℕ). x < 2 ^ z) (sym (add-one k)) lt)) in
    let long : suc k ≡ 1 + k = omega arith in
    ap (λ n. count_marked n f) long ∙ count_append 1 k f ∙ ap₂ ◌+◌ one rest ∙ sym (ones_step x)

count_words : (ws : List ℕ) (f : ℕ → Bool) → ((j t : ℕ) → j < length ws → t < 64 → f (j * 64 + t) ≡ bit (get_or ws j 0) t) → ((j : ℕ) → get_or ws j 0 < 2 ^ 64) → sum_by ones ws ≡ count_marked (length ws * 64) f
count_words [] f h lt = refl
count_words (x ∷ ws) f h lt =
    let here = count_word 64 x f (λ t l. ap f (omega arith) ∙ h 0 t (omega arith) l) (lt 0) in
    let rest = count_words ws (λ t. f (64 + t)) (λ j t k l. ap f (omega arith) ∙ h (suc j) t (omega arith) l) (λ j. lt (suc j)) in
    let long : 64 + length ws * 64 ≡ suc (length ws) * 64 = omega arith in
    sum_by-cons ones x ws ∙ ap₂ ◌+◌ (sym here) rest ∙ sym (count_append 64 (length ws * 64) f) ∙ ap (λ n. count_marked n f) long

-- the word j, by its places
at_word : (ws : List ℕ) (j t : ℕ) → t < 64 → in_words ws (j * 64 + t) ≡ bit (get_or ws j 0) t
at_word ws j t lt = ap₂ (λ (a b : ℕ). bit (get_or ws a 0) b) (digits_div j lt) (digits_mod j lt)

-- bits counted word by word
pub count_bits : (ws : List ℕ) → ((j : ℕ) → get_or ws j 0 < 2 ^ 64) → sum_by ones ws ≡ count_marked (length ws * 64) (in_words ws)
count_bits ws lt = count_words ws (in_words ws) (λ j t k l. at_word ws j t l) lt
