-- A field of digits, by its first and the rest; what is written of a number.
use Rattle.std.specs.Prelude.{◌≡◌, ℕ, zero, suc, ◌+◌, ◌/◌, ◌%◌, ◌<◌, ◌≤◌, List, [], ◌∷◌, length, Some, None, decimal, Option, slice_index}
use Rattle.std.proofs.Common.{sym, ap, ◌∙◌, subst, arith, rules}
use Rattle.std.specs.Int.{IsInRange}
use Rattle.std.proofs.lemmas.List.{length_push}
use Rattle.text.specs.Page.{Lacks}
use Rattle.std.proofs.lemmas.Str.Parse.{IsNumeralModel, numerals_by_fold, tells_by_index, digits_value_short}
use Rattle.std.proofs.lemmas.Fmt.{decimal-digits_value, digits_decimal, length-decimal-le, decimal_nonempty, first_decimal, decimal_digit, decimal_step}
use Rattle.text.specs.Digits.{value, Digits, Scanned, Decimal}

pub own : IsNumeralModel Digits (value 0)
own = numerals_by_fold _ tells_by_index value (search rules)

-- what is written of a number begins with 0 only if it is 0
lone_zero : (n : ℕ) → n < 100000 → slice_index (decimal n) 0 ≡ 48 → length (decimal n) ≡ 1
lone_zero zero lt e = ap length (decimal_digit 0 (omega arith))
lone_zero (suc n) lt e = let f = first_decimal (suc n) (omega arith) (omega arith) in absurd (omega arith)

pub reads : (l : List ℕ) (r : Option ℕ) → Scanned l r → Decimal l r
reads l (Some n) h =
    let short = h.1 in
    let v : value 0 l < 100000 = digits_value_short own l 5 h.2 h.1 in
    let is = h.4 in
    (omega arith, sym (ap decimal h.4 ∙ decimal-digits_value own l h.2 h.0 h.3 (omega arith)))
reads l None h = λ n lt e.
    let P : List ℕ → Type 0 = λ (x : List ℕ). (1 ≤ length x) × (length x ≤ 5) × Digits x × (slice_index x 0 ≡ 48 → length x ≡ 1) in
    let p : P l = subst P (sym e) (decimal_nonempty n (omega arith), length-decimal-le 5 n (omega arith) (omega arith) (omega arith), digits_decimal own n (omega arith), lone_zero n lt) in
    h p.0 p.1 p.2 p.3

pub one_digit : (n : ℕ) → n < 10 → length (decimal n) ≡ 1
one_digit n lt = ap length (decimal_digit n lt)

pub more_digits : (n : ℕ) → 10 ≤ n → n < 100000 → length (decimal n) ≡ length (decimal (n / 10)) + 1
more_digits n le lt = ap length (decimal_step n le (omega arith)) ∙ length_push (decimal (n / 10)) (48 + n % 10)

pub two_digits : (n : ℕ) → 10 ≤ n → n < 100 → length (decimal n) ≡ 2
two_digits n le lt = let m = more_digits n le (omega arith) in let k = one_digit (n / 10) (omega arith) in omega arith

pub three_digits : (n : ℕ) → 100 ≤ n → n < 1000 → length (decimal n) ≡ 3
three_digits n le lt = let m = more_digits n (omega arith) (omega arith) in let k = two_digits (n / 10) (omega arith) (omega arith) in omega arith

pub four_digits : (n : ℕ) → 1000 ≤ n → n < 10000 → length (decimal n) ≡ 4
four_digits n le lt = let m = more_digits n (omega arith) (omega arith) in let k = three_digits (n / 10) (omega arith) (omega arith) in omega arith

pub five_digits : (n : ℕ) → 10000 ≤ n → n < 100000 → length (decimal n) ≡ 5
five_digits n le lt = let m = more_digits n (omega arith) lt in let k = four_digits (n / 10) (omega arith) (omega arith) in omega arith

pub few_digits : (n : ℕ) → n < 100000 → length (decimal n) ≤ 5
few_digits n lt = length-decimal-le 5 n (omega arith) (omega arith) (omega arith)

pub lacks_digits : (c : ℕ) (l : List ℕ) → (IsInRange 48 57 c → ⊥) → Digits l → Lacks c l
lacks_digits c [] out all = tt
lacks_digits c (x ∷ xs) out all = ((λ e. out (subst (IsInRange 48 57) e (all 0 (omega arith)))), lacks_digits c xs out (λ k lt. all (suc k) (omega arith)))

pub lacks_decimal : (c n : ℕ) → (IsInRange 48 57 c → ⊥) → n < 100000 → Lacks c (decimal n)
lacks_decimal c n out lt = lacks_digits c (decimal n) out (digits_decimal own n (omega arith))
