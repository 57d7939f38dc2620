-- Numbers are equal if their values are, and so are what is written of them.
use Rattle.std.specs.Prelude.{◌≡◌, ℕ, ◌<◌, ◌≤◌, length}
use mathlib.Core.HLevel.{is_prop→PathP}
use Rattle.std.proofs.Common.{arith}
use Rattle.std.proofs.Math.Bridge.{le_prop}
use Rattle.std.specs.Int.{IsInRange}
use Rattle.std.proofs.lemmas.Fmt.{decimal_injective}
use Rattle.text.specs.declared.number.Number.{Number}
use Rattle.text.specs.Number.{written}
use Rattle.text.specs.Page.{Lacks}
use Rattle.text.specs.DigitsLemmas.{few_digits, lacks_decimal}

pub same_number : (m n : Number) → m.value ≡ n.value → m ≡ n
same_number m n p = λ i. record {
  value = p i;
  five = is_prop→PathP (λ j. p j < 100000) (λ j. le_prop) m.five n.five i;
}

pub written_once : (m n : Number) → written m ≡ written n → m ≡ n
written_once m n e =
    let p : m.value < 100000 = m.five in
    let q : n.value < 100000 = n.five in
    same_number m n (decimal_injective m.value n.value (omega arith) (omega arith) e)

pub written_short : (n : Number) → length (written n) ≤ 5
written_short n = few_digits n.value n.five

-- a byte that is no digit
pub lacks_written : (c : ℕ) (n : Number) → (IsInRange 48 57 c → ⊥) → Lacks c (written n)
lacks_written c n out = lacks_decimal c n.value out n.five
