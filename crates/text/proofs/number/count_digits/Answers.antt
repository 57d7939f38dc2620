use Rattle.std.proofs.Common.{arith}
use Rattle.std.proofs.lemmas.Bool.Decides.{nat_tests}
use Rattle.text.specs.DigitsLemmas.{one_digit, two_digits, three_digits, four_digits, five_digits}
use Rattle.text.proofs.number.count_digits.Goals as goal

pub returns : goal.returns
returns c =
    let n = c.args.n in
    grind (arith, nat_tests, one_digit n, two_digits n, three_digits n, four_digits n, five_digits n)
