use Rattle.std.proofs.Common.{ℕ, ◌+◌, ◌/◌, ◌%◌, List, [], ◌∷◌, ◌++◌, decimal, sym, ap, ◌∙◌, arith}
use Rattle.std.proofs.lemmas.Fmt.{decimal_digit, decimal_step}
use Rattle.text.specs.Page.{over}
use Rattle.text.specs.DigitsLemmas.{one_digit, more_digits}
use Rattle.text.proofs.Pages.{over_put, put_end, put_one}
use Rattle.text.proofs.number.+write_digits.Goals as goal

pub returns-then-n-lt10 : goal.returns-then-n-lt10
returns-then-n-lt10 t c =
    let one = one_digit c.args.n (omega arith) in
    let page = c.args.page.now in
    record {
      value = omega arith;
      page_after = put_one 0 _ page (omega arith) ∙ over_put ((48 + c.args.n) ∷ []) page ∙ ap (λ (bs : List ℕ). over bs page) (sym (decimal_digit c.args.n (omega arith)));
    }

pub returns : goal.returns
returns t c =
    let n = c.args.n in
    let more = more_digits n (omega arith) (omega arith) in
    let page = c.args.page.now in
    let front = decimal (n / 10) in
    let size = c.write_digits-size.ensures.value in
    record {
      value = omega arith;
      page_after = put_end 0 c.write_digits-size.result (48 + n % 10) front page c.write_digits-size.new.page (omega arith) (omega arith) (c.write_digits-size.ensures.page_after ∙ sym (over_put front page))
          ∙ over_put (front ++ ((48 + n % 10) ∷ [])) page
          ∙ ap (λ (bs : List ℕ). over bs page) (sym (decimal_step n (omega arith) (omega arith)));
    }
