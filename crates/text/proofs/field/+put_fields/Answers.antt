use Rattle.std.proofs.Common.{ℕ, ◌+◌, ◌-◌, ◌≤◌, List, ◌∷◌, ◌++◌, length, take, drop, set, sym, refl, ap, ◌∙◌, arith}
use Rattle.text.specs.Page.{over}
use Rattle.text.specs.Fields.{field_of, line_of}
use Rattle.text.specs.FieldsLemmas.{line_more}
use Rattle.text.proofs.Pages.{over_put, part_over, put_three}
use Rattle.text.proofs.field.+put_fields.Goals as goal

pub returns-in-len1-up-clause-page_after : goal.returns-in-len1-up-clause-page_after
returns-in-len1-up-clause-page_after t c =
    let l = c.args.fields.now in
    let size = c.put_field-size.result in
    let page = c.args.page.now in
    let first = c.put_field-size.new.page in
    let xs = field_of c.first-item.result in
    let ys = line_of (take (length l - 1) (drop 1 l)) in
    let e = line_more l c.first-item.result c.in-len1-up.len_at_least c.first-item.is in
    let fits : 0 + length (xs ++ (59 ∷ ys)) ≤ length page = omega (arith, ap length e) in
    part_over _ ys (set first size 59) c.put_fields.new.page c.put_fields.ensures.page_after
    ∙ put_three 0 size 59 xs ys page first _ (omega arith) fits (c.put_field-size.ensures.page_after ∙ sym (over_put xs page)) refl
    ∙ over_put _ page ∙ ap (λ (bs : List ℕ). over bs page) (sym e)
