use Rattle.std.proofs.Common.{◌≡◌, ℕ, List, [], ◌∷◌, ◌++◌, codes, decimal, ap, ◌∙◌, append_assoc}
use Rattle.refusal.specs.Numbers.{number_of}
use Rattle.text.specs.Lines.{refused_bytes}
use Rattle.text.specs.declared.number.Number.{Number}
use Rattle.report.specs.Answers.{refusal_line}
use Rattle.report.proofs.answer.refused_line.Goals as goal

line_is : (n l : Number) (k j : ℕ) → n.value ≡ k → l.value ≡ j → refused_bytes (record { number = n; line = l }) ++ (10 ∷ []) ≡ refusal_line k j
line_is n l k j p q =
    ap (λ (xs : List ℕ). codes "REFUSED;" ++ xs) (append_assoc (decimal n.value) (59 ∷ decimal l.value) (10 ∷ []))
    ∙ ap (λ (a : ℕ). codes "REFUSED;" ++ (decimal a ++ (59 ∷ (decimal l.value ++ (10 ∷ []))))) p
    ∙ ap (λ (b : ℕ). codes "REFUSED;" ++ (decimal k ++ (59 ∷ (decimal b ++ (10 ∷ []))))) q

pub returns : goal.returns
returns c = line_is c.small-number.result c.small-line.result _ _ (c.small-number.ensures ∙ c.number.ensures ∙ ap number_of c.cause.ensures) (c.small-line.ensures ∙ c.line.ensures)
