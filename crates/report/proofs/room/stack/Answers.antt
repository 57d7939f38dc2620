use Rattle.std.proofs.Common.{◌≡◌, ℕ, ◌+◌, List, ◌++◌, replicate, ap, ◌∙◌}
use Rattle.std.proofs.lemmas.List.{replicate-append-replicate}
use Rattle.report.proofs.room.stack.Goals as goal

joins : (xs ys : List ℕ) (a b : ℕ) → xs ≡ replicate a 0 → ys ≡ replicate b 0 → xs ++ ys ≡ replicate (a + b) 0
joins xs ys a b p q = ap (λ (zs : List ℕ). zs ++ ys) p ∙ ap (λ (zs : List ℕ). replicate a 0 ++ zs) q ∙ replicate-append-replicate a b 0

more : (all xs : List ℕ) (a b : ℕ) → all ≡ xs ++ replicate b 0 → xs ≡ replicate a 0 → all ≡ replicate (a + b) 0
more all xs a b p q = p ∙ ap (λ (xs : List ℕ). xs ++ replicate b 0) q ∙ replicate-append-replicate a b 0

pub returns : goal.returns
returns c = λ m ok.
    let count = more _ _ _ _ (c.in_ok-count.ensures.registers m ok) (c.in_ok-tree.ensures m ok) in
    let rank = more _ _ _ _ (c.in_ok-rank.ensures.registers m ok) count in
    c.new-5.ensures.registers m ∙ joins _ _ _ _ rank (c.in_ok-matching.ensures m ok)
