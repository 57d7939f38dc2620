-- Sums over a list.
use Rattle.std.proofs.Common.{◌≡◌, ℕ, suc, ◌+◌, Bool, true, false, cond, eqb, List, [], ◌∷◌, ◌++◌, sym, refl, ap, ◌∙◌, subst, inl, inr, arith}
use Rattle.std.proofs.lemmas.Bool.{cases_eq, cond-true, cond-false, eq-eqb, ne_eqb}
use Rattle.lists.specs.Members.{Among, Once}
use Rattle.rounds.specs.Forest.{sum_over, child_sum}

pub sum_cong : (f g : ℕ → ℕ) (xs : List ℕ) → ((c : ℕ) → Among c xs → f c ≡ g c) → sum_over f xs ≡ sum_over g xs
sum_cong f g [] h = refl
sum_cong f g (x ∷ xs) h = let a = h x (inl refl) in let b = sum_cong f g xs (λ c m. h c (inr m)) in omega arith

pub sum_zero : (f : ℕ → ℕ) (xs : List ℕ) → ((c : ℕ) → Among c xs → f c ≡ 0) → sum_over f xs ≡ 0
sum_zero f [] h = refl
sum_zero f (x ∷ xs) h = let a = h x (inl refl) in let b = sum_zero f xs (λ c m. h c (inr m)) in omega arith

-- where one element alone counts
pub sum_one : (f : ℕ → ℕ) (xs : List ℕ) (c : ℕ) → Once xs → Among c xs → ((b : ℕ) → Among b xs → (b ≡ c → ⊥) → f b ≡ 0) → sum_over f xs ≡ f c
sum_one f [] c d m h = absurd m
sum_one f (x ∷ xs) c d (inl e) h = let a = sum_zero f xs (λ b q. h b (inr q) (λ p. d.0 (subst (λ z. Among z xs) (p ∙ e) q))) in let b = ap f e in omega arith
sum_one f (x ∷ xs) c d (inr m) h = let a = h x (inl refl) (λ p. d.0 (subst (λ z. Among z xs) (sym p) m)) in let b = sum_one f xs c d.1 m (λ b q. h b (inr q)) in omega arith

pub sum_append : (f : ℕ → ℕ) (xs ys : List ℕ) → sum_over f (xs ++ ys) ≡ sum_over f xs + sum_over f ys
sum_append f [] ys = omega arith
sum_append f (x ∷ xs) ys = let t = sum_append f xs ys in omega arith

pub child_share : (par f : ℕ → ℕ) (v c : ℕ) → par c ≡ suc v → cond (eqb (par c) (suc v)) (f c) 0 ≡ f c
child_share par f v c e = cond-true (eqb (par c) (suc v)) (f c) 0 (eq-eqb (par c) (suc v) e)

pub other_share : (par f : ℕ → ℕ) (v c : ℕ) → (par c ≡ suc v → ⊥) → cond (eqb (par c) (suc v)) (f c) 0 ≡ 0
other_share par f v c e = cond-false (eqb (par c) (suc v)) (f c) 0 (ne_eqb (par c) (suc v) e)

-- equal on the children, equal in sum
pub child_cong : (par f g : ℕ → ℕ) (v : ℕ) (xs : List ℕ) → ((c : ℕ) → Among c xs → par c ≡ suc v → f c ≡ g c) → child_sum par f v xs ≡ child_sum par g v xs
child_cong par f g v xs h = sum_cong _ _ xs (λ c m. elim (cases_eq (par c) (suc v)) [ inl e ↦ child_share par f v c e ∙ h c m e ∙ sym (child_share par g v c e) | inr e ↦ other_share par f v c e ∙ sym (other_share par g v c e) ])

-- of a list of children alone, the sum over all of it
pub child_all : (par f : ℕ → ℕ) (v : ℕ) (xs : List ℕ) → ((c : ℕ) → Among c xs → par c ≡ suc v) → child_sum par f v xs ≡ sum_over f xs
child_all par f v xs h = sum_cong _ _ xs (λ c m. child_share par f v c (h c m))

pub child_add : (par f g : ℕ → ℕ) (v : ℕ) (xs : List ℕ) → child_sum par (λ c. f c + g c) v xs ≡ child_sum par f v xs + child_sum par g v xs
child_add par f g v [] = refl
child_add par f g v (x ∷ xs) = let t = child_add par f g v xs in let a = one (eqb (par x) (suc v)) in omega arith
  where
    one : (b : Bool) → cond b (f x + g x) 0 ≡ cond b (f x) 0 + cond b (g x) 0
    one true = refl
    one false = refl
