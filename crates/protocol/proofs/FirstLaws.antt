-- Least values, first elements that pass, stored nodes: what they tell.
use Rattle.std.proofs.Common.{◌≡◌, ℕ, zero, suc, ◌<◌, ◌≤◌, min, Bool, true, false, eqb, ◌⊎◌, List, [], ◌∷◌, ◌++◌, Some, None, Option, sym, refl, ap, ◌∙◌, subst, inl, inr, arith}
use Rattle.std.proofs.lemmas.Bool.{cases_Bool, both_ways}
use Rattle.std.proofs.lemmas.Bool.Decides.{eqb_tells, Decides-eqb, Decides-like, same_from_decides}
use Rattle.lists.specs.Members.{Among}
use Rattle.lists.proofs.Elements.{among_append_right}
use Rattle.protocol.specs.Outputs.{stored}
use Rattle.protocol.specs.First.{least, mem, first, IsFirst, held}

pub least_le : (f : ℕ → ℕ) (u : ℕ) (xs : List ℕ) → Among u xs → least f xs ≤ f u
least_le f u [] h = absurd h
least_le f u (x ∷ []) (inl e) = subst (λ z. f x ≤ f z) (sym e) (omega arith)
least_le f u (x ∷ []) (inr h) = absurd h
least_le f u (x ∷ (y ∷ ys)) (inl e) = subst (λ z. min (f x) (least f (y ∷ ys)) ≤ f z) (sym e) (omega arith)
least_le f u (x ∷ (y ∷ ys)) (inr h) = let t = least_le f u (y ∷ ys) h in omega arith

pub least_ge : (f : ℕ → ℕ) (k u : ℕ) (xs : List ℕ) → Among u xs → ((w : ℕ) → Among w xs → k ≤ f w) → k ≤ least f xs
least_ge f k u [] h all = absurd h
least_ge f k u (x ∷ []) h all = all x (inl refl)
least_ge f k u (x ∷ (y ∷ ys)) h all =
    let t = least_ge f k y (y ∷ ys) (inl refl) (λ w q. all w (inr q)) in
    let a = all x (inl refl) in
    omega arith

-- two tests of equality that agree
pub eqb_same : (a b c d : ℕ) → (a ≡ b → c ≡ d) → (c ≡ d → a ≡ b) → eqb a b ≡ eqb c d
eqb_same a b c d f g = same_from_decides (eqb a b) (eqb c d) (Decides-like (eqb a b) f g (Decides-eqb a b)) (Decides-eqb c d)

pub mem_tells : (x : ℕ) (xs : List ℕ) → ((mem x xs ≡ true) × Among x xs) ⊎ ((mem x xs ≡ false) × (Among x xs → ⊥))
mem_tells x [] = inr (refl, λ h. h)
mem_tells x (y ∷ ys) = go (eqb_tells x y) (mem_tells x ys)
  where
    go : ((eqb x y ≡ true) × (x ≡ y)) ⊎ ((eqb x y ≡ false) × (x ≡ y → ⊥)) → ((mem x ys ≡ true) × Among x ys) ⊎ ((mem x ys ≡ false) × (Among x ys → ⊥)) → ((mem x (y ∷ ys) ≡ true) × Among x (y ∷ ys)) ⊎ ((mem x (y ∷ ys) ≡ false) × (Among x (y ∷ ys) → ⊥))
    go (inl a) b = inl (rw a.0, inl a.1)
    go (inr a) (inl b) = inl (rw a.0 b.0, inr b.1)
    go (inr a) (inr b) = inr (rw a.0 b.0, λ h. elim h [ inl e ↦ a.1 e | inr m ↦ b.1 m ])

module _ (p : ℕ → Bool) where
  first_pass : (x : ℕ) (xs : List ℕ) → p x ≡ true → first p (x ∷ xs) ≡ Some x
  first_pass x xs e = rw e

  first_skip : (x : ℕ) (xs : List ℕ) → p x ≡ false → first p (x ∷ xs) ≡ first p xs
  first_skip x xs e = rw e

  -- what is found is the first element that passes
  pub first_some : (xs : List ℕ) (u : ℕ) → first p xs ≡ Some u → IsFirst p xs u
  first_some [] u e = absurd (let z : ◌≡◌ {A = ℕ} 0 1 = cc in omega arith)
  first_some (x ∷ xs) u e = elim (cases_Bool (p x)) [
    | inl t ↦ (let q : x ≡ u = cc (first_pass x xs t) in record { before = []; after = xs; splits = ap (λ z. z ∷ xs) q; passes = subst (λ z. p z ≡ true) q t; earlier = λ w h. absurd h })
    | inr f ↦ (let r = first_some xs u (sym (first_skip x xs f) ∙ e) in record {
      before = x ∷ r.before;
      after = r.after;
      splits = ap (λ z. x ∷ z) r.splits;
      passes = r.passes;
      earlier = λ w h. elim h [ inl q ↦ subst (λ z. p z ≡ false) (sym q) f | inr a ↦ r.earlier w a ];
    })
  ]

  -- and the first element that passes is found
  pub first_is : (xs : List ℕ) (u : ℕ) → IsFirst p xs u → first p xs ≡ Some u
  first_is xs u h = ap (first p) h.splits ∙ go h.before h.earlier
    where
      go : (ys : List ℕ) → ((w : ℕ) → Among w ys → p w ≡ false) → first p (ys ++ (u ∷ h.after)) ≡ Some u
      go [] a = first_pass u h.after h.passes
      go (y ∷ ys) a = first_skip y (ys ++ (u ∷ h.after)) (a y (inl refl)) ∙ go ys (λ w b. a w (inr b))

  pub is_first_unique : (xs : List ℕ) (u w : ℕ) → IsFirst p xs u → IsFirst p xs w → u ≡ w
  is_first_unique xs u w a b = let s = first_is xs u a in let t = first_is xs w b in cc

  pub is_first_among : (xs : List ℕ) (u : ℕ) → IsFirst p xs u → Among u xs
  is_first_among xs u h = subst (Among u) (sym h.splits) (among_append_right u h.before (u ∷ h.after) (inl refl))

  -- what is found is an element, and passes
  pub first_among : (xs : List ℕ) (u : ℕ) → first p xs ≡ Some u → Among u xs × (p u ≡ true)
  first_among xs u e = let r = first_some xs u e in (is_first_among xs u r, r.passes)

  -- where nothing is found, none passes
  pub first_none : (xs : List ℕ) → first p xs ≡ None → (u : ℕ) → Among u xs → p u ≡ false
  first_none [] e u h = absurd h
  first_none (x ∷ xs) e u h = elim (cases_Bool (p x)) [
    | inl t ↦ absurd (let s = first_pass x xs t in let z : ◌≡◌ {A = ℕ} 0 1 = cc in omega arith)
    | inr f ↦ elim h [ inl q ↦ subst (λ z. p z ≡ false) (sym q) f | inr a ↦ first_none xs (sym (first_skip x xs f) ∙ e) u a ]
  ]

  -- where none passes, nothing is found
  pub none_first : (xs : List ℕ) → ((u : ℕ) → Among u xs → p u ≡ false) → first p xs ≡ None
  none_first [] h = refl
  none_first (x ∷ xs) h = first_skip x xs (h x (inl refl)) ∙ none_first xs (λ u a. h u (inr a))

  pub first_cases : (xs : List ℕ) → ((u : ℕ) × Among u xs × (p u ≡ true) × (first p xs ≡ Some u)) ⊎ ((first p xs ≡ None) × ((u : ℕ) → Among u xs → p u ≡ false))
  first_cases xs = go (first p xs) refl
    where
      go : (o : Option ℕ) → first p xs ≡ o → ((u : ℕ) × Among u xs × (p u ≡ true) × (first p xs ≡ Some u)) ⊎ ((first p xs ≡ None) × ((u : ℕ) → Among u xs → p u ≡ false))
      go (Some u) e = let r = first_among xs u e in inl (u, r.0, r.1, e)
      go None e = inr (e, first_none xs e)

  -- where some element passes, one is found
  pub first_exists : (xs : List ℕ) (u : ℕ) → Among u xs → p u ≡ true → (w : ℕ) × (first p xs ≡ Some w) × IsFirst p xs w
  first_exists xs u h t = elim (first_cases xs) [ inl r ↦ (r.0, r.3, first_some xs r.0 r.3) | inr r ↦ absurd (both_ways (p u) (r.1 u h) t) ]

-- the first that passes depends on the tests of the elements alone
pub first_cong : (p q : ℕ → Bool) (xs : List ℕ) → ((u : ℕ) → Among u xs → p u ≡ q u) → first p xs ≡ first q xs
first_cong p q [] h = refl
first_cong p q (x ∷ xs) h = let a = h x (inl refl) in let b = first_cong p q xs (λ u m. h u (inr m)) in cc

pub stored_some : (o : Option ℕ) (u : ℕ) → stored o ≡ suc u → o ≡ Some u
stored_some (Some w) u e = let q : w ≡ u = omega arith in ap Some q
stored_some None u e = absurd (omega arith)

pub stored_none : (o : Option ℕ) → stored o ≡ 0 → o ≡ None
stored_none (Some w) e = absurd (omega arith)
stored_none None e = refl

pub stored_same : (o r : Option ℕ) → stored o ≡ stored r → o ≡ r
stored_same o (Some u) e = stored_some o u e
stored_same o None e = stored_none o e

-- a stored node of a list of numbers below n is at most n
pub stored_most : (n : ℕ) (o : Option ℕ) → ((u : ℕ) → o ≡ Some u → u < n) → stored o ≤ n
stored_most n (Some u) h = let l = h u refl in omega arith
stored_most n None h = omega arith

pub stored_first_most : (n : ℕ) (p : ℕ → Bool) (xs : List ℕ) → ((u : ℕ) → Among u xs → u < n) → stored (first p xs) ≤ n
stored_first_most n p xs h = stored_most n (first p xs) (λ u e. h u (first_among p xs u e).0)

-- a held node is in the list, and stored
pub held_some : (xs : List ℕ) (x u : ℕ) → held xs x ≡ Some u → Among u xs × (x ≡ suc u)
held_some xs zero u e = absurd (let z : ◌≡◌ {A = ℕ} 0 1 = cc in omega arith)
held_some xs (suc w) u e = go (mem_tells w xs)
  where
    go : ((mem w xs ≡ true) × Among w xs) ⊎ ((mem w xs ≡ false) × (Among w xs → ⊥)) → Among u xs × (suc w ≡ suc u)
    go (inl t) = let s : Some w ≡ Some u = rw t.0 at e in let q : w ≡ u = cc in (subst (λ z. Among z xs) q t.1, ap suc q)
    go (inr t) = let s : None ≡ Some u = rw t.0 at e in absurd (let z : ◌≡◌ {A = ℕ} 0 1 = cc in omega arith)

pub held_among : (xs : List ℕ) (u : ℕ) → Among u xs → held xs (suc u) ≡ Some u
held_among xs u h = elim (mem_tells u xs) [ inl t ↦ rw t.0 | inr t ↦ absurd (t.1 h) ]

-- a node of the list that is stored is held
pub held_stored : (xs : List ℕ) (o : Option ℕ) → ((u : ℕ) → o ≡ Some u → Among u xs) → held xs (stored o) ≡ o
held_stored xs (Some u) h = held_among xs u (h u refl)
held_stored xs None h = refl

pub held_first : (p : ℕ → Bool) (xs : List ℕ) → held xs (stored (first p xs)) ≡ first p xs
held_first p xs = held_stored xs (first p xs) (λ u e. (first_among p xs u e).0)
