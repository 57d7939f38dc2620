-- What a test keeps of a list, and where one element stands in a list.
use Rattle.std.proofs.Common.{◌≡◌, ℕ, ◌+◌, Bool, true, false, cond, List, [], ◌∷◌, ◌++◌, filter, sym, refl, ap, ◌∙◌, subst, inl, inr, arith}
use Rattle.std.proofs.lemmas.Bool.{true≢false}
use Rattle.lists.specs.Members.{Among, Once}
use Rattle.lists.proofs.Elements.{among_append_right}
use Rattle.rounds.specs.Forest.{sum_over}

module _ {X : Type 0} (p : X → Bool) where
  pub among_kept : (x : X) (xs : List X) → Among x xs → p x ≡ true → Among x (filter p xs)
  among_kept x [] m e = absurd m
  among_kept x (y ∷ xs) m e = go (p y) refl m (λ h. among_kept x xs h e)
    where
      go : (b : Bool) → p y ≡ b → Among x (y ∷ xs) → (Among x xs → Among x (filter p xs)) → Among x (cond b (y ∷ filter p xs) (filter p xs))
      go true q (inl h) rec = inl h
      go true q (inr h) rec = inr (rec h)
      go false q (inl h) rec = absurd (true≢false (sym e ∙ ap p h ∙ q))
      go false q (inr h) rec = rec h

  pub among_kept_cases : (x : X) (xs : List X) → Among x (filter p xs) → Among x xs × (p x ≡ true)
  among_kept_cases x [] m = absurd m
  among_kept_cases x (y ∷ xs) m = go (p y) refl m (λ h. let t = among_kept_cases x xs h in (inr t.0, t.1))
    where
      go : (b : Bool) → p y ≡ b → Among x (cond b (y ∷ filter p xs) (filter p xs)) → (Among x (filter p xs) → Among x (y ∷ xs) × (p x ≡ true)) → Among x (y ∷ xs) × (p x ≡ true)
      go true q (inl h) rec = (inl h, ap p h ∙ q)
      go true q (inr h) rec = rec h
      go false q h rec = rec h

  pub once_kept : (xs : List X) → Once xs → Once (filter p xs)
  once_kept [] o = tt
  once_kept (y ∷ xs) o = go (p y) (once_kept xs o.1)
    where
      go : (b : Bool) → Once (filter p xs) → Once (cond b (y ∷ filter p xs) (filter p xs))
      go true rec = (λ m. o.0 (among_kept_cases y xs m).0, rec)
      go false rec = rec

pub sum_kept : (p : ℕ → Bool) (f : ℕ → ℕ) (xs : List ℕ) → sum_over f (filter p xs) ≡ sum_over (λ c. cond (p c) (f c) 0) xs
sum_kept p f [] = refl
sum_kept p f (x ∷ xs) = go (p x) (sum_kept p f xs)
  where
    go : (b : Bool) → sum_over f (filter p xs) ≡ sum_over (λ c. cond (p c) (f c) 0) xs → sum_over f (cond b (x ∷ filter p xs) (filter p xs)) ≡ cond b (f x) 0 + sum_over (λ c. cond (p c) (f c) 0) xs
    go true rec = ap (λ z. f x + z) rec
    go false rec = omega arith

-- an element and what stands before and after it
pub among_split : {X : Type 0} (x : X) (xs : List X) → Among x xs → (earlier : List X) × (later : List X) × (xs ≡ earlier ++ (x ∷ later))
among_split x [] m = absurd m
among_split x (y ∷ xs) (inl e) = ([], xs, ap (λ z. z ∷ xs) (sym e))
among_split x (y ∷ xs) (inr m) = let t = among_split x xs m in (y ∷ t.0, t.1, ap (λ z. y ∷ z) t.2)

-- in a list of different elements there is one such place
pub split_unique : {X : Type 0} (x : X) (a b c e : List X) → Once (a ++ (x ∷ b)) → a ++ (x ∷ b) ≡ c ++ (x ∷ e) → a ≡ c
split_unique x [] b [] e o q = refl
split_unique x [] b (y ∷ c) e o q = let f : b ≡ c ++ (x ∷ e) = cc in absurd (o.0 (subst (Among x) (sym f) (among_append_right x c (x ∷ e) (inl refl))))
split_unique x (z ∷ a) b [] e o q = let f : x ≡ z = cc in absurd (o.0 (subst (λ w. Among w (a ++ (x ∷ b))) f (among_append_right x a (x ∷ b) (inl refl))))
split_unique x (z ∷ a) b (y ∷ c) e o q = let t = split_unique x a b c e o.1 (cc) in cc
