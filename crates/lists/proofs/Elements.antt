-- What stands in a list that is made of others, and once.
use Rattle.std.proofs.Common.{◌≡◌, ℕ, zero, suc, ◌<◌, ◌⊎◌, List, [], ◌∷◌, ◌++◌, map, length, get_or, sym, refl, ap, subst, inl, inr, arith}
use Rattle.lists.specs.Members.{Among, Once}

module _ {X : Type 0} where
  pub among_append_left : (x : X) (xs ys : List X) → Among x xs → Among x (xs ++ ys)
  among_append_left x [] ys h = absurd h
  among_append_left x (y ∷ xs) ys (inl e) = inl e
  among_append_left x (y ∷ xs) ys (inr h) = inr (among_append_left x xs ys h)

  pub among_append_right : (x : X) (xs ys : List X) → Among x ys → Among x (xs ++ ys)
  among_append_right x [] ys h = h
  among_append_right x (y ∷ xs) ys h = inr (among_append_right x xs ys h)

  pub among_append_cases : (x : X) (xs ys : List X) → Among x (xs ++ ys) → Among x xs ⊎ Among x ys
  among_append_cases x [] ys h = inr h
  among_append_cases x (y ∷ xs) ys (inl e) = inl (inl e)
  among_append_cases x (y ∷ xs) ys (inr h) = elim (among_append_cases x xs ys h) [ inl a ↦ inl (inr a) | inr b ↦ inr b ]

  pub among_push : (x : X) (xs : List X) → Among x (xs ++ (x ∷ []))
  among_push x xs = among_append_right x xs (x ∷ []) (inl refl)

  pub among_push_cases : (x : X) (xs : List X) (y : X) → Among x (xs ++ (y ∷ [])) → Among x xs ⊎ (x ≡ y)
  among_push_cases x xs y h = elim (among_append_cases x xs (y ∷ []) h) [ inl a ↦ inl a | inr b ↦ elim b [ inl e ↦ inr e | inr n ↦ absurd n ] ]

  pub among_get_d : (xs : List X) (i : ℕ) (d : X) → i < length xs → Among (get_or xs i d) xs
  among_get_d [] i d l = absurd (omega arith)
  among_get_d (x ∷ xs) zero d l = inl refl
  among_get_d (x ∷ xs) (suc i) d l = inr (among_get_d xs i d (omega arith))

  -- the place of an element
  pub among_place : (x : X) (xs : List X) → Among x xs → (i : ℕ) × (i < length xs) × ((d : X) → get_or xs i d ≡ x)
  among_place x [] h = absurd h
  among_place x (y ∷ xs) (inl e) = (0, omega arith, λ d. sym e)
  among_place x (y ∷ xs) (inr h) = let t = among_place x xs h in (suc t.0, omega (arith, t.1), t.2)

  pub among_some : (x : X) (xs : List X) → Among x xs → 0 < length xs
  among_some x [] h = absurd h
  among_some x (y ∷ xs) h = omega arith

  pub nil_from_none : (xs : List X) → ((x : X) → Among x xs → ⊥) → xs ≡ []
  nil_from_none [] h = refl
  nil_from_none (x ∷ xs) h = absurd (h x (inl refl))

  pub once_append : (xs ys : List X) → Once xs → Once ys → ((x : X) → Among x xs → Among x ys → ⊥) → Once (xs ++ ys)
  once_append [] ys a b h = b
  once_append (x ∷ xs) ys a b h = (λ m. elim (among_append_cases x xs ys m) [ inl p ↦ a.0 p | inr q ↦ h x (inl refl) q ], once_append xs ys a.1 b (λ u p q. h u (inr p) q))

  pub once_push : (xs : List X) (y : X) → Once xs → (Among y xs → ⊥) → Once (xs ++ (y ∷ []))
  once_push xs y a n = once_append xs (y ∷ []) a (λ h. h, tt) (λ x p q. elim q [ inl e ↦ n (subst (λ z. Among z xs) e p) | inr b ↦ b ])

  pub once_front : (xs ys : List X) → Once (xs ++ ys) → Once xs
  once_front [] ys h = tt
  once_front (x ∷ xs) ys h = (λ m. h.0 (among_append_left x xs ys m), once_front xs ys h.1)

  pub once_back : (xs ys : List X) → Once (xs ++ ys) → Once ys
  once_back [] ys h = h
  once_back (x ∷ xs) ys h = once_back xs ys h.1

  -- what stands in the front does not stand in the back
  pub once_apart : (xs ys : List X) → Once (xs ++ ys) → (x : X) → Among x xs → Among x ys → ⊥
  once_apart [] ys h x p q = p
  once_apart (y ∷ xs) ys h x (inl e) q = h.0 (among_append_right y xs ys (subst (λ z. Among z ys) e q))
  once_apart (y ∷ xs) ys h x (inr p) q = once_apart xs ys h.1 x p q

  -- two places of one element are the same
  pub once_places : (xs : List X) → Once xs → (i j : ℕ) (d : X) → i < length xs → j < length xs → get_or xs i d ≡ get_or xs j d → i ≡ j
  once_places [] o i j d l m e = absurd (omega arith)
  once_places (x ∷ xs) o zero zero d l m e = refl
  once_places (x ∷ xs) o zero (suc j) d l m e = absurd (o.0 (subst (λ z. Among z xs) (sym e) (among_get_d xs j d (omega arith))))
  once_places (x ∷ xs) o (suc i) zero d l m e = absurd (o.0 (subst (λ z. Among z xs) e (among_get_d xs i d (omega arith))))
  once_places (x ∷ xs) o (suc i) (suc j) d l m e = ap suc (once_places xs o.1 i j d (omega arith) (omega arith) e)

module _ {X Y : Type 0} (f : X → Y) where
  pub among_map : (x : X) (xs : List X) → Among x xs → Among (f x) (map f xs)
  among_map x [] h = absurd h
  among_map x (y ∷ xs) (inl e) = inl (ap f e)
  among_map x (y ∷ xs) (inr h) = inr (among_map x xs h)

  pub among_map_cases : (y : Y) (xs : List X) → Among y (map f xs) → (x : X) × Among x xs × (y ≡ f x)
  among_map_cases y [] h = absurd h
  among_map_cases y (x ∷ xs) (inl e) = (x, inl refl, e)
  among_map_cases y (x ∷ xs) (inr h) = let t = among_map_cases y xs h in (t.0, inr t.1, t.2)

  pub once_map : (xs : List X) → Once xs → ((x y : X) → f x ≡ f y → x ≡ y) → Once (map f xs)
  once_map [] o h = tt
  once_map (x ∷ xs) o h = (λ m. let t = among_map_cases (f x) xs m in o.0 (subst (λ z. Among z xs) (sym (h x t.0 t.2)) t.1), once_map xs o.1 h)
