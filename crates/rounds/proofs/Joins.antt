-- Lists that are joined from the lists of others.
use Rattle.std.proofs.Common.{◌≡◌, ℕ, List, [], ◌∷◌, ◌++◌, length, sym, refl, ap, ◌∙◌, subst, inl, inr, append_assoc, arith, length-append}
use Rattle.std.specs.List.{flat_map}
use Rattle.lists.specs.Members.{Among, Once}
use Rattle.lists.proofs.Elements.{among_append_left, among_append_right, among_append_cases, once_append}
use Rattle.rounds.specs.Forest.{sum_over}

pub joined_append : {X Y : Type 0} (f : X → List Y) (xs ys : List X) → flat_map f (xs ++ ys) ≡ flat_map f xs ++ flat_map f ys
joined_append f [] ys = refl
joined_append f (x ∷ xs) ys = ap (λ z. f x ++ z) (joined_append f xs ys) ∙ sym (append_assoc (f x) (flat_map f xs) (flat_map f ys))

pub joined_cong : {X Y : Type 0} (f g : X → List Y) (xs : List X) → ((x : X) → Among x xs → f x ≡ g x) → flat_map f xs ≡ flat_map g xs
joined_cong f g [] h = refl
joined_cong f g (x ∷ xs) h = let a = h x (inl refl) in let b = joined_cong f g xs (λ y m. h y (inr m)) in cc

pub among_joined : {X Y : Type 0} (f : X → List Y) (xs : List X) (x : X) (y : Y) → Among x xs → Among y (f x) → Among y (flat_map f xs)
among_joined f [] x y m h = absurd m
among_joined f (z ∷ xs) x y (inl e) h = among_append_left y (f z) (flat_map f xs) (subst (λ w. Among y (f w)) e h)
among_joined f (z ∷ xs) x y (inr m) h = among_append_right y (f z) (flat_map f xs) (among_joined f xs x y m h)

pub among_joined_cases : {X Y : Type 0} (f : X → List Y) (xs : List X) (y : Y) → Among y (flat_map f xs) → (x : X) × Among x xs × Among y (f x)
among_joined_cases f [] y h = absurd h
among_joined_cases f (z ∷ xs) y h = elim (among_append_cases y (f z) (flat_map f xs) h) [ inl a ↦ (z, inl refl, a) | inr b ↦ (let t = among_joined_cases f xs y b in (t.0, inr t.1, t.2)) ]

-- different elements with lists apart, each once
pub once_joined : {X Y : Type 0} (f : X → List Y) (xs : List X) → Once xs → ((x : X) → Among x xs → Once (f x)) → ((a b : X) (y : Y) → Among a xs → Among b xs → Among y (f a) → Among y (f b) → a ≡ b) → Once (flat_map f xs)
once_joined f [] o h same = tt
once_joined f (x ∷ xs) o h same =
    once_append (f x) (flat_map f xs) (h x (inl refl)) (once_joined f xs o.1 (λ y m. h y (inr m)) (λ a b y p q. same a b y (inr p) (inr q)))
    (λ y p q. let t = among_joined_cases f xs y q in o.0 (subst (λ z. Among z xs) (sym (same x t.0 y (inl refl) (inr t.1) p t.2)) t.1))

pub length_joined : {Y : Type 0} (f : ℕ → List Y) (xs : List ℕ) → length (flat_map f xs) ≡ sum_over (λ x. length (f x)) xs
length_joined f [] = refl
length_joined f (x ∷ xs) = let a = length-append (f x) (flat_map f xs) in let b = length_joined f xs in omega arith
