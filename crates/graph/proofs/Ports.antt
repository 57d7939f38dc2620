-- The ports that a list of links gives a node.
use Rattle.std.proofs.Common.{◌≡◌, ℕ, ◌+◌, ◌<◌, Bool, true, false, cond, eqb, ◌⊎◌, ◌↔◌, List, [], ◌∷◌, ◌++◌, length, sym, refl, ap, ◌∙◌, subst, inl, inr, arith}
use Rattle.std.proofs.lemmas.Bool.{cases_Bool, cond-true, cond-false, eq-eqb, ne_eqb, eqb-true}
use Rattle.lists.specs.Members.{Among, Once}
use Rattle.lists.proofs.Decisions.{same_pair}
use Rattle.graph.specs.Model.{ports_of}

-- what one link adds in front of the ports, and after them
abbrev front : Bool → Bool → ℕ → ℕ → List ℕ → List ℕ
front p q a b ps = cond p (b ∷ ps) (cond q (a ∷ ps) ps)

abbrev back : Bool → Bool → ℕ → ℕ → List ℕ → List ℕ
back p q a b ps = cond p (ps ++ (b ∷ [])) (cond q (ps ++ (a ∷ [])) ps)

front_append : (p q : Bool) (a b : ℕ) (ps qs : List ℕ) → front p q a b (ps ++ qs) ≡ front p q a b ps ++ qs
front_append true q a b ps qs = refl
front_append false true a b ps qs = refl
front_append false false a b ps qs = refl

append_nil : (ps : List ℕ) → ps ++ [] ≡ ps
append_nil [] = refl
append_nil (p ∷ ps) = ap (λ z. p ∷ z) (append_nil ps)

front_back : (p q : Bool) (a b : ℕ) (ps : List ℕ) → ps ++ front p q a b [] ≡ back p q a b ps
front_back true q a b ps = refl
front_back false true a b ps = refl
front_back false false a b ps = append_nil ps

front_length : (p q : Bool) (a b : ℕ) (ps : List ℕ) → length (front p q a b ps) ≡ cond p 1 (cond q 1 0) + length ps
front_length true q a b ps = omega arith
front_length false true a b ps = omega arith
front_length false false a b ps = omega arith

-- what stands in front is kept
front_kept : (p q : Bool) (a b u : ℕ) (ps : List ℕ) → Among u ps → Among u (front p q a b ps)
front_kept true q a b u ps h = inr h
front_kept false true a b u ps h = inr h
front_kept false false a b u ps h = h

front_cases : (p q : Bool) (a b u : ℕ) (ps : List ℕ) → Among u (front p q a b ps) → ((p ≡ true) × (u ≡ b)) ⊎ (((q ≡ true) × (u ≡ a)) ⊎ Among u ps)
front_cases true q a b u ps (inl e) = inl (refl, e)
front_cases true q a b u ps (inr h) = inr (inr h)
front_cases false true a b u ps (inl e) = inr (inl (refl, e))
front_cases false true a b u ps (inr h) = inr (inr h)
front_cases false false a b u ps h = inr (inr h)

front_first : (p q : Bool) (a b : ℕ) (ps : List ℕ) → p ≡ true → Among b (front p q a b ps)
front_first true q a b ps e = inl refl
front_first false q a b ps e = absurd (let z : ◌≡◌ {A = ℕ} 0 1 = cc in omega arith)

front_second : (p q : Bool) (a b : ℕ) (ps : List ℕ) → p ≡ false → q ≡ true → Among a (front p q a b ps)
front_second false true a b ps e f = inl refl
front_second true q a b ps e f = absurd (let z : ◌≡◌ {A = ℕ} 0 1 = cc in omega arith)
front_second false false a b ps e f = absurd (let z : ◌≡◌ {A = ℕ} 0 1 = cc in omega arith)

pub ports_append : (xs ys : List (ℕ × ℕ)) (v : ℕ) → ports_of (xs ++ ys) v ≡ ports_of xs v ++ ports_of ys v
ports_append [] ys v = refl
ports_append (l ∷ xs) ys v = ap (λ z. front (eqb l.0 v) (eqb l.1 v) l.0 l.1 z) (ports_append xs ys v) ∙ front_append (eqb l.0 v) (eqb l.1 v) l.0 l.1 (ports_of xs v) (ports_of ys v)

-- a link at the end adds a port after the others to the nodes that it joins
pub ports_push : (ls : List (ℕ × ℕ)) (a b v : ℕ) → ports_of (ls ++ ((a, b) ∷ [])) v ≡ cond (eqb a v) (ports_of ls v ++ (b ∷ [])) (cond (eqb b v) (ports_of ls v ++ (a ∷ [])) (ports_of ls v))
ports_push ls a b v = ports_append ls ((a, b) ∷ []) v ∙ front_back (eqb a v) (eqb b v) a b (ports_of ls v)

pub ports_push_first : (ls : List (ℕ × ℕ)) (a b : ℕ) → ports_of (ls ++ ((a, b) ∷ [])) a ≡ ports_of ls a ++ (b ∷ [])
ports_push_first ls a b = ports_push ls a b a ∙ cond-true (eqb a a) (ports_of ls a ++ (b ∷ [])) (cond (eqb b a) (ports_of ls a ++ (a ∷ [])) (ports_of ls a)) (eq-eqb a a refl)

pub ports_push_second : (ls : List (ℕ × ℕ)) (a b : ℕ) → (a ≡ b → ⊥) → ports_of (ls ++ ((a, b) ∷ [])) b ≡ ports_of ls b ++ (a ∷ [])
ports_push_second ls a b d = ports_push ls a b b ∙ cond-false (eqb a b) (ports_of ls b ++ (b ∷ [])) (cond (eqb b b) (ports_of ls b ++ (a ∷ [])) (ports_of ls b)) (ne_eqb a b d) ∙ cond-true (eqb b b) (ports_of ls b ++ (a ∷ [])) (ports_of ls b) (eq-eqb b b refl)

pub ports_push_other : (ls : List (ℕ × ℕ)) (a b v : ℕ) → (a ≡ v → ⊥) → (b ≡ v → ⊥) → ports_of (ls ++ ((a, b) ∷ [])) v ≡ ports_of ls v
ports_push_other ls a b v d f = ports_push ls a b v ∙ cond-false (eqb a v) (ports_of ls v ++ (b ∷ [])) (cond (eqb b v) (ports_of ls v ++ (a ∷ [])) (ports_of ls v)) (ne_eqb a v d) ∙ cond-false (eqb b v) (ports_of ls v ++ (a ∷ [])) (ports_of ls v) (ne_eqb b v f)

pub ports_length : (l : ℕ × ℕ) (ls : List (ℕ × ℕ)) (v : ℕ) → length (ports_of (l ∷ ls) v) ≡ cond (eqb l.0 v) 1 (cond (eqb l.1 v) 1 0) + length (ports_of ls v)
ports_length l ls v = front_length (eqb l.0 v) (eqb l.1 v) l.0 l.1 (ports_of ls v)

-- a port leads over a link
pub ports_joins : (ls : List (ℕ × ℕ)) (u v : ℕ) → Among u (ports_of ls v) → Among (u, v) ls ⊎ Among (v, u) ls
ports_joins [] u v h = absurd h
ports_joins (l ∷ ls) u v h = go (front_cases (eqb l.0 v) (eqb l.1 v) l.0 l.1 u (ports_of ls v) h) (λ m. ports_joins ls u v m)
  where
    go : ((eqb l.0 v ≡ true) × (u ≡ l.1)) ⊎ (((eqb l.1 v ≡ true) × (u ≡ l.0)) ⊎ Among u (ports_of ls v)) → (Among u (ports_of ls v) → Among (u, v) ls ⊎ Among (v, u) ls) → Among (u, v) (l ∷ ls) ⊎ Among (v, u) (l ∷ ls)
    go (inl t) r = inr (inl (same_pair (sym (eqb-true l.0 v t.0)) t.1))
    go (inr (inl t)) r = inl (inl (same_pair t.1 (sym (eqb-true l.1 v t.0))))
    go (inr (inr m)) r = elim (r m) [ inl a ↦ inl (inr a) | inr b ↦ inr (inr b) ]

-- a link gives its first node a port to its second
pub joins_ports : (ls : List (ℕ × ℕ)) (a b : ℕ) → Among (a, b) ls → Among b (ports_of ls a)
joins_ports [] a b h = absurd h
joins_ports (l ∷ ls) a b (inl e) =
    subst (λ (z : ℕ × ℕ). Among b (ports_of (z ∷ ls) a)) e (front_first (eqb a a) (eqb b a) a b (ports_of ls a) (eq-eqb a a refl))
joins_ports (l ∷ ls) a b (inr h) = front_kept (eqb l.0 a) (eqb l.1 a) l.0 l.1 b (ports_of ls a) (joins_ports ls a b h)

-- and its second one to its first
pub joins_ports_back : (ls : List (ℕ × ℕ)) (a b : ℕ) → Among (a, b) ls → (a ≡ b → ⊥) → Among a (ports_of ls b)
joins_ports_back [] a b h d = absurd h
joins_ports_back (l ∷ ls) a b (inl e) d =
    subst (λ (z : ℕ × ℕ). Among a (ports_of (z ∷ ls) b)) e (elim (cases_Bool (eqb a b)) [ inl t ↦ absurd (d (eqb-true a b t)) | inr f ↦ front_second (eqb a b) (eqb b b) a b (ports_of ls b) f (eq-eqb b b refl) ])
joins_ports_back (l ∷ ls) a b (inr h) d = front_kept (eqb l.0 b) (eqb l.1 b) l.0 l.1 a (ports_of ls b) (joins_ports_back ls a b h d)

module _ (ls : List (ℕ × ℕ)) (ordered : (a b : ℕ) → Among (a, b) ls → a < b) where
  -- among ordered links, a link stands in the list where its first node has a port to its second
  pub repeat_seen : (a b : ℕ) → a < b → Among b (ports_of ls a) → Among (a, b) ls
  repeat_seen a b l h = elim (ports_joins ls b a h) [ inl x ↦ absurd (let z = ordered b a x in omega arith) | inr y ↦ y ]

  pub repeat_iff : (a b : ℕ) → a < b → Among b (ports_of ls a) ↔ Among (a, b) ls
  repeat_iff a b l = (repeat_seen a b l, joins_ports ls a b)

  pub ports_both : (u v : ℕ) → Among u (ports_of ls v) → Among v (ports_of ls u)
  ports_both u v h = elim (ports_joins ls u v h) [ inl x ↦ joins_ports ls u v x | inr y ↦ joins_ports_back ls v u y (λ e. let z = ordered v u y in absurd (omega arith)) ]

  pub ports_apart : (u v : ℕ) → Among u (ports_of ls v) → u ≡ v → ⊥
  ports_apart u v h e = elim (ports_joins ls u v h) [ inl x ↦ (let z = ordered u v x in omega arith) | inr y ↦ (let z = ordered v u y in omega arith) ]

front_once : (p q : Bool) (a b : ℕ) (ps : List ℕ) → (p ≡ true → Among b ps → ⊥) → (q ≡ true → Among a ps → ⊥) → Once ps → Once (front p q a b ps)
front_once true q a b ps h k o = (h refl, o)
front_once false true a b ps h k o = (k refl, o)
front_once false false a b ps h k o = o

-- ordered links that stand once give ports that do
pub links_ports_once : (ls : List (ℕ × ℕ)) (v : ℕ) → ((a b : ℕ) → Among (a, b) ls → a < b) → Once ls → Once (ports_of ls v)
links_ports_once [] v h o = tt
links_ports_once (l ∷ ls) v h o = front_once (eqb l.0 v) (eqb l.1 v) l.0 l.1 (ports_of ls v) first second (links_ports_once ls v (λ a b m. h a b (inr m)) o.1)
  where
    low : l.0 < l.1
    low = h l.0 l.1 (inl refl)

    first : eqb l.0 v ≡ true → Among l.1 (ports_of ls v) → ⊥
    first e m =
        let f = eqb-true l.0 v e in
        elim (ports_joins ls l.1 v m) [ inl x ↦ (let z = h l.1 v (inr x) in omega (arith, low)) | inr y ↦ o.0 (subst (λ z. Among (z, l.1) ls) (sym f) y) ]

    second : eqb l.1 v ≡ true → Among l.0 (ports_of ls v) → ⊥
    second e m =
        let f = eqb-true l.1 v e in
        elim (ports_joins ls l.0 v m) [ inl x ↦ o.0 (subst (λ z. Among (l.0, z) ls) (sym f) x) | inr y ↦ (let z = h v l.0 (inr y) in omega (arith, low)) ]
