-- The preorder listing of a subtree: what it lists, once, and how long it is.
use Rattle.std.proofs.Common.{◌≡◌, ℕ, zero, suc, ◌+◌, ◌<◌, ◌≤◌, List, ◌∷◌, length, sym, ap, ◌∙◌, subst, inl, inr, arith}
use Rattle.std.specs.List.{flat_map}
use Rattle.lists.specs.Members.{Among, Once}
use Rattle.rounds.specs.Forest.{up, In, Depths, Sized, sum_over}
use Rattle.rounds.specs.Preorder.{Ordered, levels, preorder}
use Rattle.rounds.proofs.Sums.{sum_cong, child_all}
use Rattle.rounds.proofs.Joins.{joined_cong, among_joined, among_joined_cases, once_joined, length_joined}
use Rattle.rounds.proofs.ChainLaws.{depths_low, by_children}
use Rattle.rounds.proofs.SizeLaws.{up_last, up_depth, in_self, in_parent, under_depth, one_child, size_sum_lem}

module _ (n : ℕ) (par d : ℕ → ℕ) (children : ℕ → List ℕ) (deep : Depths n par d) (order : Ordered n par children) where
  -- a child is one level deeper
  child_depth : (v c : ℕ) → v < n → Among c (children v) → (c < n) × (d c ≡ suc (d v))
  child_depth v c l m = let t = order.child v c l m in (t.0, (deep.link c v t.0 t.1).1)

  -- what holds of a node once it holds of the listed children, holds of every node
  by_listed : (P : ℕ → Type 0) → ((v : ℕ) → v < n → ((c : ℕ) → Among c (children v) → P c) → P v) → (v : ℕ) → v < n → P v
  by_listed P step = by_children n par d deep P (λ v l rec. step v l (λ c m. let t = order.child v c l m in rec c t.0 t.1))

  -- levels enough are all
  enough : (k j v : ℕ) → v < n → n ≤ d v + k → n ≤ d v + j → levels children k v ≡ levels children j v
  enough zero j v l h i = let t = depths_low n par d deep v l in absurd (omega arith)
  enough (suc k) zero v l h i = let t = depths_low n par d deep v l in absurd (omega arith)
  enough (suc k) (suc j) v l h i = ap (λ z. v ∷ z) (joined_cong (levels children k) (levels children j) (children v) (λ c m. let t = child_depth v c l m in enough k j c t.0 (omega (arith, t.1)) (omega (arith, t.1))))

  abbrev listing : ℕ → List ℕ
  listing = preorder n children

  pub listing_opens : (v : ℕ) → v < n → listing v ≡ v ∷ flat_map listing (children v)
  listing_opens v l = enough n (suc n) v l (omega arith) (omega arith)

  pub listed_in : (v : ℕ) → v < n → (u : ℕ) → Among u (listing v) → (u < n) × In par v u
  listed_in = by_listed (λ v. (u : ℕ) → Among u (listing v) → (u < n) × In par v u) step
    where
      step : (v : ℕ) → v < n → ((c : ℕ) → Among c (children v) → (u : ℕ) → Among u (listing c) → (u < n) × In par c u) → (u : ℕ) → Among u (listing v) → (u < n) × In par v u
      step v l rec u m = elim (subst (Among u) (listing_opens v l) m) [ inl e ↦ (omega arith, subst (In par v) (sym e) (in_self par v)) | inr h ↦ (let t = among_joined_cases listing (children v) u h in let r = rec t.0 t.1 u t.2 in (r.0, in_parent par u t.0 v r.1 (order.child v t.0 l t.1).1)) ]

  pub in_listed : (u : ℕ) → u < n → (k v : ℕ) → v < n → up par k u ≡ suc v → Among u (listing v)
  in_listed u m zero v l e = let q : u ≡ v = omega arith in subst (Among u) (sym (listing_opens v l)) (inl q)
  in_listed u m (suc k) v l e =
      let t = up_last par k u v e in
      let i = (up_depth n par d deep k u t.0 m t.1).0 in
      subst (Among u) (sym (listing_opens v l)) (inr (among_joined listing (children v) t.0 u (order.all v t.0 l i t.2) (in_listed u m k t.0 i t.1)))

  pub listed_once : (v : ℕ) → v < n → Once (listing v)
  listed_once = by_listed (λ v. Once (listing v)) (λ v l rec. subst Once (sym (listing_opens v l)) (apart v l, once_joined listing (children v) (order.once v l) rec (same v l)))
    where
      inside : (v c u : ℕ) → v < n → Among c (children v) → Among u (listing c) → (u < n) × In par c u
      inside v c u l m h = listed_in c (order.child v c l m).0 u h

      apart : (v : ℕ) → v < n → Among v (flat_map listing (children v)) → ⊥
      apart v l h =
          let t = among_joined_cases listing (children v) v h in
          let s = inside v t.0 v l t.1 t.2 in
          absurd (omega (arith, (under_depth n par d deep v t.0 v l s.1 (order.child v t.0 l t.1).1).1))

      same : (v : ℕ) → v < n → (a b u : ℕ) → Among a (children v) → Among b (children v) → Among u (listing a) → Among u (listing b) → a ≡ b
      same v l a b u p q x y =
          let s = inside v a u l p x in
          let t = inside v b u l q y in
          one_child n par d deep u a b v s.0 s.1 (order.child v a l p).1 t.1 (order.child v b l q).1

  pub listed_size : (size : ℕ → ℕ) → Sized n par size → (v : ℕ) → v < n → length (listing v) ≡ size v
  listed_size size s = by_listed (λ v. length (listing v) ≡ size v) (λ v l rec. ap length (listing_opens v l) ∙ ap suc (length_joined listing (children v) ∙ sum_cong (λ c. length (listing c)) size (children v) rec) ∙ rule v l)
    where
      rule : (v : ℕ) → v < n → suc (sum_over size (children v)) ≡ size v
      rule v l =
          let a = size_sum_lem n par d size deep s v (children v) l (record { once = order.once v l; nodes = λ c m. (order.child v c l m).0; all = λ c m e. order.all v c l m e }) in
          let b = child_all par size v (children v) (λ c m. (order.child v c l m).1) in
          omega arith
