-- Ways up a forest, and the sizes of subtrees.
use Rattle.std.proofs.Common.{◌≡◌, ℕ, zero, suc, ◌+◌, ◌<◌, ◌≤◌, Bool, true, false, cond, eqb, List, sym, refl, ap, ◌∙◌, subst, inl, inr, arith}
use Rattle.std.proofs.lemmas.Bool.{cases_eq}
use Rattle.lists.proofs.Decisions.{Decided, below?, lt?}
use Rattle.rounds.specs.Forest.{above, up, In, Depths, Counted, Sized, sum_over, child_sum, Lists, SizesExist, SizeUnique, SizeLow, SizeSum, SizeRule, Laws}
use Rattle.rounds.proofs.Sums.{sum_zero, sum_one, child_share, other_share, child_cong, child_add}
use Rattle.rounds.proofs.Counting.{counted_unique, counted_le, counted_map, score, score_yes, score_no, tally, tally_counted, tally_equal}
use Rattle.rounds.proofs.ChainLaws.{chain_unique_lem, chain_short_lem, tall_unique_lem, depths_chain_lem, depths_tall_lem, depths_greatest_lem, tall_depths_lem, by_children}

-- the last link of a way up
pub up_last : (par : ℕ → ℕ) (k u v : ℕ) → up par (suc k) u ≡ suc v → (w : ℕ) × (up par k u ≡ suc w) × (par w ≡ suc v)
up_last par k u v e = go (up par k u) refl e
  where
    go : (x : ℕ) → up par k u ≡ x → above par x ≡ suc v → (w : ℕ) × (up par k u ≡ suc w) × (par w ≡ suc v)
    go zero q h = absurd (omega arith)
    go (suc w) q h = (w, q, h)

-- the first link of a way up
pub up_first : (par : ℕ → ℕ) (k v w : ℕ) → par v ≡ suc w → up par (suc k) v ≡ up par k w
up_first par zero v w e = e
up_first par (suc k) v w e = ap (above par) (up_first par k v w e)

pub in_self : (par : ℕ → ℕ) (v : ℕ) → In par v v
in_self par v = (0, refl)

pub in_parent : (par : ℕ → ℕ) (u c v : ℕ) → In par c u → par c ≡ suc v → In par v u
in_parent par u c v t p = (suc t.0, ap (above par) t.1 ∙ p)

cond_same : (b : Bool) → ◌≡◌ {A = ℕ} (cond b 0 0) 0
cond_same true = refl
cond_same false = refl

module _ (n : ℕ) (par d : ℕ → ℕ) (deep : Depths n par d) where
  pub up_depth : (k u v : ℕ) → u < n → up par k u ≡ suc v → (v < n) × (d u ≡ k + d v)
  up_depth zero u v l e = let q : v ≡ u = omega arith in (omega arith, let a = ap d q in omega arith)
  up_depth (suc k) u v l e =
      let t = up_last par k u v e in
      let i = up_depth k u t.0 l t.1 in
      let j = deep.link t.0 v i.0 t.2 in
      (j.0, omega arith)

  -- below a child of v, and so deeper than v
  pub under_depth : (u c v : ℕ) → u < n → (t : In par c u) → par c ≡ suc v → (c < n) × (d u ≡ suc (t.0 + d v))
  under_depth u c v l t p = let i = up_depth t.0 u c l t.1 in let j = deep.link c v i.0 p in (i.0, omega arith)

  -- no node is below two children of v
  pub one_child : (u b c v : ℕ) → u < n → In par b u → par b ≡ suc v → In par c u → par c ≡ suc v → b ≡ c
  one_child u b c v l s p t q =
      let x = (under_depth u b v l s p).1 in
      let y = (under_depth u c v l t q).1 in
      let z : s.0 ≡ t.0 = omega arith in
      let w = ap (λ i. up par i u) z in
      omega (arith, s.1, t.1)

  in? : (v u : ℕ) → u < n → Decided (In par v u)
  in? v u l = elim (below? (λ k. up par k u ≡ suc v) (λ k. cases_eq (up par k u) (suc v)) (suc (d u))) [ inl t ↦ inl (t.0, t.2) | inr h ↦ inr (λ t. h (t.0, (let e = up_depth t.0 u v l t.1 in omega arith), t.1)) ]

  -- a node in the subtree of v, asked of any number
  abbrev Sub : ℕ → ℕ → Type 0
  Sub v u = (u < n) × In par v u

  sub? : (v u : ℕ) → Decided (Sub v u)
  sub? v u = elim (lt? u n) [ inl l ↦ elim (in? v u l) [ inl t ↦ inl (l, t) | inr h ↦ inr (λ t. h t.1) ] | inr l ↦ inr (λ t. l t.0) ]

  abbrev size : ℕ → ℕ
  size v = tally (Sub v) (sub? v) n

  size_counts : Sized n par size
  size_counts v l = counted_map (Sub v) (In par v) n (size v) (λ u m t. t.1) (λ u m t. (m, t)) (tally_counted (Sub v) (sub? v) n)

  -- a node counts once: as v itself, or under just one child of v
  counts_once : (v u : ℕ) (xs : List ℕ) → v < n → u < n → Lists n par v xs → score (sub? v u) ≡ score (cases_eq u v) + child_sum par (λ c. score (sub? c u)) v xs
  counts_once v u xs l m ls = go (cases_eq u v) (sub? v u)
    where
      share : (c : ℕ) → ℕ
      share c = cond (eqb (par c) (suc v)) (score (sub? c u)) 0

      share_none : (c : ℕ) → (par c ≡ suc v → Sub c u → ⊥) → share c ≡ 0
      share_none c h = elim (cases_eq (par c) (suc v)) [ inl e ↦ child_share par (λ c. score (sub? c u)) v c e ∙ score_no (sub? c u) (h e) | inr e ↦ other_share par (λ c. score (sub? c u)) v c e ]

      share_one : (c : ℕ) → par c ≡ suc v → Sub c u → share c ≡ 1
      share_one c p h = child_share par (λ c. score (sub? c u)) v c p ∙ score_yes (sub? c u) h

      below : (k : ℕ) → (u ≡ v → ⊥) → up par k u ≡ suc v → sum_over share xs ≡ 1
      below zero ne e = absurd (ne (omega arith))
      below (suc k) ne e =
          let t = up_last par k u v e in
          let i = (under_depth u t.0 v m (k, t.1) t.2).0 in
          sum_one share xs t.0 ls.once (ls.all t.0 i t.2) (λ b q x. share_none b (λ p s. x (one_child u b t.0 v m s.1 p (k, t.1) t.2))) ∙ share_one t.0 t.2 (m, (k, t.1))

      go : Decided (u ≡ v) → Decided (Sub v u) → score (sub? v u) ≡ score (cases_eq u v) + sum_over share xs
      go (inl e) s =
          let a = score_yes (sub? v u) (m, (0, ap suc e)) in
          let b = score_yes (cases_eq u v) e in
          let c = sum_zero share xs (λ c q. share_none c (λ p s. let x = (under_depth u c v m s.1 p).1 in let y = ap d e in absurd (omega arith))) in
          omega arith
      go (inr e) (inl s) = let a = score_yes (sub? v u) s in let b = score_no (cases_eq u v) e in let c = below s.1.0 e s.1.1 in omega arith
      go (inr e) (inr s) = let a = score_no (sub? v u) s in let b = score_no (cases_eq u v) e in let c = sum_zero share xs (λ c q. share_none c (λ p t. s (m, in_parent par u c v t.1 p))) in omega arith

  -- so the counts below any m add up
  counts_add : (v : ℕ) (xs : List ℕ) → v < n → Lists n par v xs → (m : ℕ) → m ≤ n → tally (Sub v) (sub? v) m ≡ tally (λ u. u ≡ v) (λ u. cases_eq u v) m + child_sum par (λ c. tally (Sub c) (sub? c) m) v xs
  counts_add v xs l ls zero h = let a = sum_zero (λ c. cond (eqb (par c) (suc v)) 0 0) xs (λ c _. cond_same (eqb (par c) (suc v))) in omega arith
  counts_add v xs l ls (suc m) h =
      let a = counts_once v m xs l (omega arith) ls in
      let b = counts_add v xs l ls m (omega arith) in
      let c = child_add par (λ c. score (sub? c m)) (λ c. tally (Sub c) (sub? c) m) v xs in
      omega arith

  size_adds : (v : ℕ) (xs : List ℕ) → v < n → Lists n par v xs → size v ≡ 1 + child_sum par size v xs
  size_adds v xs l ls = let a = counts_add v xs l ls n (omega arith) in let b = tally_equal v n l in omega arith

pub sizes_exist_lem : SizesExist
sizes_exist_lem n par d deep = (size n par d deep, size_counts n par d deep)

pub size_unique_lem : SizeUnique
size_unique_lem n par f g a b v l = counted_unique (a v l) (b v l)

pub size_low_lem : SizeLow
size_low_lem n par size s v l = counted_le (s v l)

pub size_sum_lem : SizeSum
size_sum_lem n par d f deep s v xs l ls =
    let same : (c : ℕ) → c < n → size n par d deep c ≡ f c = λ c m. size_unique_lem n par (size n par d deep) f (size_counts n par d deep) s c m in
    sym (same v l) ∙ size_adds n par d deep v xs l ls ∙ ap (λ z. 1 + z) (child_cong par (size n par d deep) f v xs (λ c m _. same c (ls.nodes c m)))

pub size_rule_lem : SizeRule
size_rule_lem n par d f near deep lists rule v l = subst (Counted (In par v) n) (sym (by_children n par d deep (λ v. f v ≡ full v) step v l)) (size_counts n par d deep v l)
  where
    full : ℕ → ℕ
    full v = size n par d deep v

    step : (v : ℕ) → v < n → ((c : ℕ) → c < n → par c ≡ suc v → f c ≡ full c) → f v ≡ full v
    step v l rec =
        let a = child_cong par f full v (near v) (λ c m e. rec c ((lists v l).nodes c m) e) in
        let b = size_adds n par d deep v (near v) l (lists v l) in
        let c = size_low_lem n par full (size_counts n par d deep) v l in
        omega (arith, rule v l, a, b, c)

pub laws : Laws
laws = record {
  chain_unique = chain_unique_lem;
  chain_short = chain_short_lem;
  tall_unique = tall_unique_lem;
  depths_chain = depths_chain_lem;
  depths_tall = depths_tall_lem;
  depths_greatest = depths_greatest_lem;
  tall_depths = tall_depths_lem;
  sizes_exist = sizes_exist_lem;
  size_unique = size_unique_lem;
  size_low = size_low_lem;
  size_sum = size_sum_lem;
  size_rule = size_rule_lem;
}
