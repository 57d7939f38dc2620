-- Chains of parents, heights and depths, and induction along them.
use Rattle.std.proofs.Common.{◌≡◌, ℕ, zero, suc, ◌+◌, ◌<◌, ◌≤◌, List, [], ◌∷◌, length, sym, refl, ap, ◌∙◌, subst, inl, inr, arith}
use Rattle.std.proofs.lemmas.Bool.{cases_lt}
use Rattle.lists.specs.Members.{Among, Once}
use Rattle.lists.proofs.Decisions.{Decided, lt?}
use Rattle.lists.proofs.Pigeonhole.{once_below}
use Rattle.rounds.specs.Forest.{Inside, Chain, Tall, Depths, Greatest, ChainUnique, ChainShort, TallUnique, DepthsChain, DepthsTall, DepthsGreatest, TallDepths}

pub chain_unique_lem : ChainUnique
chain_unique_lem par zero zero v a b = refl
chain_unique_lem par zero (suc j) v a b = absurd (omega (arith, b.1))
chain_unique_lem par (suc k) zero v a b = absurd (omega (arith, a.1))
chain_unique_lem par (suc k) (suc j) v a b = let e : b.0 ≡ a.0 = omega (arith, a.1, b.1) in ap suc (chain_unique_lem par k j a.0 a.2 (subst (Chain par j) e b.2))

-- the nodes of a chain, all different: the chains from them have different lengths
chain_nodes : (n : ℕ) (par : ℕ → ℕ) (k v : ℕ) → Inside n par → v < n → Chain par k v → (xs : List ℕ) × (length xs ≡ suc k) × Once xs × ((u : ℕ) → Among u xs → (u < n) × ((j : ℕ) × (j ≤ k) × Chain par j u))
chain_nodes n par zero v i l c = (v ∷ [], refl, (λ h. h, tt), λ u m. elim m [ inl e ↦ (omega arith, (0, omega arith, ap par e ∙ c)) | inr h ↦ absurd h ])
chain_nodes n par (suc k) v i l c =
    let t = chain_nodes n par k c.0 i (i v c.0 l c.1) c.2 in
    (v ∷ t.0, ap suc t.1, (λ m. let s = t.3 v m in let e = chain_unique_lem par (suc k) s.1.0 v c s.1.2 in absurd (omega (arith, s.1.1)), t.2), λ u m. elim m [ inl e ↦ (omega arith, (suc k, omega arith, subst (Chain par (suc k)) (sym e) c)) | inr h ↦ ((t.3 u h).0, ((t.3 u h).1.0, omega (arith, (t.3 u h).1.1), (t.3 u h).1.2)) ])

pub chain_short_lem : ChainShort
chain_short_lem n par k v i l c = let t = chain_nodes n par k v i l c in omega (arith, t.1, once_below n t.0 t.2 (λ u m. (t.3 u m).0))

pub tall_unique_lem : TallUnique
tall_unique_lem n par h g s t = let a = below h g s t in let b = below g h t s in omega arith
  where
    below : (h g : ℕ) → Tall n par h → Tall n par g → h ≤ g
    below h g s t = let c = t.low s.high.0 s.high.1 in omega (arith, chain_unique_lem par h c.0 s.high.0 s.high.2 c.2, c.1)

-- what holds of nodes with no parent, and of a node once it holds of its parent, holds of every node
pub by_parents : (n : ℕ) (par d : ℕ → ℕ) → Depths n par d → (P : ℕ → Type 0) → ((v : ℕ) → v < n → par v ≡ 0 → P v) → ((v w : ℕ) → v < n → w < n → par v ≡ suc w → P w → P v) → (v : ℕ) → v < n → P v
by_parents n par d deep P top next v l = go (suc (d v)) v l (omega arith)
  where
    at : (v : ℕ) → v < n → (p : ℕ) → par v ≡ p → ((w : ℕ) → w < n → d v ≡ suc (d w) → P w) → P v
    at v l zero e rec = top v l e
    at v l (suc w) e rec = let t = deep.link v w l e in next v w l t.0 e (rec w t.0 t.1)

    go : (k v : ℕ) → v < n → d v < k → P v
    go zero v l h = absurd (omega arith)
    go (suc k) v l h = at v l (par v) refl (λ w m e. go k w m (omega arith))

pub depths_chain_lem : DepthsChain
depths_chain_lem n par d deep = by_parents n par d deep (λ v. Chain par (d v) v) (λ v l e. subst (λ k. Chain par k v) (sym (deep.top v l e)) e) (λ v w l m e c. subst (λ k. Chain par k v) (sym (deep.link v w l e).1) (w, e, c))

pub depths_inside : (n : ℕ) (par d : ℕ → ℕ) → Depths n par d → Inside n par
depths_inside n par d deep v w l e = (deep.link v w l e).0

pub depths_low : (n : ℕ) (par d : ℕ → ℕ) → Depths n par d → (v : ℕ) → v < n → d v < n
depths_low n par d deep v l = chain_short_lem n par (d v) v (depths_inside n par d deep) l (depths_chain_lem n par d deep v l)

-- what holds of a node once it holds of its children, holds of every node
pub by_children : (n : ℕ) (par d : ℕ → ℕ) → Depths n par d → (P : ℕ → Type 0) → ((v : ℕ) → v < n → ((c : ℕ) → c < n → par c ≡ suc v → P c) → P v) → (v : ℕ) → v < n → P v
by_children n par d deep P step v l = go n v l (omega arith)
  where
    go : (k v : ℕ) → v < n → n ≤ d v + k → P v
    go zero v l h = absurd (omega (arith, depths_low n par d deep v l))
    go (suc k) v l h = step v l (λ c m e. go k c m (omega (arith, (deep.link c v m e).1)))

pub depths_tall_lem : DepthsTall
depths_tall_lem n par d h deep g = record {
  low = λ v l. (d v, g.0 v l, depths_chain_lem n par d deep v l);
  high = (g.1.0, g.1.1, subst (λ k. Chain par k g.1.0) g.1.2 (depths_chain_lem n par d deep g.1.0 g.1.1));
}

pub depths_greatest_lem : DepthsGreatest
depths_greatest_lem zero d pos = absurd (omega arith)
depths_greatest_lem (suc zero) d pos = (d 0, (λ v l. let e : v ≡ 0 = omega arith in omega (arith, ap d e), (0, omega arith, refl)))
depths_greatest_lem (suc (suc n)) d pos = go (depths_greatest_lem (suc n) d (omega arith))
  where
    go : (h : ℕ) × Greatest (suc n) d h → (h : ℕ) × Greatest (suc (suc n)) d h
    go t = elim (cases_lt t.0 (d (suc n))) [ inl x ↦ (d (suc n), (λ v l. last v l (d (suc n)) (omega arith) (omega arith), (suc n, omega arith, refl))) | inr x ↦ (t.0, (λ v l. last v l t.0 (omega arith) x, (t.1.1.0, omega (arith, t.1.1.1), t.1.1.2))) ]
      where
        last : (v : ℕ) → v < suc (suc n) → (h : ℕ) → t.0 ≤ h → d (suc n) ≤ h → d v ≤ h
        last v l h a b = elim (cases_lt v (suc n)) [ inl m ↦ omega (arith, t.1.0 v m) | inr m ↦ (let e : v ≡ suc n = omega arith in omega (arith, ap d e)) ]

pub tall_depths_lem : TallDepths
tall_depths_lem n par h inside tall = (depth, record { top = top; link = link }, ((λ v l. (fact v l).0), (tall.high.0, tall.high.1, chain_unique_lem par (depth tall.high.0) h tall.high.0 (fact tall.high.0 tall.high.1).1 tall.high.2)))
  where
    of : (v : ℕ) → Decided (v < n) → (k : ℕ) × (v < n → (k ≤ h) × Chain par k v)
    of v (inl l) = let t = tall.low v l in (t.0, λ _. (t.1, t.2))
    of v (inr x) = (0, λ l. absurd (x l))

    depth : ℕ → ℕ
    depth v = (of v (lt? v n)).0

    fact : (v : ℕ) → v < n → (depth v ≤ h) × Chain par (depth v) v
    fact v l = (of v (lt? v n)).1 l

    top : (v : ℕ) → v < n → par v ≡ 0 → depth v ≡ 0
    top v l e = chain_unique_lem par (depth v) 0 v (fact v l).1 e

    link : (v w : ℕ) → v < n → par v ≡ suc w → (w < n) × (depth v ≡ suc (depth w))
    link v w l e = let m = inside v w l e in (m, chain_unique_lem par (depth v) (suc (depth w)) v (fact v l).1 (w, e, (fact w m).1))
