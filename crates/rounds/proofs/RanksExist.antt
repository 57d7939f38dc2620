-- Every node has one rank.
use Rattle.std.proofs.Common.{◌≡◌, ℕ, zero, suc, ◌+◌, ◌<◌, List, ◌∷◌, ◌++◌, sym, refl, ap, ◌∙◌, subst, inl, inr, arith}
use Rattle.lists.specs.Members.{Once}
use Rattle.lists.proofs.Decisions.{Decided, lt?}
use Rattle.rounds.specs.Forest.{Depths, sum_over}
use Rattle.rounds.specs.Preorder.{Ordered, Ranked, RanksExist, RankUnique}
use Rattle.rounds.proofs.Kept.{among_split, split_unique}
use Rattle.rounds.proofs.ChainLaws.{by_parents}

pub rank_unique : RankUnique
rank_unique n par d size f g children deep order a b = by_parents n par d deep (λ v. f v ≡ g v) (λ v l e. a.top v l e ∙ sym (b.top v l e)) (λ v w l m e r. let s = among_split v (children w) (order.all w v m l e) in a.next v w s.0 s.1 l m e s.2 ∙ ap (λ z. z + 1 + sum_over size s.0) r ∙ sym (b.next v w s.0 s.1 l m e s.2))

module _ (n : ℕ) (par d size : ℕ → ℕ) (children : ℕ → List ℕ) (deep : Depths n par d) (order : Ordered n par children) where
  -- r is the rank of v, whose chain has k links
  abbrev Is : ℕ → ℕ → ℕ → Type 0
  Is zero v r = (par v ≡ 0) × (r ≡ 0)
  Is (suc k) v r = (w : ℕ) × (t : ℕ) × (earlier : List ℕ) × (later : List ℕ) × (par v ≡ suc w) × (children w ≡ earlier ++ (v ∷ later)) × Is k w t × (r ≡ t + 1 + sum_over size earlier)

  some : (v : ℕ) → v < n → (k : ℕ) × (r : ℕ) × Is k v r
  some = by_parents n par d deep (λ v. (k : ℕ) × (r : ℕ) × Is k v r) (λ v l e. (0, 0, (e, refl))) (λ v w l m e t. let s = among_split v (children w) (order.all w v m l e) in (suc t.0, t.1 + 1 + sum_over size s.0, (w, t.1, s.0, s.1, e, s.2, t.2, refl)))

  same : (k j v r q : ℕ) → v < n → Is k v r → Is j v q → r ≡ q
  same zero zero v r q l a b = a.1 ∙ sym b.1
  same zero (suc j) v r q l a b = absurd (omega (arith, a.0, b.4))
  same (suc k) zero v r q l a b = absurd (omega (arith, a.4, b.0))
  same (suc k) (suc j) v r q l a b =
      let m = (deep.link v a.0 l a.4).0 in
      let e : b.0 ≡ a.0 = omega (arith, a.4, b.4) in
      let x = same k j a.0 a.1 b.1 m a.6 (subst (λ z. Is j z b.1) e b.6) in
      let y = split_unique v a.2 a.3 b.2 b.3 (subst Once a.5 (order.once a.0 m)) (sym a.5 ∙ ap children (sym e) ∙ b.5) in
      a.7 ∙ ap (λ z. z + 1 + sum_over size a.2) x ∙ ap (λ z. b.1 + 1 + sum_over size z) y ∙ sym b.7

  of : (v : ℕ) → Decided (v < n) → (r : ℕ) × (v < n → (k : ℕ) × Is k v r)
  of v (inl l) = let t = some v l in (t.1, λ _. (t.0, t.2))
  of v (inr x) = (0, λ l. absurd (x l))

  rank : ℕ → ℕ
  rank v = (of v (lt? v n)).0

  fact : (v : ℕ) → v < n → (k : ℕ) × Is k v (rank v)
  unfolding rank
  fact v l = (of v (lt? v n)).1 l

  ranked : Ranked n par children size rank
  ranked = record {
    top = λ v l e. let t = fact v l in same t.0 0 v (rank v) 0 l t.1 (e, refl);
    next = λ v w earlier later l m e q. let t = fact v l in let s = fact w m in same t.0 (suc s.0) v (rank v) (rank w + 1 + sum_over size earlier) l t.1 (w, rank w, earlier, later, e, q, s.1, refl);
  }

pub ranks_exist : RanksExist
ranks_exist n par d size children deep order = (rank n par d size children deep order, ranked n par d size children deep order)
