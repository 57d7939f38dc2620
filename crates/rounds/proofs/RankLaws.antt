-- Where the listing of a node stands in that of the node above it.
use Rattle.std.proofs.Common.{◌≡◌, ℕ, suc, ◌+◌, ◌<◌, ◌≤◌, List, [], ◌∷◌, ◌++◌, length, sym, ap, ◌∙◌, subst, append_assoc, append-nil, arith, length-append}
use Rattle.std.specs.List.{flat_map}
use Rattle.lists.specs.Members.{Among}
use Rattle.lists.proofs.Elements.{among_append_left}
use Rattle.lists.proofs.Pigeonhole.{once_below}
use Rattle.rounds.specs.Forest.{Depths, Sized, sum_over}
use Rattle.rounds.specs.Preorder.{Ordered, preorder, Ranked}
use Rattle.rounds.proofs.Sums.{sum_cong}
use Rattle.rounds.proofs.Kept.{among_split}
use Rattle.rounds.proofs.Joins.{joined_append, length_joined}
use Rattle.rounds.proofs.ChainLaws.{by_parents}
use Rattle.rounds.proofs.PreorderLaws.{listing_opens, listed_in, listed_once, listed_size}

module _ (n : ℕ) (par d : ℕ → ℕ) (children : ℕ → List ℕ) (deep : Depths n par d) (order : Ordered n par children) where
  abbrev listing : ℕ → List ℕ
  listing = preorder n children

  pub listed_low : (v : ℕ) → v < n → length (listing v) ≤ n
  listed_low v l = once_below n (listing v) (listed_once n par d children deep order v l) (λ u m. (listed_in n par d children deep order v l u m).0)

  -- a listing from one of the children on
  listing_opens_at : (w v : ℕ) (earlier later : List ℕ) → w < n → children w ≡ earlier ++ (v ∷ later) → listing w ≡ w ∷ (flat_map listing earlier ++ (listing v ++ flat_map listing later))
  listing_opens_at w v earlier later l e = listing_opens n par d children deep order w l ∙ ap (λ z. w ∷ flat_map listing z) e ∙ ap (λ z. w ∷ z) (joined_append listing earlier (v ∷ later))

  module _ (size rank : ℕ → ℕ) (counts : Sized n par size)
      (top : (v : ℕ) → v < n → par v ≡ 0 → rank v ≡ 0)
      (next : (v w : ℕ) (earlier later : List ℕ) → v < n → w < n → par v ≡ suc w → children w ≡ earlier ++ (v ∷ later) → rank w + 1 + sum_over size earlier < n → rank v ≡ rank w + 1 + sum_over size earlier) where
    -- the listing of v stands at the rank of v in that of the node where its chain ends
    pub record Stands (v : ℕ) : Type 0 where
      pub end : ℕ
      pub node : end < n
      pub last : par end ≡ 0
      pub before : List ℕ
      pub after : List ℕ
      pub place : length before ≡ rank v
      pub whole : listing end ≡ before ++ (listing v ++ after)

    earlier_length : (w : ℕ) → w < n → (earlier later : List ℕ) → children w ≡ earlier ++ later → length (flat_map listing earlier) ≡ sum_over size earlier
    earlier_length w l earlier later e = length_joined listing earlier ∙ sum_cong (λ c. length (listing c)) size earlier (λ c m. listed_size n par d children deep order size counts c (order.child w c l (subst (Among c) (sym e) (among_append_left c earlier later m))).0)

    -- where the listing of a child stands, whatever its rank
    child_stands : (v w : ℕ) (earlier later : List ℕ) → w < n → children w ≡ earlier ++ (v ∷ later) → (s : Stands w) → (length (s.before ++ (w ∷ flat_map listing earlier)) ≡ rank w + 1 + sum_over size earlier) × (listing s.end ≡ (s.before ++ (w ∷ flat_map listing earlier)) ++ (listing v ++ (flat_map listing later ++ s.after)))
    child_stands v w earlier later l e s = (
      (let a = length-append s.before (w ∷ flat_map listing earlier) in let b = earlier_length w l earlier (v ∷ later) e in omega (arith, s.place)),
      s.whole ∙ ap (λ z. s.before ++ (z ++ s.after)) (listing_opens_at w v earlier later l e) ∙ simp append_assoc,
    )

    -- a child's place is below n
    room : (v w : ℕ) (earlier later : List ℕ) → v < n → w < n → children w ≡ earlier ++ (v ∷ later) → Stands w → rank w + 1 + sum_over size earlier < n
    room v w earlier later l m e s =
        let t = child_stands v w earlier later m e s in
        let a = ap length t.1 ∙ length-append (s.before ++ (w ∷ flat_map listing earlier)) (listing v ++ (flat_map listing later ++ s.after)) in
        let b = length-append (listing v) (flat_map listing later ++ s.after) in
        let c = ap length (listing_opens n par d children deep order v l) in
        omega (arith, t.0, listed_low s.end s.node)

    pub stands : (v : ℕ) → v < n → Stands v
    stands = by_parents n par d deep Stands (λ v l e. record { end = v; node = l; last = e; before = []; after = []; place = sym (top v l e); whole = sym (append-nil (listing v)) }) on
      where
        on : (v w : ℕ) → v < n → w < n → par v ≡ suc w → Stands w → Stands v
        on v w l m e s =
            let c = among_split v (children w) (order.all w v m l e) in
            let t = child_stands v w c.0 c.1 m c.2 s in
            record { end = s.end; node = s.node; last = s.last; before = s.before ++ (w ∷ flat_map listing c.0); after = flat_map listing c.1 ++ s.after; place = t.0 ∙ sym (next v w c.0 c.1 l m e c.2 (room v w c.0 c.1 l m c.2 s)); whole = t.1 }

    -- so the rule holds with no limit
    pub ranked_all : Ranked n par children size rank
    ranked_all = record { top = top; next = λ v w earlier later l m e q. next v w earlier later l m e q (room v w earlier later l m q (stands w m)) }
