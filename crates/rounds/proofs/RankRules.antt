-- Ranks as places in a tree's listing, and the rule that is cut off at n.
use Rattle.std.proofs.Common.{◌≡◌, ℕ, suc, ◌+◌, ◌<◌, eqb, List, ◌∷◌, ◌++◌, length, get_or, filter, sym, ap, ◌∙◌, subst, arith, length-append}
use Rattle.std.specs.List.{flat_map}
use Rattle.std.proofs.lemmas.List.Elements.{filter-append}
use Rattle.std.proofs.lemmas.List.{get_or_at}
use Rattle.std.proofs.lemmas.Bool.{eqb-true, eq-eqb, cond-true}
use Rattle.lists.specs.Members.{Among, Once}
use Rattle.lists.proofs.Elements.{among_get_d, once_places}
use Rattle.lists.proofs.Pigeonhole.{covers_length}
use Rattle.rounds.specs.Forest.{In, Depths, Sized, sum_over}
use Rattle.rounds.specs.Preorder.{Ordered, Rooted, preorder, Ranked, children_of, NearOrdered, RuleRanked, Laws}
use Rattle.rounds.proofs.Kept.{among_kept, among_kept_cases, once_kept, sum_kept, among_split, split_unique}
use Rattle.rounds.proofs.ChainLaws.{by_parents}
use Rattle.rounds.proofs.SizeLaws.{up_first}
use Rattle.rounds.proofs.PreorderLaws.{listing_opens, listed_in, in_listed, listed_once, listed_size}
use Rattle.rounds.proofs.RanksExist.{ranks_exist, rank_unique}
use Rattle.rounds.proofs.RankLaws.{listed_low, stands, ranked_all}

module _ (n : ℕ) (par d : ℕ → ℕ) (children : ℕ → List ℕ) (root : ℕ) (deep : Depths n par d) (order : Ordered n par children) (rooted : Rooted n par root) where
  in_root : (v : ℕ) → v < n → In par root v
  in_root = by_parents n par d deep (In par root) (λ v l e. (0, ap suc (rooted.only v l e))) (λ v w l m e t. (suc t.0, up_first par t.0 v w e ∙ t.1))

  abbrev all : List ℕ
  all = preorder n children root

  pub listed_all : (v : ℕ) → v < n → Among v all
  listed_all v l = let t = in_root v l in in_listed n par d children deep order v l t.0 root rooted.node t.1

  pub listed_length : length all ≡ n
  listed_length = omega (arith, listed_low n par d children deep order root rooted.node, covers_length n all listed_all)

  module _ (size rank : ℕ → ℕ) (counts : Sized n par size) (ranked : Ranked n par children size rank) where
    pub rank_place : (v : ℕ) → v < n → (rank v < n) × (get_or all (rank v) 0 ≡ v)
    rank_place v l =
        let s = stands n par d children deep order size rank counts ranked.top (λ v w earlier later l m e q _. ranked.next v w earlier later l m e q) v l in
        let rest = flat_map (preorder n children) (children v) ++ s.after in
        let whole : all ≡ s.before ++ (v ∷ rest) = ap (preorder n children) (sym (rooted.only s.end s.node s.last)) ∙ s.whole ∙ ap (λ z. s.before ++ (z ++ s.after)) (listing_opens n par d children deep order v l) in
        let len = ap length whole ∙ length-append s.before (v ∷ rest) in
        (omega (arith, s.place, listed_length), ap (λ z. get_or z (rank v) 0) whole ∙ get_or_at s.before v rest 0 (rank v) s.place)

    pub rank_each : (k : ℕ) → k < n → (v : ℕ) × (v < n) × (rank v ≡ k) × ((u : ℕ) → u < n → rank u ≡ k → u ≡ v)
    rank_each k l =
        let v = get_or all k 0 in
        let low : k < length all = omega (arith, listed_length) in
        let node = (listed_in n par d children deep order root rooted.node v (among_get_d all k 0 low)).0 in
        let at = rank_place v node in
        (v, node, once_places all (listed_once n par d children deep order root rooted.node) (rank v) k 0 (omega (arith, at.0, listed_length)) low at.1, λ u m e. sym (rank_place u m).1 ∙ ap (λ z. get_or all z 0) e)

pub near_ordered : NearOrdered
near_ordered n par near lists = record {
  once = λ v l. once_kept (λ c. eqb (par c) (suc v)) (near v) (lists v l).once;
  child = λ v c l m. let t = among_kept_cases (λ c. eqb (par c) (suc v)) c (near v) m in ((lists v l).nodes c t.0, eqb-true (par c) (suc v) t.1);
  all = λ v c l m e. among_kept (λ c. eqb (par c) (suc v)) c (near v) ((lists v l).all c m e) (eq-eqb (par c) (suc v) e);
}

pub rule_ranked : RuleRanked
rule_ranked n par d size rank near deep lists counts rule = ranked_all n par d (children_of par near) deep (near_ordered n par near lists) size rank counts rule.top next
  where
    kept : ℕ → List ℕ → List ℕ
    kept w xs = filter (λ c. eqb (par c) (suc w)) xs

    -- the children before v are those of the nodes before it
    same : (v w : ℕ) (earlier later a b : List ℕ) → w < n → par v ≡ suc w → children_of par near w ≡ earlier ++ (v ∷ later) → near w ≡ a ++ (v ∷ b) → earlier ≡ kept w a
    same v w earlier later a b l e q p =
        let split : children_of par near w ≡ kept w a ++ (v ∷ kept w b) = ap (kept w) p ∙ filter-append (λ c. eqb (par c) (suc w)) a (v ∷ b) ∙ ap (λ z. kept w a ++ z) (cond-true (eqb (par v) (suc w)) (v ∷ kept w b) (kept w b) (eq-eqb (par v) (suc w) e)) in
        split_unique v earlier later (kept w a) (kept w b) (subst Once q ((near_ordered n par near lists).once w l)) (sym q ∙ split)

    next : (v w : ℕ) (earlier later : List ℕ) → v < n → w < n → par v ≡ suc w → children_of par near w ≡ earlier ++ (v ∷ later) → rank w + 1 + sum_over size earlier < n → rank v ≡ rank w + 1 + sum_over size earlier
    next v w earlier later l m e q low =
        let s = among_split v (near w) ((lists w m).all v l e) in
        let a = ap (sum_over size) (same v w earlier later s.0 s.1 m e q s.2) ∙ sum_kept (λ c. eqb (par c) (suc w)) size s.0 in
        let b = rule.next v w s.0 s.1 l m e s.2 in
        omega arith

pub laws : Laws
laws = record {
  unfolds = λ n par d children deep order v l. listing_opens n par d children deep order v l;
  subtree = λ n par d children deep order v u l. (λ m. listed_in n par d children deep order v l u m, λ m t. in_listed n par d children deep order u m t.0 v l t.1);
  once = λ n par d children deep order v l. listed_once n par d children deep order v l;
  size = λ n par d size children deep order s v l. listed_size n par d children deep order size s v l;
  all = λ n par d children root deep order rooted. (listed_length n par d children root deep order rooted, λ v l. listed_all n par d children root deep order rooted v l);
  place = λ n par d size rank children root deep order s rooted ranked v l. rank_place n par d children root deep order rooted size rank s ranked v l;
  each = λ n par d size rank children root deep order s rooted ranked k l. rank_each n par d children root deep order rooted size rank s ranked k l;
  exist = ranks_exist;
  unique = rank_unique;
  near = near_ordered;
  rule = rule_ranked;
}
