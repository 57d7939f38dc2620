-- The preorder listing of a tree whose children come in an order, and ranks as places in it.
-- Nodes and parents are as in Forest.
use Rattle.std.specs.Prelude.{◌≡◌, ℕ, zero, suc, ◌+◌, ◌<◌, min, List, [], ◌∷◌, ◌++◌, length, filter, nat_eq, slice_index}
use Rattle.std.specs.List.{flat_map}
use Rattle.lists.specs.Members.{Among, Once}
use Rattle.rounds.specs.Forest.{In, Depths, Sized, Lists, sum_over, child_sum}

-- children v lists the children of v, each once, in their order
pub record Ordered (n : ℕ) (par : ℕ → ℕ) (children : ℕ → List ℕ) : Type 0 where
  pub once : (v : ℕ) → v < n → Once (children v)
  pub child : (v c : ℕ) → v < n → Among c (children v) → (c < n) × (par c ≡ suc v)
  pub all : (v c : ℕ) → v < n → c < n → par c ≡ suc v → Among c (children v)

-- root alone has no parent
pub record Rooted (n : ℕ) (par : ℕ → ℕ) (root : ℕ) : Type 0 where
  pub node : root < n
  pub top : par root ≡ 0
  pub only : (v : ℕ) → v < n → par v ≡ 0 → v ≡ root

-- v, and then the listings of its children, one after the other; at most k levels
abbrev pub levels : (ℕ → List ℕ) → ℕ → ℕ → List ℕ
levels children zero v = []
levels children (suc k) v = v ∷ flat_map (levels children k) (children v)

-- the subtree of v in preorder; a forest of n nodes has at most n levels
abbrev pub preorder : ℕ → (ℕ → List ℕ) → ℕ → List ℕ
preorder n children v = levels children n v

-- every node's rank: the root has 0, and a child comes right after its parent and the subtrees of its earlier siblings
pub record Ranked (n : ℕ) (par : ℕ → ℕ) (children : ℕ → List ℕ) (size rank : ℕ → ℕ) : Type 0 where
  pub top : (v : ℕ) → v < n → par v ≡ 0 → rank v ≡ 0
  pub next : (v w : ℕ) (earlier later : List ℕ) → v < n → w < n → par v ≡ suc w → children w ≡ earlier ++ (v ∷ later) → rank v ≡ rank w + 1 + sum_over size earlier

-- the children of v among the nodes near it, in the order of that list
abbrev pub children_of : (ℕ → ℕ) → (ℕ → List ℕ) → ℕ → List ℕ
children_of par near v = filter (λ c. nat_eq (par c) (suc v)) (near v)

-- the same rule, read off the nodes near each parent and cut off at n
pub record RankRule (n : ℕ) (par : ℕ → ℕ) (near : ℕ → List ℕ) (size rank : ℕ → ℕ) : Type 0 where
  pub top : (v : ℕ) → v < n → par v ≡ 0 → rank v ≡ 0
  pub next : (v w : ℕ) (earlier later : List ℕ) → v < n → w < n → par v ≡ suc w → near w ≡ earlier ++ (v ∷ later) → rank v ≡ min n (rank w + 1 + child_sum par size w earlier)

-- the listing of v is v, and then the whole listings of its children
abbrev pub Unfolds : Type 0
Unfolds = (n : ℕ) (par d : ℕ → ℕ) (children : ℕ → List ℕ) → Depths n par d → Ordered n par children → (v : ℕ) → v < n → preorder n children v ≡ v ∷ flat_map (preorder n children) (children v)

-- it lists the nodes of the subtree and no others
abbrev pub ListsSubtree : Type 0
ListsSubtree = (n : ℕ) (par d : ℕ → ℕ) (children : ℕ → List ℕ) → Depths n par d → Ordered n par children → (v u : ℕ) → v < n → (Among u (preorder n children v) → (u < n) × In par v u) × (u < n → In par v u → Among u (preorder n children v))

-- each once
abbrev pub ListsOnce : Type 0
ListsOnce = (n : ℕ) (par d : ℕ → ℕ) (children : ℕ → List ℕ) → Depths n par d → Ordered n par children → (v : ℕ) → v < n → Once (preorder n children v)

-- so its length is the subtree's size
abbrev pub ListsSize : Type 0
ListsSize = (n : ℕ) (par d size : ℕ → ℕ) (children : ℕ → List ℕ) → Depths n par d → Ordered n par children → Sized n par size → (v : ℕ) → v < n → length (preorder n children v) ≡ size v

-- of a tree, the root's listing has every node
abbrev pub ListsAll : Type 0
ListsAll = (n : ℕ) (par d : ℕ → ℕ) (children : ℕ → List ℕ) (root : ℕ) → Depths n par d → Ordered n par children → Rooted n par root → (length (preorder n children root) ≡ n) × ((v : ℕ) → v < n → Among v (preorder n children root))

-- a node's rank is its place in the root's listing
abbrev pub RankPlace : Type 0
RankPlace = (n : ℕ) (par d size rank : ℕ → ℕ) (children : ℕ → List ℕ) (root : ℕ) → Depths n par d → Ordered n par children → Sized n par size → Rooted n par root → Ranked n par children size rank → (v : ℕ) → v < n → (rank v < n) × (slice_index (preorder n children root) (rank v) ≡ v)

-- so the ranks are 0 to n - 1, each of one node
abbrev pub RankEach : Type 0
RankEach = (n : ℕ) (par d size rank : ℕ → ℕ) (children : ℕ → List ℕ) (root : ℕ) → Depths n par d → Ordered n par children → Sized n par size → Rooted n par root → Ranked n par children size rank → (k : ℕ) → k < n → (v : ℕ) × (v < n) × (rank v ≡ k) × ((u : ℕ) → u < n → rank u ≡ k → u ≡ v)

-- there are such ranks
abbrev pub RanksExist : Type 0
RanksExist = (n : ℕ) (par d size : ℕ → ℕ) (children : ℕ → List ℕ) → Depths n par d → Ordered n par children → (rank : ℕ → ℕ) × Ranked n par children size rank

-- and no others
abbrev pub RankUnique : Type 0
RankUnique = (n : ℕ) (par d size f g : ℕ → ℕ) (children : ℕ → List ℕ) → Depths n par d → Ordered n par children → Ranked n par children size f → Ranked n par children size g → (v : ℕ) → v < n → f v ≡ g v

-- where near v lists at least the children of v, they come in the order of near v
abbrev pub NearOrdered : Type 0
NearOrdered = (n : ℕ) (par : ℕ → ℕ) (near : ℕ → List ℕ) → ((v : ℕ) → v < n → Lists n par v (near v)) → Ordered n par (children_of par near)

-- and what meets the rule cut off at n, meets the rule: no rank is cut off
abbrev pub RuleRanked : Type 0
RuleRanked = (n : ℕ) (par d size rank : ℕ → ℕ) (near : ℕ → List ℕ) → Depths n par d → ((v : ℕ) → v < n → Lists n par v (near v)) → Sized n par size → RankRule n par near size rank → Ranked n par (children_of par near) size rank

-- the laws of the listing
pub record Laws : Type 0 where
  pub unfolds : Unfolds
  pub subtree : ListsSubtree
  pub once : ListsOnce
  pub size : ListsSize
  pub all : ListsAll
  pub place : RankPlace
  pub each : RankEach
  pub exist : RanksExist
  pub unique : RankUnique
  pub near : NearOrdered
  pub rule : RuleRanked
