-- Forests of parents: chains, depths, subtrees and their sizes.
-- The nodes are the numbers below n. Throughout, a parent is stored as 0 for none, or as the parent's number plus 1.
use Rattle.std.specs.Prelude.{◌≡◌, ℕ, zero, suc, ◌+◌, ◌<◌, ◌≤◌, min, cond, List, [], ◌∷◌, ◌==◌}
use Rattle.lists.specs.Members.{Among, Once}

-- the parents of nodes are nodes
abbrev pub Inside : ℕ → (ℕ → ℕ) → Type 0
Inside n par = (v w : ℕ) → v < n → par v ≡ suc w → w < n

-- the parent of a stored node, stored
abbrev pub above : (ℕ → ℕ) → ℕ → ℕ
above par zero = 0
above par (suc w) = par w

-- the node k links up from u, stored
abbrev pub up : (ℕ → ℕ) → ℕ → ℕ → ℕ
up par zero u = suc u
up par (suc k) u = above par (up par k u)

-- u is in the subtree of v: the chain of parents from u passes v
abbrev pub In : (ℕ → ℕ) → ℕ → ℕ → Type 0
In par v u = (k : ℕ) × (up par k u ≡ suc v)

-- the chain of parents from v has exactly k links, and ends
abbrev pub Chain : (ℕ → ℕ) → ℕ → ℕ → Type 0
Chain par zero v = par v ≡ 0
Chain par (suc k) v = (w : ℕ) × (par v ≡ suc w) × Chain par k w

-- every node's chain ends after at most h links, and some node's has exactly h
pub record Tall (n : ℕ) (par : ℕ → ℕ) (h : ℕ) : Type 0 where
  pub low : (v : ℕ) → v < n → (k : ℕ) × (k ≤ h) × Chain par k v
  pub high : (v : ℕ) × (v < n) × Chain par h v

-- d v is the number of links from v to where its chain ends
pub record Depths (n : ℕ) (par d : ℕ → ℕ) : Type 0 where
  pub top : (v : ℕ) → v < n → par v ≡ 0 → d v ≡ 0
  pub link : (v w : ℕ) → v < n → par v ≡ suc w → (w < n) × (d v ≡ suc (d w))

-- h is the greatest depth
abbrev pub Greatest : ℕ → (ℕ → ℕ) → ℕ → Type 0
Greatest n d h = ((v : ℕ) → v < n → d v ≤ h) × ((v : ℕ) × (v < n) × (d v ≡ h))

-- m of the numbers below n pass
pub data Counted (P : ℕ → Type 0) : ℕ → ℕ → Type 0 where
  none : Counted P 0 0
  pass : {n m : ℕ} → P n → Counted P n m → Counted P (suc n) (suc m)
  fail : {n m : ℕ} → (P n → ⊥) → Counted P n m → Counted P (suc n) m

-- size v is the number of nodes in the subtree of v
abbrev pub Sized : ℕ → (ℕ → ℕ) → (ℕ → ℕ) → Type 0
Sized n par size = (v : ℕ) → v < n → Counted (In par v) n (size v)

-- the sum of f over a list
abbrev pub sum_over : (ℕ → ℕ) → List ℕ → ℕ
sum_over f [] = 0
sum_over f (x ∷ xs) = f x + sum_over f xs

-- the sum of f over those of a list whose parent is v
abbrev pub child_sum : (ℕ → ℕ) → (ℕ → ℕ) → ℕ → List ℕ → ℕ
child_sum par f v xs = sum_over (λ c. cond (par c == suc v) (f c) 0) xs

-- a list of different nodes that has every child of v, and perhaps others
pub record Lists (n : ℕ) (par : ℕ → ℕ) (v : ℕ) (xs : List ℕ) : Type 0 where
  pub once : Once xs
  pub nodes : (c : ℕ) → Among c xs → c < n
  pub all : (c : ℕ) → c < n → par c ≡ suc v → Among c xs

-- a chain has one length
abbrev pub ChainUnique : Type 0
ChainUnique = (par : ℕ → ℕ) (k j v : ℕ) → Chain par k v → Chain par j v → k ≡ j

-- a chain has at most n - 1 links
abbrev pub ChainShort : Type 0
ChainShort = (n : ℕ) (par : ℕ → ℕ) (k v : ℕ) → Inside n par → v < n → Chain par k v → k < n

-- a forest has one height
abbrev pub TallUnique : Type 0
TallUnique = (n : ℕ) (par : ℕ → ℕ) (h g : ℕ) → Tall n par h → Tall n par g → h ≡ g

-- a depth is the length of a chain
abbrev pub DepthsChain : Type 0
DepthsChain = (n : ℕ) (par d : ℕ → ℕ) → Depths n par d → (v : ℕ) → v < n → Chain par (d v) v

-- where there are depths, the greatest is the height
abbrev pub DepthsTall : Type 0
DepthsTall = (n : ℕ) (par d : ℕ → ℕ) (h : ℕ) → Depths n par d → Greatest n d h → Tall n par h

-- where there are depths, some depth is the greatest
abbrev pub DepthsGreatest : Type 0
DepthsGreatest = (n : ℕ) (d : ℕ → ℕ) → 0 < n → (h : ℕ) × Greatest n d h

-- where there is a height, there are depths, and it is the greatest
abbrev pub TallDepths : Type 0
TallDepths = (n : ℕ) (par : ℕ → ℕ) (h : ℕ) → Inside n par → Tall n par h → (d : ℕ → ℕ) × Depths n par d × Greatest n d h

-- subtrees have sizes
abbrev pub SizesExist : Type 0
SizesExist = (n : ℕ) (par d : ℕ → ℕ) → Depths n par d → (size : ℕ → ℕ) × Sized n par size

-- a subtree has one size
abbrev pub SizeUnique : Type 0
SizeUnique = (n : ℕ) (par : ℕ → ℕ) (f g : ℕ → ℕ) → Sized n par f → Sized n par g → (v : ℕ) → v < n → f v ≡ g v

-- sizes never pass n
abbrev pub SizeLow : Type 0
SizeLow = (n : ℕ) (par size : ℕ → ℕ) → Sized n par size → (v : ℕ) → v < n → size v ≤ n

-- a size is 1 more than the sum of the children's
abbrev pub SizeSum : Type 0
SizeSum = (n : ℕ) (par d size : ℕ → ℕ) → Depths n par d → Sized n par size → (v : ℕ) (xs : List ℕ) → v < n → Lists n par v xs → size v ≡ 1 + child_sum par size v xs

-- and what meets that rule, cut off at n, is the size: near v lists at least the children of v
abbrev pub SizeRule : Type 0
SizeRule = (n : ℕ) (par d f : ℕ → ℕ) (near : ℕ → List ℕ) → Depths n par d → ((v : ℕ) → v < n → Lists n par v (near v)) → ((v : ℕ) → v < n → f v ≡ min n (1 + child_sum par f v (near v))) → Sized n par f

-- the laws of forests
pub record Laws : Type 0 where
  pub chain_unique : ChainUnique
  pub chain_short : ChainShort
  pub tall_unique : TallUnique
  pub depths_chain : DepthsChain
  pub depths_tall : DepthsTall
  pub depths_greatest : DepthsGreatest
  pub tall_depths : TallDepths
  pub sizes_exist : SizesExist
  pub size_unique : SizeUnique
  pub size_low : SizeLow
  pub size_sum : SizeSum
  pub size_rule : SizeRule
