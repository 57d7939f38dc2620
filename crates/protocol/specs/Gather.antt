-- Gathering: a layer in which every node joins its own reading with its children's.
use Rattle.std.specs.Prelude.{◌≡◌, ℕ, zero, suc, ◌+◌, ◌<◌, List, [], ◌∷◌, slice_index, slice_set}
use Rattle.graph.specs.Model.{Model}
use Rattle.protocol.specs.declared.Output.{Output}
use Rattle.protocol.specs.Layers.{Layer, children}

-- where the register of v stands in block i of n registers
abbrev pub block : ℕ → ℕ → ℕ → ℕ
block n zero v = v
block n (suc i) v = n + block n i v

-- writes f i into v's register of each block i below k
abbrev pub write : ℕ → ℕ → ℕ → (ℕ → ℕ) → List ℕ → List ℕ
write n zero v f xs = xs
write n (suc k) v f xs = slice_set (write n k v f xs) (block n k v) (f k)

-- what is gathered: readings; how many registers there are in all, and how many hold a node's reading, one in each block;
-- how it is loaded from these and stored in them; a node's own reading where t is told below, how two are joined, and the cut-off
pub record Gathering : Type 1 where
  pub Reading : Type 0
  pub size : ℕ
  pub width : ℕ
  pub load : (ℕ → ℕ) → Reading
  pub store : Reading → ℕ → ℕ
  pub own : (ℕ → Output) → ℕ → Reading
  pub join : Reading → Reading → Reading
  pub cut : Reading → Reading

-- x joined with what f gives for each node of a list, in its order
abbrev pub join_all : {X : Type 0} → (X → X → X) → (ℕ → X) → X → List ℕ → X
join_all join f x [] = x
join_all join f x (c ∷ cs) = join_all join f (join x (f c)) cs

module _ (m : Model) (g : Gathering) where
  -- the reading that v's registers hold
  abbrev pub reading : List ℕ → ℕ → g.Reading
  reading xs v = g.load (λ i. slice_index xs (block m.nodes i v))

  -- v's own reading joined with its children's, in port order, and cut off
  abbrev pub gathered : (ℕ → Output) → (ℕ → g.Reading) → ℕ → g.Reading
  gathered t f v = g.cut (join_all g.join f (g.own t v) (children m t v))

  abbrev pub gather_rule : (ℕ → Output) → ℕ → List ℕ → List ℕ
  gather_rule t v xs = write m.nodes g.width v (g.store (gathered t (reading xs) v)) xs

-- a layer that gathers, tells what it gathered and has outputs that meet a rule
abbrev pub gatherer : Model → (g : Gathering) → (Output → g.Reading → Output) → ((ℕ → Output) → Type 0) → Layer
gatherer m g tell Meets = record {
  size = g.size;
  rule = gather_rule m g;
  Value = g.Reading;
  value = reading m g;
  tell = tell;
  Meets = Meets;
}

-- no turn changes what is gathered
abbrev pub GatherFixed : Model → Gathering → (ℕ → Output) → List ℕ → Type 0
GatherFixed m g t xs = (v : ℕ) → v < m.nodes → gather_rule m g t v xs ≡ xs

-- every reading is gathered from the others
abbrev pub Gathered : Model → (g : Gathering) → (ℕ → Output) → (ℕ → g.Reading) → Type 0
Gathered m g t f = (v : ℕ) → v < m.nodes → f v ≡ gathered m g t f v

-- what a gathering owes: there is room for the blocks, and cut readings come back from registers of 16 bits
pub record GatheringLaws (m : Model) (g : Gathering) : Type 0 where
  pub room : (v i : ℕ) → v < m.nodes → i < g.width → block m.nodes i v < g.size
  pub small : (x : g.Reading) (i : ℕ) → i < g.width → g.store (g.cut x) i < 65536
  pub loads : (x : g.Reading) (f : ℕ → ℕ) → ((i : ℕ) → i < g.width → f i ≡ g.store (g.cut x) i) → g.load f ≡ g.cut x
