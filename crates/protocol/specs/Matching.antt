-- The maximal matching: nodes name neighbours, and two that name each other are mates.
-- Each node has one register: 0 for none, or the number of the node that it names plus 1.
use Rattle.std.specs.Prelude.{◌≡◌, ℕ, zero, suc, ◌+◌, ◌*◌, ◌/◌, ◌<◌, cond, ◌⊎◌, List, Some, None, Option, ◌==◌, ◌≢◌, nat_eq, slice_index, slice_set}
use Rattle.lists.specs.Members.{Among}
use Rattle.graph.specs.Model.{Model, ports, Proper}
use Rattle.protocol.specs.declared.Output.{Output}
use Rattle.protocol.specs.Outputs.{plain, with_mate, stored}
use Rattle.protocol.specs.First.{mem, first, IsFirst, held}
use Rattle.protocol.specs.Protocols.{Protocol, Laws}

-- the rules, in their order; the register of u is f u throughout
pub data Rule : Type 0 where
  M0 : Rule
  M1 : Rule
  M2 : Rule
  M3 : Rule
  Stays : Rule

abbrev pub place : Rule → ℕ
place M0 = 0
place M1 = 1
place M2 = 2
place M3 = 3
place Stays = 4

-- what each rule asks of v
-- M0: v names a node that is no neighbour
-- M1: v names none, and a neighbour names v
-- M2: v names none, and a neighbour names none
-- M3: v names a node that names another than v
abbrev pub Asks : Model → (ℕ → ℕ) → ℕ → Rule → Type 0
Asks m f v M0 = (j : ℕ) × (f v ≡ suc j) × (Among j (ports m v) → ⊥)
Asks m f v M1 = (f v ≡ 0) × (u : ℕ) × Among u (ports m v) × (f u ≡ suc v)
Asks m f v M2 = (f v ≡ 0) × (u : ℕ) × Among u (ports m v) × (f u ≡ 0)
Asks m f v M3 = (j : ℕ) × (f v ≡ suc j) × (f j ≢ 0) × (f j ≢ suc v)
Asks m f v Stays = Unit {0}

-- the first rule that gets what it asks
abbrev pub Fits : Model → (ℕ → ℕ) → ℕ → Rule → Type 0
Fits m f v r = Asks m f v r × ((q : Rule) → place q < place r → Asks m f v q → ⊥)

-- what each rule makes of the register of v
-- M0 and M3: v names none
-- M1: v names the first port's neighbour that names v
-- M2: v names the first port's neighbour that names none
abbrev pub Gives : Model → (ℕ → ℕ) → ℕ → Rule → ℕ → Type 0
Gives m f v M0 x = x ≡ 0
Gives m f v M1 x = (u : ℕ) × IsFirst (λ w. nat_eq (f w) (suc v)) (ports m v) u × (x ≡ suc u)
Gives m f v M2 x = (u : ℕ) × IsFirst (λ w. nat_eq (f w) 0) (ports m v) u × (x ≡ suc u)
Gives m f v M3 x = x ≡ 0
Gives m f v Stays x = x ≡ f v

-- the first of two if there is one, else the second
abbrev pub or_else : Option ℕ → Option ℕ → Option ℕ
or_else (Some u) o = Some u
or_else None o = o

-- the new register of v as it is computed, where the register is x
abbrev pub renewed : Model → (ℕ → ℕ) → ℕ → ℕ → ℕ
renewed m f v zero = stored (or_else (first (λ u. nat_eq (f u) (suc v)) (ports m v)) (first (λ u. nat_eq (f u) 0) (ports m v)))
renewed m f v (suc j) = cond (mem j (ports m v)) (cond (f j == 0) (suc j) (cond (f j == suc v) (suc j) 0)) 0

abbrev pub new_register : Model → (ℕ → ℕ) → ℕ → ℕ
new_register m f v = renewed m f v (f v)

-- the register of each node
abbrev pub register : List ℕ → ℕ → ℕ
register xs v = slice_index xs v

abbrev pub turn : Model → ℕ → List ℕ → List ℕ
turn m v xs = slice_set xs v (new_register m (register xs) v)

-- no register would change
abbrev pub Rest : Model → List ℕ → Type 0
Rest m xs = (v : ℕ) → v < m.nodes → new_register m (register xs) v ≡ register xs v

-- the node if it names v, else none
abbrev pub naming : (ℕ → ℕ) → ℕ → Option ℕ → Option ℕ
naming f v None = None
naming f v (Some u) = cond (f u == suc v) (Some u) None

-- the neighbour that v names and that names v, or none
abbrev pub mate : Model → (ℕ → ℕ) → ℕ → Option ℕ
mate m f v = naming f v (held (ports m v) (f v))

-- told mates form a matching, and no link has two ends without a mate
pub record Matched (m : Model) (t : ℕ → Output) : Type 0 where
  pub near : (v u : ℕ) → v < m.nodes → (t v).mate ≡ Some u → Among u (ports m v)
  pub both : (v u : ℕ) → v < m.nodes → (t v).mate ≡ Some u → (t u).mate ≡ Some v
  pub full : (v u : ℕ) → v < m.nodes → Among u (ports m v) → (t v).mate ≡ None → (t u).mate ≢ None

abbrev pub matching : Model → Protocol
matching m = record {
  size = m.nodes;
  turn = turn m;
  output = λ xs v. with_mate plain (mate m (register xs) v);
  Legitimate = Matched m;
  Rest = Rest m;
  bound = 3 * (m.nodes / 2) + 1;
  height = 0;
}

-- two links share an end
abbrev pub Share : ℕ × ℕ → ℕ × ℕ → Type 0
Share k l = (k.0 ≡ l.0) ⊎ (k.0 ≡ l.1) ⊎ (k.1 ≡ l.0) ⊎ (k.1 ≡ l.1)

-- a set of links is a matching: no two of them share an end
pub record IsMatching (m : Model) (S : ℕ × ℕ → Type 0) : Type 0 where
  pub links : (l : ℕ × ℕ) → S l → Among l m.links
  pub apart : (k l : ℕ × ℕ) → S k → S l → Share k l → k ≡ l

-- the links whose ends are mates
abbrev pub Mated : Model → (ℕ → Output) → ℕ × ℕ → Type 0
Mated m t l = Among l m.links × ((t l.0).mate ≡ Some l.1)

-- told mates are a maximal matching of the site
pub record MaximalMatching (m : Model) (t : ℕ → Output) : Type 0 where
  -- mates are joined by a link
  pub joined : (v u : ℕ) → v < m.nodes → (t v).mate ≡ Some u → Mated m t (v, u) ⊎ Mated m t (u, v)
  -- a node is the mate of its mate
  pub both : (v u : ℕ) → v < m.nodes → (t v).mate ≡ Some u → (t u).mate ≡ Some v
  -- no node is the mate of two
  pub one : (v w u : ℕ) → v < m.nodes → w < m.nodes → (t v).mate ≡ Some u → (t w).mate ≡ Some u → v ≡ w
  -- every link has an end that has a mate
  pub covered : (a b : ℕ) → Among (a, b) m.links → ((u : ℕ) × ((t a).mate ≡ Some u)) ⊎ ((u : ℕ) × ((t b).mate ≡ Some u))
  -- the links between mates are a matching
  pub matched : IsMatching m (Mated m t)
  -- a matching that has all of them has no other link
  pub maximal : (ls : List (ℕ × ℕ)) → IsMatching m (λ l. Among l ls) → ((l : ℕ × ℕ) → Mated m t l → Among l ls) → (l : ℕ × ℕ) → Among l ls → Mated m t l

-- exactly one rule fits, and it gives the computed register
abbrev pub RuleFits : Type 0
RuleFits = (m : Model) (f : ℕ → ℕ) (v : ℕ) → (r : Rule) × Fits m f v r × ((q : Rule) → Fits m f v q → q ≡ r) × Gives m f v r (new_register m f v)

-- a mate is told exactly where two neighbours name each other
abbrev pub MateTold : Type 0
MateTold = (m : Model) (f : ℕ → ℕ) (v u : ℕ) → (mate m f v ≡ Some u → Among u (ports m v) × (f v ≡ suc u) × (f u ≡ suc v)) × (Among u (ports m v) × (f v ≡ suc u) × (f u ≡ suc v) → mate m f v ≡ Some u)

-- the protocol is lawful at every site, and its legitimate outputs are exactly the maximal matchings
pub record MatchingLaws : Type 0 where
  pub rules : RuleFits
  pub mates : MateTold
  pub laws : (m : Model) → Proper m → Laws m (matching m)
  pub maximal : (m : Model) → Proper m → (t : ℕ → Output) → (matching m).Legitimate t → MaximalMatching m t
  pub legitimate : (m : Model) → Proper m → (t : ℕ → Output) → MaximalMatching m t → (matching m).Legitimate t
