-- Layers: what stands over any protocol and is one itself.
use Rattle.std.specs.Prelude.{◌≡◌, ℕ, suc, ◌+◌, ◌<◌, cond, List, [], ◌∷◌, ◌++◌, take, drop, Some, ◌==◌}
use Rattle.lists.specs.Members.{Among}
use Rattle.graph.specs.Model.{Model, ports}
use Rattle.rounds.specs.Runs.{From}
use Rattle.protocol.specs.declared.Output.{Output}
use Rattle.protocol.specs.Outputs.{stored, Tall}
use Rattle.protocol.specs.Protocols.{Protocol, Registers}

-- the children of v among the nodes of a list, in its order: those whose told parent is v
abbrev pub children_among : (ℕ → Output) → ℕ → List ℕ → List ℕ
children_among t v [] = []
children_among t v (c ∷ cs) = cond (stored (t c).parent == suc v) (c ∷ children_among t v cs) (children_among t v cs)

-- the children of v, in port order
abbrev pub children : Model → (ℕ → Output) → ℕ → List ℕ
children m t v = children_among t v (ports m v)

-- told parents are neighbours
abbrev pub Near : Model → (ℕ → Output) → Type 0
Near m t = (v u : ℕ) → v < m.nodes → (t v).parent ≡ Some u → Among u (ports m v)

-- the registers of the first part, and the others
abbrev pub under : Protocol → List ℕ → List ℕ
under p xs = take p.size xs

abbrev pub over : Protocol → List ℕ → List ℕ
over p xs = drop p.size xs

-- a turn of v in two parts: the first part's, and then the other's, which reads what the first part has become
abbrev pub then_turn : Protocol → (ℕ → List ℕ → List ℕ → List ℕ) → ℕ → List ℕ → List ℕ
then_turn p own v xs = p.turn v (under p xs) ++ own v (p.turn v (under p xs)) (over p xs)

-- what a layer adds: its own registers; what a turn of v makes of them where t is told below; what it makes of a node's output,
-- by a value that it reads from its own registers; and the rule that legitimate outputs meet
pub record Layer : Type 1 where
  pub size : ℕ
  pub rule : (ℕ → Output) → ℕ → List ℕ → List ℕ
  pub Value : Type 0
  pub value : List ℕ → ℕ → Value
  pub tell : Output → Value → Output
  pub Meets : (ℕ → Output) → Type 0

-- no turn of a node changes the layer's own registers where t is told below
abbrev pub Fixed : Model → Layer → (ℕ → Output) → List ℕ → Type 0
Fixed m a t xs = (v : ℕ) → v < m.nodes → a.rule t v xs ≡ xs

-- what the nodes tell where t is told below and xs are the layer's own registers
abbrev pub told_by : Layer → (ℕ → Output) → List ℕ → ℕ → Output
told_by a t xs v = a.tell (t v) (a.value xs v)

-- the layer over a protocol: registers below first; a turn below, and then the layer's, which reads what is told after it;
-- outputs are legitimate if they meet the layer's rule and, with some others for those that it makes, are so below
abbrev pub layered : Model → Layer → Protocol → Protocol
layered m a p = record {
  size = p.size + a.size;
  turn = then_turn p (λ v below own. a.rule (p.output below) v own);
  output = λ xs. told_by a (p.output (under p xs)) (over p xs);
  Legitimate = λ t. a.Meets t × ((others : ℕ → a.Value) × p.Legitimate (λ v. a.tell (t v) (others v)));
  Rest = λ xs. p.Rest (under p xs) × Fixed m a (p.output (under p xs)) (over p xs);
  bound = p.bound + (p.height + 1);
  height = p.height;
}

-- what a layer owes, so that over every protocol it is one
pub record LayerLaws (m : Model) (a : Layer) : Type 0 where
  -- a turn keeps the number of its own registers and their width
  pub keeps : (t : ℕ → Output) (v : ℕ) (xs : List ℕ) → v < m.nodes → Registers a.size xs → Registers a.size (a.rule t v xs)
  -- it passes parents on
  pub passes : (o : Output) (x : a.Value) → (a.tell o x).parent ≡ o.parent
  -- what it replaced can be put back
  pub back : (o : Output) → (y : a.Value) × ((x : a.Value) → a.tell (a.tell o x) y ≡ o)
  -- where what is told below stays and has a height, a round for each depth makes its own registers stay too
  pub settles : (t : ℕ → Output) (h : ℕ) → Near m t → Tall m.nodes t h → From (a.rule t) m.nodes (Registers a.size) (suc h) (Fixed m a t)
  -- and then its rule is met
  pub meets : (t : ℕ → Output) (h : ℕ) (xs : List ℕ) → Near m t → Tall m.nodes t h → Registers a.size xs → Fixed m a t xs → a.Meets (told_by a t xs)

-- with all at rest below, the layer settles within one round more than the height
abbrev pub SettlesOver : Model → Layer → Protocol → Type 0
SettlesOver m a p = From (layered m a p).turn m.nodes (λ xs. Registers (p.size + a.size) xs × p.Rest (under p xs)) (p.height + 1) (layered m a p).Rest
