-- Registers of a protocol and then others: what is told, what a turn makes of them, and whether they changed.
use Rattle.std.proofs.Common.{◌≡◌, ℕ, Bool, ◌||◌, List, ◌++◌, length, Ok, sym, ap, ◌∙◌, ap₂}
use Rattle.std.proofs.lemmas.List.{take_at, drop_at}
use Rattle.graph.specs.Model.{Model}
use Rattle.protocol.specs.Layers.{Layer, layered, under, over, then_turn}
use Rattle.protocol.specs.Beside.{beside}
use Rattle.protocol.specs.Protocols.{Protocol, Laws, Registers}
use Rattle.silent.specs.Answers.{Turned}
use Rattle.registers.specs.Lists.{Changed}
use Rattle.registers.specs.Fronts.{either_changed}

module _ (m : Model) (p : Protocol) (b o : List ℕ) (sized : Registers p.size b) where
  under_is : under p (b ++ o) ≡ b
  under_is = take_at b o p.size sized.0

  over_is : over p (b ++ o) ≡ o
  over_is = drop_at b o p.size sized.0

  -- the first part is turned, and then the other
  module _ (law : Laws m p) (v : ℕ) (r s : Bool) (c d : List ℕ) (turned : Turned m p v b (Ok r) c) (changed : Changed o s d) where
    then_changed : Changed (b ++ o) (r || s) (c ++ d)
    then_changed =
        let width : length c ≡ p.size = ap length turned.1 ∙ (law.keeps v b turned.0 sized).0 in
        either_changed p.size b o c d r s sized.0 width turned.2 changed

    then_turned : (own : ℕ → List ℕ → List ℕ → List ℕ) → d ≡ own v c o → c ++ d ≡ then_turn p own v (b ++ o)
    then_turned own e =
        ap₂ ◌++◌ turned.1 (e ∙ ap (λ (zs : List ℕ). own v zs o) turned.1)
        ∙ sym (ap₂ (λ (xs ys : List ℕ). p.turn v xs ++ own v (p.turn v xs) ys) under_is over_is)

    pub layer_turned : (a : Layer) → d ≡ a.rule (p.output c) v o → Turned m (layered m a p) v (b ++ o) (Ok (r || s)) (c ++ d)
    layer_turned a e = (turned.0, then_turned (λ u below own. a.rule (p.output below) u own) e, then_changed)

    pub beside_turned : (q : Protocol) → d ≡ q.turn v o → Turned m (beside p q) v (b ++ o) (Ok (r || s)) (c ++ d)
    beside_turned q e = (turned.0, then_turned (λ u left right. q.turn u right) e, then_changed)
