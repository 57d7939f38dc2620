-- The sum over a node's children, port by port, and the rule of the counts.
use Rattle.std.proofs.Common.{◌≡◌, ℕ, suc, ◌+◌, ◌<◌, ◌≤◌, min, Bool, cond, eqb, fold, List, [], ◌∷◌, get_or, set, sym, ap, ◌∙◌, arith}
use Rattle.graph.specs.Model.{Model, Proper, ports}
use Rattle.graph.proofs.Drawn.{inside}
use Rattle.rounds.specs.Forest.{sum_over}
use Rattle.rounds.proofs.Sums.{sum_cong}
use Rattle.protocol.specs.declared.Output.{Output}
use Rattle.protocol.specs.Outputs.{stored}
use Rattle.protocol.specs.Layers.{children}
use Rattle.protocol.specs.Count.{counter}
use Rattle.protocol.proofs.LayerForest.{among_children, children_sum}
use Rattle.protocol.proofs.CountLaws.{count_rule}
use Rattle.registers.specs.declared.Block.{Block}
use Rattle.registers.specs.Blocks.{front, held, register}
use Rattle.registers.specs.Fronts.{front_changed, front_read, front_set}
use Rattle.registers.specs.Lists.{Changed}
use Rattle.layers.specs.Below.{Ruled, is_child}
use Rattle.layers.proofs.Children.{child_here}

fold_sum : (n : ℕ) (f : ℕ → ℕ) (us : List ℕ) (s : ℕ) → s ≤ n → fold (λ (a u : ℕ). min (a + f u) n) s us ≡ min n (s + sum_over f us)
fold_sum n f [] s l = omega arith
fold_sum n f (u ∷ us) s l = let e = fold_sum n f us (min (s + f u) n) (omega arith) in omega arith

-- what u adds to a sum of f over the children of v
abbrev pub share : ℕ → (ℕ → Output) → ℕ → (ℕ → ℕ) → ℕ → ℕ
share n t v f u = cond (is_child n t v u) (f u) 0

-- a sum that is cut off at the number of nodes port by port
pub counted : (m : Model) → Proper m → (t : ℕ → Output) (v : ℕ) (f : ℕ → ℕ) → fold (λ (a u : ℕ). min (a + share m.nodes t v f u) m.nodes) 1 (ports m v) ≡ min m.nodes (1 + sum_over f (children m t v))
counted m ok t v f =
    let some = ok.drawn.some in
    let ps = ports m v in
    let told : ℕ → ℕ = λ u. cond (eqb (stored (t u).parent) (suc v)) (f u) 0 in
    let e = sum_cong (share m.nodes t v f) told ps (λ u a. ap (λ (b : Bool). cond b (f u) 0) (child_here m.nodes t v u (inside m ok.drawn u v a).1)) in
    fold_sum m.nodes (share m.nodes t v f) ps 1 (omega arith) ∙ ap (λ (k : ℕ). min m.nodes (1 + k)) (e ∙ sym (children_sum t v f ps))

-- a write by the sum of all registers is the rule on those of nodes
pub count_ruled :
    (m : Model) → Proper m → (t : ℕ → Output) (v x : ℕ) (r : Bool) (a b : Block 2304) → x ≡ min m.nodes (1 + sum_over (register a) (children m t v))
    → held b ≡ set (held a) v x → Changed (held a) r (held b) → v < m.nodes → Ruled (counter m) t v a r b
count_ruled m ok t v x r a b e w h l =
    let n = m.nodes in
    let sums = sum_cong (register a) (λ c. get_or (front n a) c 0) (children m t v) (λ c q. sym (front_read n a c (inside m ok.drawn c v (among_children t v c (ports m v) q).0).1)) in
    (front_set n a b v x w ∙ ap (set (front n a) v) (e ∙ ap (λ (k : ℕ). min n (1 + k)) sums) ∙ sym (count_rule m t v (front n a)), front_changed n a b v x w r l h)
