-- A node's slots, one after the other: where they stand, what is written there, and a rank by the parent's.
use Rattle.std.proofs.Common.{◌≡◌, ℕ, suc, ◌+◌, ◌<◌, ◌≤◌, min, Bool, true, false, cond, eqb, List, [], ◌∷◌, length, get_or, drop, set, Some, None, Option, Ok, Err, Result, sym, refl, ap, ◌∙◌, ap₂, inl, inr, arith}
use Rattle.std.specs.Option.{MatchOption}
use Rattle.std.specs.Result.{result_ok}
use Rattle.std.proofs.lemmas.Option.{cond_some, none-some}
use Rattle.refusal.specs.declared.Refusal.{Refusal}
use Rattle.silent.specs.Answers.{Told}
use Rattle.protocol.specs.Protocols.{Protocol}
use Rattle.layers.specs.Below.{child_told, is_child}
use Rattle.layers.proofs.Children.{child_here}
use Rattle.std.proofs.lemmas.List.{at_drop_more}
use Rattle.std.proofs.lemmas.Bool.{cond-true, cond-false, eq-eqb, ne_eqb}
use Rattle.std.proofs.lemmas.Bool.Decides.{eqb_tells}
use Rattle.lists.specs.Members.{Among}
use Rattle.graph.specs.Model.{Model, Proper, ports, arcs}
use Rattle.graph.proofs.Drawn.{ports_few}
use Rattle.site.specs.declared.site.Site.{Site}
use Rattle.site.specs.Sites.{model}
use Rattle.site.proofs.Whole.{proper}
use Rattle.protocol.specs.declared.Output.{Output}
use Rattle.protocol.specs.Outputs.{stored}
use Rattle.protocol.specs.Rank.{port_to, put, rank_from, slot, slots}
use Rattle.registers.specs.declared.Block.{Block}
use Rattle.registers.specs.Blocks.{front, register}
use Rattle.registers.specs.Fronts.{front_read}
use Rattle.layers.proofs.Sites.{slot_inside}

-- the port that leads to v
pub port_here : (v x : ℕ) (xs : List ℕ) → x ≡ v → port_to v (x ∷ xs) ≡ 0
port_here v x xs e = cond-true (eqb x v) 0 (suc (port_to v xs)) (eq-eqb x v e)

pub port_later : (v x : ℕ) (xs : List ℕ) → (x ≡ v → ⊥) → port_to v (x ∷ xs) ≡ port_to v xs + 1
port_later v x xs e = let k = cond-false (eqb x v) 0 (suc (port_to v xs)) (ne_eqb x v e) in omega arith

port_most : (v : ℕ) (ps : List ℕ) → port_to v ps ≤ length ps
port_most v [] = omega arith
port_most v (p ∷ ps) = let a = port_most v ps in elim (eqb_tells p v) [ inl e ↦ rw e.0 (omega arith) | inr e ↦ rw e.0 (omega arith) ]

pub port_few : (s : Site) (w v : ℕ) → port_to v (ports (model s) w) ≤ 8
port_few s w v =
    let c = ports_few (model s) (proper s).drawn w in
    let d = port_most v (ports (model s) w) in
    omega arith

none_if : (b : Bool) (x : Output) → None ≡ cond b (Some x) None → b ≡ false
none_if true x e = absurd (none-some x e)
none_if false x e = refl

module _ (n : ℕ) (t : ℕ → Output) (v : ℕ) where
  -- slots are numbered alike from a number and from what is left of it by the limit
  pub slots_cap : (ps : List ℕ) (r : ℕ) → slots n t v (min n r) ps ≡ slots n t v r ps
  slots_cap [] r = refl
  slots_cap (c ∷ cs) r =
      let k = (t c).count in
      let a : min n (min n r) ≡ min n r = omega arith in
      let b : min n (min n r + k) ≡ min n (r + k) = omega arith in
      let d : slots n t v (min n r + k) cs ≡ slots n t v (r + k) cs = sym (slots_cap cs (min n r + k)) ∙ ap (λ (z : ℕ). slots n t v z cs) b ∙ slots_cap cs (r + k) in
      ap₂ (cond (eqb (stored (t c).parent) (suc v))) (ap₂ ◌∷◌ a d) (ap (λ (zs : List ℕ). 0 ∷ zs) (slots_cap cs r))

  -- the slots from port j on are still to be written, r for the next child
  module _ (ps xs whole : List ℕ) (first j r : ℕ) (few : r ≤ n) (inv : put xs (first + j) (slots n t v r (drop j ps)) ≡ whole) (l : j < length ps) where
    abbrev here : ℕ
    here = get_or ps j 0

    abbrev rest : List ℕ
    rest = drop (j + 1) ps

    -- what is written where the node at port j is a child, and where it is none
    abbrev filled : Bool → List ℕ
    filled b = put xs (first + j) (cond b (min n r ∷ slots n t v (r + (t here).count) rest) (0 ∷ slots n t v r rest))

    fill_one : (b : Bool) → b ≡ eqb (stored (t here).parent) (suc v) → filled b ≡ whole
    fill_one b e = ap filled e ∙ sym (at_drop_more (λ zs. put xs (first + j) (slots n t v r zs)) ps j 0 l) ∙ inv

    next : (zs : List ℕ) (x : ℕ) → put (set xs (first + j) x) (first + (j + 1)) zs ≡ put xs (first + j) (x ∷ zs)
    next zs x = let e : first + (j + 1) ≡ suc (first + j) = omega arith in ap (λ (k : ℕ). put (set xs (first + j) x) k zs) e

    pub fill_more :
        (o : Option Output) (x y : ℕ) → o ≡ child_told n t v here → here < n → MatchOption o (x ≡ 0) (λ _. x ≡ r) → MatchOption o (y ≡ r) (λ k. y ≡ min (r + k.count) n)
        → put (set xs (first + j) x) (first + (j + 1)) (slots n t v y rest) ≡ whole
    fill_more None x y e inside h k =
        let none : is_child n t v here ≡ false = none_if (is_child n t v here) (t here) e in
        next (slots n t v y rest) x
        ∙ ap₂ (λ (a b : ℕ). put xs (first + j) (a ∷ slots n t v b rest)) h k
        ∙ fill_one false (sym none ∙ child_here n t v here inside)
    fill_more (Some q) x y e inside h k =
        let some = cond_some (is_child n t v here) (t here) q (sym e) in
        let a : x ≡ min n r = omega arith in
        let b : y ≡ min n (r + (t here).count) = let z = ap (λ (u : Output). u.count) some.1 in omega arith in
        next (slots n t v y rest) x
        ∙ ap₂ (λ (a : ℕ) (zs : List ℕ). put xs (first + j) (a ∷ zs)) a (ap (λ (z : ℕ). slots n t v z rest) b ∙ slots_cap rest (r + (t here).count))
        ∙ fill_one true (sym some.0 ∙ child_here n t v here inside)

-- the parent that a node tells
pub parent_told :
    (m : Model) (p : Protocol) (v : ℕ) (b : List ℕ) (r : Result Output Refusal) (o : Option ℕ) → v < m.nodes → Told m p v b r
    → MatchOption (result_ok r) (o ≡ None) (λ k. o ≡ k.parent) → o ≡ (p.output b v).parent
parent_told m p v b (Ok k) o l h e = e ∙ ap (λ (q : Output). q.parent) h.1
parent_told m p v b (Err e) o l h k = absurd (omega (arith, h.0))

-- the rank of a node, by its told parent
pub rank_told :
    (m : Model) → Proper m → (v x : ℕ) (b : Block 2304) (o : Option ℕ) → MatchOption o (x ≡ 0) (λ w. x ≡ min m.nodes (register b (slot m w v)))
    → ((w : ℕ) → o ≡ Some w → Among w (ports m v)) → x ≡ rank_from m o v (front (m.nodes + arcs m) b)
rank_told m ok v x b None h near = h
rank_told m ok v x b (Some w) h near = h ∙ ap (min m.nodes) (sym (front_read (m.nodes + arcs m) b (slot m w v) (slot_inside m ok v w (near w refl))))
