use Rattle.std.proofs.Common.{◌≡◌, ℕ, ◌+◌, ◌*◌, ◌/◌, ◌<◌, ◌≤◌, max, sym, ap, ap₂, ◌∙◌, arith}
use Rattle.graph.specs.Model.{height}
use Rattle.graph.proofs.Heights.{height_below}
use Rattle.protocol.proofs.StackLaws.{stack_stands_lem}
use Rattle.site.specs.Sites.{model}
use Rattle.site.specs.declared.site.Site.{Site}
use Rattle.site.proofs.Whole.{proper}
use Rattle.report.proofs.bound.stack_bound.Goals as goal

nodes-low : (s : Site) → (model s).nodes ≤ 256
nodes-low s = (proper s).drawn.limit

height-low : (s : Site) → height (model s) < 256
height-low s = let a = height_below (model s) (proper s) in let b = nodes-low s in omega arith

pub overflow_cast-tour : goal.overflow_cast-tour
overflow_cast-tour c = let h = height-low c.args.site.now in let e = c.height.ensures.value in omega arith

pub overflow_add-tour : goal.overflow_add-tour
overflow_add-tour c = let h = height-low c.args.site.now in let e = c.height.ensures.value in omega arith

pub overflow_mul-tour : goal.overflow_mul-tour
overflow_mul-tour c = let h = height-low c.args.site.now in let e = c.height.ensures.value in omega arith

pub overflow_cast-pairs : goal.overflow_cast-pairs
overflow_cast-pairs c = let h = nodes-low c.args.site.now in let e = c.nodes.ensures in omega arith

pub overflow_mul-pairs : goal.overflow_mul-pairs
overflow_mul-pairs c = let h = nodes-low c.args.site.now in let e = c.nodes.ensures in omega arith

pub overflow_add-pairs : goal.overflow_add-pairs
overflow_add-pairs c = let h = nodes-low c.args.site.now in let e = c.nodes.ensures in omega arith

pub returns : goal.returns
returns c =
    let s = c.args.site.now in
    let h = height-low s in
    let n = nodes-low s in
    let e = c.height.ensures.value in
    let f = c.nodes.ensures in
    let b = stack_stands_lem.bound (model s) in
    let d = ap (λ (k : ℕ). k / 2) f in
    let x : c.max.result ≡ max (3 * (height (model s) + 1)) (3 * ((model s).nodes / 2) + 1) = c.max.ensures ∙ ap₂ max (omega arith) (omega arith) in
    record { bound = x ∙ sym b; low = omega arith }
