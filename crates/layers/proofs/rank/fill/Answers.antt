use Rattle.std.proofs.Common.{◌≡◌, ℕ, ◌+◌, ◌<◌, ◌≤◌, min, List, None, Some, Option, get_or, drop, refl, sym, ap, ◌∙◌, subst, ap₂, rules, tests, arith}
use Rattle.std.specs.Option.{MatchOption}
use Rattle.std.proofs.lemmas.Bool.{false≢true}
use Rattle.protocol.specs.declared.Output.{Output}
use Rattle.site.specs.Sites.{model}
use Rattle.site.proofs.Whole.{proper}
use Rattle.protocol.specs.Rank.{put, slots}
use Rattle.registers.specs.Blocks.{held}
use Rattle.layers.specs.Below.{child_told, told}
use Rattle.layers.proofs.Sites.{port_inside}
use Rattle.layers.proofs.Changes.{next_changed, next_rest}
use Rattle.layers.proofs.Ranks.{fill_more, slots_cap}
use Rattle.layers.proofs.rank.fill.Goals as goal

below_limit : (n r : ℕ) (o : Option Output) (y : ℕ) → r ≤ n → MatchOption o (y ≡ r) (λ q. y ≡ min (r + q.count) n) → y ≤ n
below_limit n r None y l h = omega arith
below_limit n r (Some q) y l h = omega arith

pub loop-j-init : goal.loop-j-init
loop-j-init g c =
    let t = told g.P.Silent c.args.below.now (model c.args.site.now) in
    let v = c.args.v in
    let n = c.nodes.result in
    let first = c.nodes-2.result + c.first_arc.result in
    let ps = c.ports-ports.result.now in
    let size = c.nodes.ensures in
    let few = (proper c.args.site.now).drawn.limit in
    let low : c.min-next.result ≡ min n (c.args.rank + 1) = omega arith in
    let start : first + 0 ≡ first = omega arith in
    (omega arith, ap₂ (λ (k r : ℕ). put (held c.args.own.now) k (slots n t v r ps)) start low ∙ ap (put (held c.args.own.now) first) (slots_cap n t v ps (c.args.rank + 1)), (λ e _. false≢true e, λ _. refl), refl)

pub loop-j-preserved : goal.loop-j-preserved
loop-j-preserved g c =
    let s = c.args.site.now in
    let m = model s in
    let t = told g.P.Silent c.args.below.now m in
    let v = c.args.v in
    let n = c.nodes.result in
    let first = c.nodes-2.result + c.first_arc.result in
    let ps = c.ports-ports.result.now in
    let j = c.loop-j.j in
    let l = c.loop-j-test.true in
    let old = held c.args.own.now in
    let xs = held c.loop-j.own in
    let zs = held c.put-filled.new.self in
    let o = c.child-told.result in
    let x = c.map_or.result in
    let y = c.map_or-next.result in
    let next = c.loop-j.next in
    let inv = c.loop-j.invariant in
    let w = c.put-filled.ensures.after in
    let size = c.nodes.ensures in
    let few = (proper s).drawn.limit in
    let inside : get_or ps j 0 < n = subst (λ (k : ℕ). get_or ps j 0 < k) (sym size) (port_inside m (proper s) v ps c.ports-ports.ensures j l) in
    let h : MatchOption o (x ≡ 0) (λ _. x ≡ next) = search (rules, tests) in
    let k : MatchOption o (y ≡ next) (λ q. y ≡ min (next + q.count) n) = search (rules, tests) in
    let place : first + j + 1 ≡ first + (j + 1) = omega arith in
    let e : o ≡ child_told n t v (get_or ps j 0) = c.child-told.ensures ∙ ap (λ (z : ℕ). child_told z t v (get_or ps j 0)) (sym size) in (
      below_limit n next o y inv.0 k,
      ap (λ (us : List ℕ). put us (first + (j + 1)) (slots n t v y (drop (j + 1) ps))) w ∙ fill_more n t v ps xs (put old first (slots n t v (c.args.rank + 1) ps)) first j next inv.0 inv.1 l o x y e inside h k,
      next_changed old xs zs (first + j) x c.loop-j.changed c.put-filled.result inv.2 inv.3 w c.put-filled.ensures.changed,
      subst (λ (z : ℕ). drop z zs ≡ drop z old) place (next_rest old xs zs (first + j) x c.loop-j.changed c.put-filled.result inv.2 inv.3 w),
    )
