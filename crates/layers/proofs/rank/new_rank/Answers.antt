use Rattle.std.proofs.Common.{◌≡◌, ℕ, min, None, Option, subst, rules, tests}
use Rattle.std.specs.Option.{MatchOption}
use Rattle.site.specs.Sites.{model}
use Rattle.site.proofs.Whole.{proper}
use Rattle.protocol.specs.declared.Output.{Output}
use Rattle.protocol.specs.Rank.{slot}
use Rattle.registers.specs.Blocks.{register}
use Rattle.layers.specs.Below.{means, told}
use Rattle.layers.proofs.Ranks.{parent_told, rank_told}
use Rattle.layers.proofs.rank.new_rank.Goals as goal

pub returns : goal.returns
returns g c = λ l.
    let s = c.args.below.now in
    let m = model c.args.site.now in
    let ok = proper c.args.site.now in
    let v = c.args.v in
    let x = c.map_or.result in
    let o = (told g.P.Silent s m v).parent in
    let p = c.and_then.result in
    let k : MatchOption c.ok.result (p ≡ None) (λ q. p ≡ q.parent) = search (rules, tests) in
    let same : p ≡ o = parent_told m (means g.P.Silent s m) v (g.P.Silent.registers s m) c.output.result p l c.output.ensures (subst (λ (r : Option Output). MatchOption r (p ≡ None) (λ q. p ≡ q.parent)) c.ok.ensures.value k) in
    let h : MatchOption p (x ≡ 0) (λ w. x ≡ min m.nodes (register c.args.own.now (slot m w v))) = search (rules, tests) in
    rank_told m ok v x c.args.own.now o (subst (λ (q : Option ℕ). MatchOption q (x ≡ 0) (λ w. x ≡ min m.nodes (register c.args.own.now (slot m w v)))) same h)
    (λ w e. (g.met.P.Silent.laws (g.P.Silent.plan s) m ok).near (g.P.Silent.registers s m) v w l (g.met.P.Silent.sized s m ok) e)
