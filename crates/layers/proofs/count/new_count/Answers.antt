use Rattle.std.proofs.Common.{ℕ, ◌+◌, min, fold, ap, ◌∙◌, rules, tests}
use Rattle.std.proofs.lemmas.Iterator.{YieldsList-from_slice}
use Rattle.std.proofs.lemmas.Iterator.Consumers.{fold_from_yields_List}
use Rattle.site.specs.Sites.{model}
use Rattle.site.proofs.Whole.{proper}
use Rattle.registers.specs.Blocks.{register}
use Rattle.layers.specs.Below.{told}
use Rattle.layers.proofs.Counts.{counted, share}
use Rattle.layers.proofs.count.new_count.Goals as goal

pub returns : goal.returns
returns g c =
    let m = model c.args.site.now in
    let ok = proper c.args.site.now in
    let t = told g.P.Silent c.args.below.now m in
    let f : ℕ → ℕ = share m.nodes t c.args.v (register c.args.own.now) in
    let e = c.nodes.ensures in
    let few = ok.drawn.limit in
    fold_from_yields_List _ (λ (a u : ℕ). min (a + f u) m.nodes) 1 c.fold.result c.fold.ensures.ran (YieldsList-from_slice c.ports.result.now (cc)) (λ a x b q k. search (rules, tests))
    ∙ ap (fold (λ (a u : ℕ). min (a + f u) m.nodes) 1) c.ports.ensures
    ∙ counted m ok t c.args.v (register c.args.own.now)
