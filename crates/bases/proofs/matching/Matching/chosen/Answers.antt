use Rattle.std.proofs.Common.{◌≡◌, ℕ, suc, eqb, List, Option, ap, ◌∙◌, rules, tests}
use Rattle.protocol.specs.First.{first}
use Rattle.protocol.specs.Matching.{or_else}
use Rattle.protocol.specs.Outputs.{stored}
use Rattle.registers.specs.Blocks.{register}
use Rattle.bases.proofs.Scans.{else_is}
use Rattle.bases.proofs.matching.Matching.chosen.Goals as goal

pub returns : goal.returns
returns c =
    let f : ℕ → ℕ = register c.args.self.now.names in
    let idle = λ (ps : List ℕ). first (λ u. eqb (f u) 0) ps in
    let suitor = λ (ps : List ℕ). first (λ u. eqb (f u) (suc c.args.v)) ps in
    let ps = c.ports-ports.result.now in
    let s : c.first_with.result ≡ suitor ps = search (rules, tests) in
    ap stored (else_is c.first_with.result (idle ps) c.or_else.result _ c.or_else.ensures (λ p. search (rules, tests)) ∙ ap (λ (o : Option ℕ). or_else o (idle ps)) s)
    ∙ ap (λ (zs : List ℕ). stored (or_else (suitor zs) (idle zs))) c.ports-ports.ensures
