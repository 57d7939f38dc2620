use Rattle.std.proofs.Common.{◌≡◌, ℕ, ◌≤◌, Some, inl, inr, arith, below_more}
use Rattle.std.proofs.lemmas.Grind.{common_steps}
use Rattle.std.proofs.lemmas.Bool.{cases_lt}
use Rattle.site.specs.Table.{entry}
use Rattle.site.proofs.levels.greatest.Goals as goal

pub loop-node-preserved : goal.loop-node-preserved
loop-node-preserved c =
    let ns = c.args.nodes.now in
    let i = c.loop-node.node-index in
    let d = c.in_ok-node.field-0 in
    let inv = c.loop-node.invariant in
    let here : (entry ns i).distance ≡ Some d = grind (arith, common_steps) in (
      below_more (λ v. (d : ℕ) × ((entry ns v).distance ≡ Some d) × (d ≤ c.max-top.result)) i (λ v l. let h = inv.0 v l in (h.0, h.1, omega (arith, h.2))) (d, here, omega arith),
      elim (cases_lt d c.loop-node.top) [
        | inl l ↦ elim inv.1 [ inl z ↦ absurd (omega (arith, z.1)) | inr x ↦ inr (x.0, omega (arith, x.1), grind (arith, x.2)) ]
        | inr g ↦ inr (i, omega arith, grind (arith, here))
      ],
    )
