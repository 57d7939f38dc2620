use Rattle.std.proofs.Common.{sym, refl, ◌∙◌, inl, inr}
use Rattle.std.proofs.lemmas.Bool.{both_ways}
use Rattle.lists.proofs.Chains.{strays_decides, lacks_decides}
use Rattle.daemon.proofs.script.check.Goals as goal

pub returns-then-strays : goal.returns-then-strays
returns-then-strays c =
    let few = c.fits.ensures.0 c.if-not-fits.false in
    inr (λ f. f few, inl (refl, (strays_decides c.args.nodes c.args.names.now).0 (sym c.strays.ensures ∙ c.if-strays.true)))

pub returns-then-lacks : goal.returns-then-lacks
returns-then-lacks c =
    let few = c.fits.ensures.0 c.if-not-fits.false in
    let strays = strays_decides c.args.nodes c.args.names.now in
    let lacks = lacks_decides c.args.nodes c.args.names.now in
    inr (λ f. f few, inr (λ t. both_ways _ c.if-strays.false (c.strays.ensures ∙ strays.1 t), inl (refl, lacks.0 (sym c.lacks.ensures ∙ c.if-lacks.true))))

pub returns : goal.returns
returns c =
    let few = c.fits.ensures.0 c.if-not-fits.false in
    let strays = strays_decides c.args.nodes c.args.names.now in
    let lacks = lacks_decides c.args.nodes c.args.names.now in
    (λ f. f few, (λ t. both_ways _ c.if-strays.false (c.strays.ensures ∙ strays.1 t), (λ t. both_ways _ c.if-lacks.false (c.lacks.ensures ∙ lacks.1 t), tt)))
