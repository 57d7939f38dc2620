use Rattle.std.proofs.Common.{◌≡◌, sym, refl, ◌∙◌, rules, tests}
use Rattle.std.proofs.lemmas.Iterator.{YieldsList-from_slice, IsFirst-from_position, index_from_first}
use Rattle.protocol.specs.Rank.{port_to}
use Rattle.layers.proofs.Ranks.{port_here, port_later}
use Rattle.layers.proofs.rank.find_port.Goals as goal

pub returns : goal.returns
returns c =
    let v = c.args.v in
    let ps = c.args.ports.now in
    let r = c.position.result in
    c.unwrap_or.ensures
    ∙ sym (index_from_first (port_to v) (λ x. x ≡ v) (λ x. x ≡ v → ⊥) refl (port_here v) (port_later v) ps r (IsFirst-from_position _ _ r (λ x. x ≡ v) (λ x. x ≡ v → ⊥) c.position.ensures.ran (YieldsList-from_slice ps (cc)) (λ x q k. search (rules, tests)) (λ x q k. search (rules, tests))))
