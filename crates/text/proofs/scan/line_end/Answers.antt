use Rattle.std.proofs.Common.{◌≡◌, ◌≢◌, rules}
use Rattle.std.proofs.lemmas.Iterator.{IsFirst-from_position, YieldsList-from_slice}
use Rattle.text.specs.Cuts.{first_place}
use Rattle.text.proofs.scan.line_end.Goals as goal

pub returns : goal.returns
returns c =
    let s = c.args.s.now in
    first_place 10 s c.position-end.result c.unwrap_or.result (IsFirst-from_position _ _ c.position-end.result (λ x. x ≡ 10) (λ x. x ≢ 10) c.position-end.ensures.ran (YieldsList-from_slice s cc) (λ x q k. search rules) (λ x q k. search rules)) c.unwrap_or.ensures
