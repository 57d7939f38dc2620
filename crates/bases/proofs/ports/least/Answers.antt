use Rattle.std.proofs.Common.{ℕ, ap, ◌∙◌, sym, Option, rules}
use Rattle.std.specs.Option.{unwrap_or}
use Rattle.std.proofs.lemmas.Iterator.{YieldsList-from_map, YieldsList-from_slice}
use Rattle.std.proofs.lemmas.Iterator.Adapters.{option_map_id}
use Rattle.std.proofs.lemmas.Iterator.Consumers.{min_from_yields_List}
use Rattle.registers.specs.Blocks.{register}
use Rattle.bases.proofs.Scans.{reduce_least}
use Rattle.bases.proofs.ports.least.Goals as goal

pub returns : goal.returns
returns c =
    let f : ℕ → ℕ = register c.args.block.now in
    let ns = c.args.nodes.now in
    let e = min_from_yields_List _ c.min.result c.min.ensures.ran (YieldsList-from_map _ f (YieldsList-from_slice ns (cc)) c.map.ensures.closure (λ x r q k. search rules)) in
    c.unwrap_or.ensures ∙ ap (λ (o : Option ℕ). unwrap_or o 0) (sym (option_map_id c.min.result) ∙ e) ∙ reduce_least f ns
