use Rattle.std.proofs.Common.{ℕ, Bool, eqb, ◌∙◌, sym, rules, tests}
use Rattle.std.proofs.lemmas.Iterator.{YieldsList-from_slice}
use Rattle.std.proofs.lemmas.Iterator.Adapters.{option_map_id}
use Rattle.std.proofs.lemmas.Iterator.Consumers.{YieldsList-from_copied}
use Rattle.std.proofs.lemmas.Iterator.Search.{find_from_yields_List}
use Rattle.registers.specs.Blocks.{register}
use Rattle.bases.proofs.Scans.{find_first}
use Rattle.bases.proofs.ports.first_with.Goals as goal

pub returns : goal.returns
returns c =
    let p : ℕ → Bool = λ u. eqb (register c.args.block.now u) c.args.value in
    let ns = c.args.nodes.now in
    sym (option_map_id c.find.result)
    ∙ find_from_yields_List p _ _ c.find.result c.find.ensures.ran (YieldsList-from_copied (YieldsList-from_slice ns (cc))) (λ x b q k. search (rules, tests))
    ∙ find_first p ns
