use Rattle.std.proofs.Common.{◌≡◌, ◌^◌, sum_by, ◌∙◌, rules, arith}
use Rattle.std.proofs.lemmas.Iterator.{YieldsList-from_slice}
use Rattle.std.proofs.lemmas.Iterator.Adapters.{fits_from_length, at_most_from_yields_List}
use Rattle.std.proofs.iter.runs.Sources.{sums}
use lib.Count.{ones}
use Rattle.net.proofs.BitLaws.{count_bits}
use Rattle.net.proofs.marks.set_bits.Goals as goal

-- at most 4 words, each of 64 bits
pub sum-requires-clause-fits : goal.sum-requires-clause-fits
sum-requires-clause-fits c = fits_from_length _ _ 4 (2 ^ 32) (at_most_from_yields_List (YieldsList-from_slice c.args.words.now cc) (omega arith)) c.map.ensures.closure (omega arith) (λ x r q k. search rules)

pub returns : goal.returns
returns c =
    let sum : c.sum.result ≡ sum_by ones c.args.words.now = search (rules, sums) in
    sum ∙ count_bits c.args.words.now (λ j. omega (arith, c.type_inv.words j))
