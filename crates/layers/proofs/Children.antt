-- Whether a node of the site is a child.
use Rattle.std.proofs.Common.{◌≡◌, ℕ, suc, ◌<◌, eqb, arith}
use Rattle.std.proofs.lemmas.Bool.Decides.{nat_tests}
use Rattle.protocol.specs.declared.Output.{Output}
use Rattle.protocol.specs.Outputs.{stored}
use Rattle.layers.specs.Below.{is_child}

pub child_here : (n : ℕ) (t : ℕ → Output) (v u : ℕ) → u < n → is_child n t v u ≡ eqb (stored (t u).parent) (suc v)
child_here n t v u l = grind (arith, nat_tests)
