-- Two protocols of one site side by side.
use Rattle.std.specs.Prelude.{ℕ, ◌+◌, max, Option}
use Rattle.protocol.specs.declared.Output.{Output}
use Rattle.protocol.specs.Outputs.{with_mate}
use Rattle.protocol.specs.Protocols.{Protocol}
use Rattle.protocol.specs.Layers.{under, over, then_turn}

-- the left's registers and turn come first; mates are the right's, all else is the left's;
-- outputs are legitimate if they are so on both sides, each with some others for those that are not taken from it
abbrev pub beside : Protocol → Protocol → Protocol
beside p q = record {
  size = p.size + q.size;
  turn = then_turn p (λ v left right. q.turn v right);
  output = λ xs v. with_mate (p.output (under p xs) v) (q.output (over p xs) v).mate;
  Legitimate = λ t. ((mates : ℕ → Option ℕ) × p.Legitimate (λ v. with_mate (t v) (mates v))) × ((others : ℕ → Output) × q.Legitimate (λ v. with_mate (others v) (t v).mate));
  Rest = λ xs. p.Rest (under p xs) × q.Rest (over p xs);
  bound = max p.bound q.bound;
  height = p.height;
}
