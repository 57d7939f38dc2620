use Rattle.protocol.proofs.matching_stands.Goals as goal
use Rattle.protocol.proofs.MatchingLaws.{matching_stands_lem}

pub returns : goal.returns
returns c = matching_stands_lem
