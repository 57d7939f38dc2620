-- The law of each value gives the dues that the askings start from.
use Rattle.daemon.proofs.AskingsLaws.{names_all, completes_rounds}
use Rattle.daemon.proofs.patience_stands.Goals as goal

pub returns : goal.returns
returns g c = record {
  names = λ d. names_all (g.D.Daemon.meaning d) (g.met.D.Daemon.timely d);
  completes = λ d. completes_rounds (g.D.Daemon.meaning d) (g.met.D.Daemon.timely d);
}
