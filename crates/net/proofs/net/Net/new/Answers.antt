use Rattle.std.proofs.Common.{refl, arith}
use Rattle.site.proofs.Whole.{proper}
use Rattle.promise.proofs.PromiseLaws.{promise}
use Rattle.promise.proofs.FirmLaws.{firm}
use Rattle.net.proofs.LivesLaws.{lives}
use Rattle.net.proofs.net.Net.new.Goals as goal

pub returns : goal.returns
returns g c =
    let s = c.args.site.now in
    let whole = proper s in
    let few = whole.drawn.limit in
    record {
      starts = (
        refl,
        refl,
        record {
          sized = g.met.P.Silent.sized _ _ whole;
          registers = refl;
          fresh = record { turns = c.new.ensures.turns; rounds = c.new.ensures.rounds; named = λ w l. c.new.ensures.named w (omega arith); last = c.new.ensures.last };
          mark = refl;
          held = refl;
        },
      );
      promise = (promise _ _ whole.drawn.some (g.met.P.Silent.laws _ _ whole), firm _ _);
      lives = lives g.P.Silent;
    }
