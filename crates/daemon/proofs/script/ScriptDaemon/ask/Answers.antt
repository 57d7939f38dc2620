use Rattle.std.proofs.Common.{◌≡◌, ℕ, ◌+◌, ◌%◌, ◌<◌, length, get_or, sym, refl, ap, ◌∙◌, arith}
use Rattle.std.proofs.lemmas.List.{get_or_read_under}
use Rattle.lists.proofs.Elements.{among_get_d}
use Rattle.daemon.specs.Scripts.{names_of}
use Rattle.daemon.specs.Waits.{waits_within, waits_fall}
use Rattle.daemon.specs.ScriptSound.{free_below, free_covers}
use Rattle.daemon.proofs.script.ScriptDaemon.ask.Goals as goal

pub returns-clause-asked : goal.returns-clause-asked
returns-clause-asked c =
    let s = c.args.self.now in
    let names = names_of s in
    let place = s.at in
    let v = c.index.result.now in
    let k = s.names.ok.0 in
    let q = c.len.ensures in
    let w = s.within in
    let within : place < length names = omega arith in
    let len : c.len.result ≡ length names = omega arith in
    let named : v ≡ get_or names place 0 = get_or_read_under names place (length names) v 0 c.index.ensures within refl in
    let next : (place + 1) % c.len.result ≡ (place + 1) % length names = ap (λ (m : ℕ). (place + 1) % m) len in
    let every = free_covers s.nodes names s.sound in
    record {
      named = free_below s.nodes names s.sound v (rw named (among_get_d names place 0 within));
      nodes = refl;
      patience = refl;
      falls = λ u l ne. rw next (waits_fall names place u within (every u l) (λ e. ne (e ∙ sym named)));
      timely = waits_within s.nodes names ((place + 1) % c.len.result) every;
    }
