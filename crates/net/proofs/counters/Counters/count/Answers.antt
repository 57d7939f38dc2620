use Rattle.std.proofs.Common.{◌≡◌, ◌+◌, true, false, sym, refl, ◌∙◌, arith, rules}
use Rattle.std.proofs.lemmas.Bool.{cond-true, cond-false}
use Rattle.rounds.specs.Marks.{marked, all_marked}
use Rattle.net.specs.Marking.{has}
use Rattle.net.proofs.CountLaws.{set_full, set_part}
use Rattle.net.proofs.counters.Counters.count.Goals as goal

pub returns-then-awaited-eq0 : goal.returns-then-awaited-eq0
returns-then-awaited-eq0 c =
    let s = c.args.self.now in
    let v = c.args.v in
    let few = s.few in
    let all : all_marked s.nodes (marked (has s.named) v) ≡ true = set_full s.nodes v (has s.named) _ (λ w l. c.set.ensures w (omega arith)) (sym c.awaited.ensures ∙ c.if-awaited-eq0.true) in
    record {
      nodes = refl;
      turns = refl;
      last = search rules;
      counts = record { rounds = sym (cond-true (all_marked s.nodes (marked (has s.named) v)) (s.rounds + 1) s.rounds all); marks = λ w l. (search rules) ∙ sym (cond-true (all_marked s.nodes (marked (has s.named) v)) false (marked (has s.named) v w) all) };
    }

pub returns-else-awaited-eq0 : goal.returns-else-awaited-eq0
returns-else-awaited-eq0 c =
    let s = c.args.self.now in
    let v = c.args.v in
    let few = s.few in
    let part : all_marked s.nodes (marked (has s.named) v) ≡ false = set_part s.nodes v (has s.named) _ (λ w l. c.set.ensures w (omega arith)) (λ e. c.if-awaited-eq0.false (c.awaited.ensures ∙ e)) in
    record {
      nodes = refl;
      turns = refl;
      last = search rules;
      counts = record { rounds = sym (cond-false (all_marked s.nodes (marked (has s.named) v)) (s.rounds + 1) s.rounds part); marks = λ w l. c.set.ensures w (omega arith) ∙ sym (cond-false (all_marked s.nodes (marked (has s.named) v)) false (marked (has s.named) v w) part) };
    }
