use Rattle.std.proofs.Common.{◌≡◌, ℕ, ◌-◌, ◌*◌, length, ap, ◌∙◌, arith}
use Rattle.rounds.specs.Marks.{count_marked}
use Rattle.net.specs.declared.counters.Counters.{Counters}
use Rattle.net.specs.Marking.{has}
use Rattle.rounds.proofs.MarksLaws.{count_low}
use Rattle.net.proofs.CountLaws.{count_inside}
use Rattle.net.proofs.counters.Counters.awaited.Goals as goal

-- the set bits of four words are the named nodes
named : (s : Counters) → length s.named.words ≡ 4 → count_marked (length s.named.words * 64) (has s.named) ≡ count_marked s.nodes (has s.named)
named s four = let few = s.few in count_inside s.nodes (length s.named.words * 64) (has s.named) (omega arith) (λ w l k. s.inside w l (omega arith))

pub overflow_sub-result : goal.overflow_sub-result
overflow_sub-result c =
    let s = c.args.self.now in
    let e = named s (omega arith) in
    let l = count_low s.nodes (has s.named) in
    omega (arith, c.count.ensures)

pub returns : goal.returns
returns c = let s = c.args.self.now in ap (λ (x : ℕ). s.nodes - x) (c.count.ensures ∙ named s (omega arith))
