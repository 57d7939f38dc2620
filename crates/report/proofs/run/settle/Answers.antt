use Rattle.std.proofs.Common.{◌≡◌, ℕ, ◌<◌, List, length, Ok, vec_items, sym, subst, arith}
use Rattle.std.proofs.lemmas.List.{length-map}
use Rattle.std.proofs.lemmas.Bool.{eqb-false, eqb-true}
use Rattle.daemon.specs.Scripts.{ScriptOwned}
use Rattle.daemon.specs.ScriptSound.{free_below}
use Rattle.text.specs.declared.records.TurnLine.{TurnLine}
use Rattle.site.proofs.Whole.{proper}
use Rattle.report.specs.Runs.{Ordered, names_of}
use Rattle.report.proofs.Daemons.{few_names, none_named, robin_ordered, script_able, script_free, script_ordered}
use Rattle.report.proofs.run.settle.Goals as goal

some-names : (ts : List TurnLine) → (length ts ≡ 0 → ⊥) → 0 < length (names_of ts)
some-names ts h = let e = length-map ts (λ (t : TurnLine). t.node.value) in omega arith

pub nodes_of-requires-clause-few : goal.nodes_of-requires-clause-few
nodes_of-requires-clause-few g c =
    let some = some-names c.args.turns.now (eqb-false _ _ (sym c.if-is_empty.ensures)) in
    let free = script_free c.args.nodes (names_of c.args.turns.now) some c.requires.script in
    let few = (proper c.args.net.now.site.now).drawn.limit in
    let same = c.requires.nodes in
    few_names c.args.nodes c.args.turns.now (free_below c.args.nodes (names_of c.args.turns.now) free) (omega arith)

pub draw-requires-else-is_empty : goal.draw-requires-else-is_empty
draw-requires-else-is_empty g c =
    script_able g.P.Silent c.args.net.now c.args.nodes (vec_items c.nodes_of.result) c.in-Ok-owned.script c.in-Ok-owned.ensures c.requires.nodes c.requires.fresh c.requires.low

pub returns-in-Ok : goal.returns-in-Ok
returns-in-Ok g c =
    let course = c.draw.ensures in
    let none = none_named c.args.turns.now (let e = eqb-true _ _ (sym c.if-is_empty.ensures) in omega arith) in
    (course.0, subst (λ (n : ℕ). Ordered n (names_of c.args.turns.now) course.0) c.requires.nodes (robin_ordered c.args.nodes (names_of c.args.turns.now) course.0 c.in-Ok.robin c.draw.new.daemon c.in-Ok.ensures none course.1), course.2)

pub returns-in-Ok-owned : goal.returns-in-Ok-owned
returns-in-Ok-owned g c =
    let course = c.draw-else-is_empty.ensures in
    let some = some-names c.args.turns.now (eqb-false _ _ (sym c.if-is_empty.ensures)) in
    let made = subst (λ (ns : List ℕ). ScriptOwned c.args.nodes ns (Ok c.in-Ok-owned.script)) c.nodes_of.ensures c.in-Ok-owned.ensures in
    (course.0, subst (λ (n : ℕ). Ordered n (names_of c.args.turns.now) course.0) c.requires.nodes (script_ordered c.args.nodes (names_of c.args.turns.now) course.0 c.in-Ok-owned.script c.draw-else-is_empty.new.daemon some made course.1), course.2)
