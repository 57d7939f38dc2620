use Rattle.std.proofs.Common.{◌≡◌, List, ℕ, length, Option, None, Some, vec_items, vec_len, sym, refl, ap, ◌∙◌, subst, arith}
use Rattle.std.proofs.lemmas.Grind.{common_steps}
use Rattle.std.proofs.lemmas.List.{with_items_is}
use Rattle.std.specs.Result.{result_ok}
use Rattle.graph.specs.Model.{Reached}
use Rattle.site.specs.declared.node.Node.{Node}
use Rattle.site.specs.declared.builder.SiteBuilder.{SiteBuilder}
use Rattle.site.specs.Kept.{Table, filled, ported}
use Rattle.site.specs.Levels.{Complete, Surveyed}
use Rattle.site.specs.Sites.{draft}
use Rattle.site.proofs.Whole.{drawn}
use Rattle.site.proofs.builder.SiteBuilder.finish.Goals as goal
use Rattle.site.proofs.builder.SiteBuilder.finish.Goals.{In_ok-height}

-- what the survey tells of a builder whose table it was lent
complete : (s : SiteBuilder) (ns es : List Node) (h k : Option ℕ) → ns ≡ vec_items s.nodes → Surveyed s.root ns h es → h ≡ k → Complete (draft s) es k
complete s ns es h k e all q =
    subst (Complete (draft s) es) q (all (draft s) refl (drawn s, ap length e ∙ sym s.nodes.ok.0, subst (Table ported (draft s)) (sym e) s.table))

-- a height came out
height : (c : In_ok-height) → Complete (draft c.args.self) c.survey.new.nodes (Some c.in_ok-height.height)
height c = complete c.args.self c.deref_mut.result.now c.survey.new.nodes c.survey.result (Some c.in_ok-height.height) c.deref_mut.ensures.value c.survey.ensures (c.ok_or.ensures.ok_part ∙ ap result_ok c.in_ok-height.was)

pub returns-in_err-height : goal.returns-in_err-height
returns-in_err-height c =
    let s = c.args.self in
    let far : Reached (draft s) → ⊥ = complete s c.deref_mut.result.now c.survey.new.nodes c.survey.result None c.deref_mut.ensures.value c.survey.ensures (c.ok_or.ensures.ok_part ∙ ap result_ok c.in_err-height.was) in
    grind (arith, common_steps, far)

pub invariant_of-result : goal.invariant_of-result
invariant_of-result c =
    let s = c.args.self in
    let all = height c in
    let len : length c.survey.new.nodes ≡ vec_len s.nodes = c.survey.auto.nodes ∙ c.deref_mut.ensures.len in
    record {
      proper = ∣ all.0 ∣₁;
      table = subst (Table filled (draft s)) (sym (with_items_is s.nodes c.survey.new.nodes len)) all.2;
      highest = all.1;
    }

pub returns : goal.returns
returns c = (refl, (height (goal.at.returns c).In_ok-height).0)
