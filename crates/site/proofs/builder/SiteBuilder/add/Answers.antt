use Rattle.std.proofs.Common.{vec_items, vec_len, sym, subst}
use Rattle.graph.specs.Model.{Drawn}
use Rattle.site.specs.Sites.{draft}
use Rattle.site.specs.Table.{site_of}
use Rattle.site.proofs.Whole.{drawn}
use Rattle.site.proofs.Adding.{draft_push, free_drawn, free_order, room_for, table_push}
use Rattle.site.proofs.builder.SiteBuilder.add.Goals as goal

pub push_reserved-requires : goal.push_reserved-requires
push_reserved-requires c = room_for c.args.self.now c.args.a c.args.b c.requires

pub invariant_of-self-clause-drawn : goal.invariant_of-self-clause-drawn
invariant_of-self-clause-drawn c =
    let s = c.args.self.now in
    let e = draft_push s (vec_items c.push_reserved.new.self) c.args.a c.args.b c.push_reserved.ensures.items in
    ∣ subst Drawn (sym e) (free_drawn (draft s) c.args.a c.args.b c.requires (drawn s)) ∣₁

pub invariant_of-self-clause-table : goal.invariant_of-self-clause-table
invariant_of-self-clause-table c =
    let s = c.args.self.now in
    let o = free_order (draft s) c.args.a c.args.b c.requires in
    table_push (draft s) (vec_items s.nodes) c.args.a c.args.b c.index_mut.result.now c.index_mut-2.result.now c.push.new.self c.push-2.new.self o.0 o.1 s.nodes.ok.0 s.table
    c.index_mut.ensures.value c.push.ensures.items c.index_mut-2.ensures.value c.push-2.ensures.items
    (site_of (vec_len s.nodes) s.root (vec_items c.push_reserved.new.self)) (draft_push s (vec_items c.push_reserved.new.self) c.args.a c.args.b c.push_reserved.ensures.items)
