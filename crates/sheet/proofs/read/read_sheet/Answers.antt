use Rattle.std.proofs.Common.{◌≡◌, ℕ, List, take, Some, Ok, Err, sym, refl, ap, ◌∙◌, subst}
use Rattle.text.specs.declared.records.LinkLine.{LinkLine}
use Rattle.sheet.specs.Kinds.{site_of}
use Rattle.sheet.specs.Sheets.{Room, Zeros, front, given, lists, no_fault, no_link, no_turn}
use Rattle.sheet.proofs.Outcomes.{judged_same, read_sheet_lem}
use Rattle.sheet.proofs.read.read_sheet.Goals as goal
use Rattle.sheet.proofs.read.read_sheet.Goals.{in-Ok, in-Err}

pub returns : goal.returns
returns c =
    let bytes = c.args.bytes.now in
    let g = given c.args.lists in
    let room : Room g = c.have_room.ensures.0 c.if-not-have_room.false in
    elim c.match-read_all.branch [
      | in-Ok w ↦
          let ns = w.in-Ok.contents in
          let l = lists c.read_all.new.lists.0 c.read_all.new.lists.1.0 c.read_all.new.lists.1.1.0 in
          let m = lists w.clear.new.list w.clear-in-Ok.new.list w.clear-in-Ok-2.new.list in
          let fl = subst (λ (k : ℕ). take k l.links ≡ take k m.links) w.get.ensures (sym w.clear.ensures.front) in
          let ff = subst (λ (k : ℕ). take k l.faults ≡ take k m.faults) w.get-in-Ok.ensures (sym w.clear-in-Ok.ensures.front) in
          let ft = subst (λ (k : ℕ). take k l.turns ≡ take k m.turns) w.get-in-Ok-2.ensures (sym w.clear-in-Ok-2.ensures.front) in
          let same : front ns l ≡ front ns m = λ t. record { links = fl t; faults = ff t; turns = ft t } in
          rw (w.result-is, w.site-is, w.links-is, w.faults-is, w.turns-is) (read_sheet_lem bytes g c.args.site.now (Ok ns) m (Some w.in-Ok.read) room
          (judged_same bytes ns l m same w.in-Ok.ensures.judged)
          (subst (λ (k : ℕ). Zeros no_link k m.links) w.get.ensures w.clear.ensures.zeros, subst (λ (k : ℕ). Zeros no_fault k m.faults) w.get-in-Ok.ensures w.clear-in-Ok.ensures.zeros, subst (λ (k : ℕ). Zeros no_turn k m.turns) w.get-in-Ok-2.ensures w.clear-in-Ok-2.ensures.zeros)
          (w.in-Ok.ensures.site ∙ ap (λ (xs : List LinkLine). site_of ns.nodes.value xs) fl))
      | in-Err w ↦
          rw (w.result-is, w.site-is, w.links-is, w.faults-is, w.turns-is) (read_sheet_lem bytes g c.args.site.now (Err w.in-Err.e) (lists w.clear-in-Err.new.list w.clear-in-Err-2.new.list w.clear-in-Err-3.new.list) _
          room w.in-Err.ensures.judged (w.clear-in-Err.ensures.zeros, w.clear-in-Err-2.ensures.zeros, w.clear-in-Err-3.ensures.zeros) refl)
    ]
