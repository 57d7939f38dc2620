-- The judgement of a sheet gives one outcome.
use Rattle.std.proofs.Common.{◌≡◌, ℕ, ◌<◌, List, length, Ok, Err, Result, sym, ap, ◌∙◌}
use Rattle.refusal.specs.declared.Refusal.TheVariants.{Limit, Unreached, Missing}
use Rattle.graph.specs.Model.{Reached}
use Rattle.text.specs.Spots.{Spot}
use Rattle.sheet.specs.declared.contents.Contents.{Contents}
use Rattle.sheet.specs.declared.fault.SheetFault.{SheetFault}
use Rattle.sheet.specs.Body.{Body, Out, passed, refused}
use Rattle.text.specs.Lines.{contents_bytes}
use Rattle.sheet.specs.Kinds.{contents_rules, link_rules, fault_rules, turn_rules, site_of}
use Rattle.sheet.specs.Judge.{Lists, Named, Sheet, contents, give, link_lines, lines, numbers, places, sheet, start, turn_lines}
use Rattle.sheet.specs.Sheets.{Judged, Sole, gives}
use Rattle.sheet.proofs.Forms.{contents_kind, link_kind, fault_kind, turn_kind}
use Rattle.sheet.proofs.Single.{Single, never, single_body, single_ending, single_give, single_refuse_if, single_then}

single_contents : Single contents
single_contents = single_then (Body contents_bytes contents_rules 0 4) (λ cs. give (numbers cs)) (single_body contents_kind contents_rules 0 4) (λ cs. single_give (numbers cs))

single_links : (ns : Contents) → Single (link_lines ns)
single_links ns =
    single_then _ _ (single_body link_kind link_rules ns.nodes.value ns.links.value) (λ ls.
    single_then _ _ (single_refuse_if (Reached (site_of ns.nodes.value ls) → ⊥) Unreached) (λ _. single_give ls))

single_turns : (ns : Contents) → Single (turn_lines ns)
single_turns ns =
    single_then _ _ (single_body turn_kind turn_rules ns.nodes.value ns.turns.value) (λ ts.
    single_then _ _ (single_refuse_if ((0 < length ts) × (Named ns.nodes.value ts → ⊥)) Missing) (λ _. single_give ts))

single_lines : (ns : Contents) → Single (lines ns)
single_lines ns =
    single_then _ _ (single_links ns) (λ ls.
    single_then _ _ (single_body fault_kind fault_rules (places ns) ns.faults.value) (λ fs.
    single_then _ _ (single_turns ns) (λ ts.
    single_then _ _ single_ending (λ _. single_give (record { links = ls; faults = fs; turns = ts })))))

pub single_sheet : (bytes : List ℕ) (o o' : Out Sheet) → sheet bytes o → sheet bytes o' → o ≡ o'
single_sheet bytes =
    single_then _ _ (single_refuse_if (65536 < length bytes) Limit) (λ _.
    single_then _ _ single_contents (λ ns.
    single_then _ _ (single_lines ns) (λ ls. single_give (record { contents = ns; lists = ls })))) (start bytes)

passed_once : {A : Type 0} (a b : A) (p q : Spot) → passed a p ≡ passed b q → a ≡ b
passed_once a b p q e = cc

refused_once : (e d : SheetFault) → ◌≡◌ {A = Out Sheet} (refused e) (refused d) → e ≡ d
refused_once e d h = cc

pub sole : (bytes : List ℕ) (l : Lists) (r : Result Contents SheetFault) → Judged bytes l r → Sole bytes l r
sole bytes l (Ok ns) h = (
  (λ s a.
      let w : gives ns l ≡ s = passed_once (gives ns l) s h.0 a.0 (single_sheet bytes (passed (gives ns l) h.0) (passed s a.0) h.1 a.1) in
      let n : ns ≡ s.contents = ap (λ (x : Sheet). x.contents) w in
      (ap (λ (x : Contents). Ok x) n, ap (λ (x : Contents). gives x l) (sym n) ∙ w)),
  λ e d. absurd (never (gives ns l) h.0 e (single_sheet bytes (passed (gives ns l) h.0) (refused e) h.1 d)),
)
sole bytes l (Err e) h = (
  (λ s a. absurd (never s a.0 e (single_sheet bytes (passed s a.0) (refused e) a.1 h))),
  λ d g. ap (λ (x : SheetFault). Err x) (refused_once e d (single_sheet bytes (refused e) (refused d) h g)),
)
