-- Where the judgement of the lines after the contents stops.
use Rattle.std.proofs.Common.{◌≡◌, ◌<◌, List, [], length, Err, refl, inl, inr}
use Rattle.refusal.specs.declared.Refusal.TheVariants.{Unreached, Missing}
use Rattle.graph.specs.Model.{Reached}
use Rattle.text.specs.Lines.{fault_bytes, link_bytes, turn_bytes}
use Rattle.text.specs.Spots.{AtEnd, Spot}
use Rattle.text.specs.declared.fault.ScanFault.{ScanFault}
use Rattle.text.specs.declared.records.LinkLine.{LinkLine}
use Rattle.text.specs.declared.records.FaultLine.{FaultLine}
use Rattle.text.specs.declared.records.TurnLine.{TurnLine}
use Rattle.sheet.specs.declared.contents.Contents.{Contents}
use Rattle.sheet.specs.declared.fault.SheetFault.{SheetFault}
use Rattle.sheet.specs.declared.fault.SheetFault.TheVariants.{Refused, Scan}
use Rattle.sheet.specs.Body.{Body, passed, refused}
use Rattle.sheet.specs.Judge.{Named, link_lines, lines, places, turn_lines}
use Rattle.sheet.specs.Kinds.{fault_rules, link_rules, site_of, turn_rules}

module _ (ns : Contents) (p : Spot) where
  pub links_stop : (e : SheetFault) → Body link_bytes link_rules ns.nodes.value ns.links.value p (refused e) → link_lines ns p (refused e)
  links_stop e h = inl h

  pub turns_stop : (e : SheetFault) → Body turn_bytes turn_rules ns.nodes.value ns.turns.value p (refused e) → turn_lines ns p (refused e)
  turns_stop e h = inl h

  module _ (ls : List LinkLine) (q : Spot) (body : Body link_bytes link_rules ns.nodes.value ns.links.value p (passed ls q)) where
    pub links_unreached : (Reached (site_of ns.nodes.value ls) → ⊥) → link_lines ns p (refused (Refused Unreached q.line))
    links_unreached none = inr (ls, (q, body, inl (none, refl)))

    pub links_pass : Reached (site_of ns.nodes.value ls) → link_lines ns p (passed ls q)
    links_pass reached = (ls, (q, body, (tt, (q, ((λ none. none reached), refl), (refl, refl)))))

  module _ (ts : List TurnLine) (q : Spot) (body : Body turn_bytes turn_rules ns.nodes.value ns.turns.value p (passed ts q)) where
    pub turns_missing : (0 < length ts) × (Named ns.nodes.value ts → ⊥) → turn_lines ns p (refused (Refused Missing q.line))
    turns_missing h = inr (ts, (q, body, inl (h, refl)))

    pub turns_pass : ((0 < length ts) × (Named ns.nodes.value ts → ⊥) → ⊥) → turn_lines ns p (passed ts q)
    turns_pass named = (ts, (q, body, (tt, (q, (named, refl), (refl, refl)))))

  pub at_links : (e : SheetFault) → link_lines ns p (refused e) → lines ns p (refused e)
  at_links e h = inl h

  module _ (ls : List LinkLine) (q : Spot) (links : link_lines ns p (passed ls q)) where
    pub at_faults : (e : SheetFault) → Body fault_bytes fault_rules (places ns) ns.faults.value q (refused e) → lines ns p (refused e)
    at_faults e h = inr (ls, (q, links, inl h))

    module _ (fs : List FaultLine) (r : Spot) (faults : Body fault_bytes fault_rules (places ns) ns.faults.value q (passed fs r)) where
      pub at_turns : (e : SheetFault) → turn_lines ns r (refused e) → lines ns p (refused e)
      at_turns e h = inr (ls, (q, links, inr (fs, (r, faults, inl h))))

      module _ (ts : List TurnLine) (s : Spot) (turns : turn_lines ns r (passed ts s)) where
        pub at_end : (e : ScanFault) → AtEnd s (Err e) → lines ns p (refused (Scan e))
        at_end e h = inr (ls, (q, links, inr (fs, (r, faults, inr (ts, (s, turns, inl (e, refl, h)))))))

        pub all_lines : s.rest ≡ [] → lines ns p (passed (record { links = ls; faults = fs; turns = ts }) s)
        all_lines h = (ls, (q, links, (fs, (r, faults, (ts, (s, turns, (tt, (s, (h, refl), (refl, refl)))))))))
