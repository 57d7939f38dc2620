-- What the writer's checks find is what reading would find.
use Rattle.std.proofs.Common.{◌≡◌, ℕ, ◌+◌, ◌<◌, List, [], ◌++◌, length, Ok, Err, Result, refl, subst, inl, ⊎_elim}
use Rattle.std.proofs.lemmas.List.{append-nil}
use Rattle.lists.specs.Members.{Among}
use Rattle.lists.proofs.Decisions.{all_below?, among_number?}
use Rattle.graph.specs.Model.{Reached}
use Rattle.refusal.specs.declared.Refusal.TheVariants.{Missing, Unreached}
use Rattle.text.specs.Lines.{contents_bytes, fault_bytes, link_bytes, turn_bytes}
use Rattle.text.specs.Spots.{Spot}
use Rattle.text.specs.declared.records.LinkLine.{LinkLine}
use Rattle.text.specs.declared.records.TurnLine.{TurnLine}
use Rattle.sheet.specs.declared.contents.Contents.{Contents}
use Rattle.sheet.specs.declared.fault.SheetFault.{SheetFault}
use Rattle.sheet.specs.declared.fault.SheetFault.TheVariants.{Refused}
use Rattle.sheet.specs.Body.{Body, BodyChecked, Good, refused}
use Rattle.text.specs.Written.{lines_of}
use Rattle.sheet.specs.Checking.{ContentsChecked, LinesChecked, LinksChecked, TurnsChecked, ahead}
use Rattle.sheet.specs.Judge.{Lists, Named, places, turn_lines}
use Rattle.sheet.specs.Kinds.{contents_rules, fault_rules, link_rules, site_of, turn_rules}
use Rattle.sheet.specs.Sheets.{heads}
use Rattle.sheet.proofs.Bodies.{front_whole}
use Rattle.sheet.proofs.Exactly.{after_contents}
use Rattle.sheet.proofs.Heads.{heads_good}
use Rattle.sheet.proofs.Names.{Missed, nodes_of}
use Rattle.sheet.proofs.Stops.{at_faults, at_links, at_turns, links_pass, links_stop, links_unreached, turns_missing, turns_stop}

pub contents_checked : (ns : Contents) (r : Result (Unit {0}) SheetFault) → BodyChecked contents_bytes contents_rules 0 (heads ns) 0 r → ContentsChecked ns r
contents_checked ns (Ok u) g = (heads_good (heads ns) refl g).1
contents_checked ns (Err e) h = λ more. inl (h more)

module _ (ns : Contents) (ls : List LinkLine) (count : length ls ≡ ns.links.value) where
  pub links_stopped : (e : SheetFault) → BodyChecked link_bytes link_rules ns.nodes.value ls 4 (Err e) → LinksChecked ns ls (Err e)
  links_stopped e h more = links_stop ns (ahead link_bytes ls 4 more) e (subst (λ (k : ℕ). Body link_bytes link_rules ns.nodes.value k (ahead link_bytes ls 4 more) (refused e)) count (h more))

  pub links_apart : Good link_rules ns.nodes.value [] ls → (Reached (site_of ns.nodes.value ls) → ⊥) → LinksChecked ns ls (Err (Refused Unreached (4 + length ls)))
  links_apart good none more = links_unreached ns (ahead link_bytes ls 4 more) ls (record { rest = more; line = 4 + length ls }) (count, front_whole link_bytes link_rules ns.nodes.value ls more 4 good) none

module _ (ns : Contents) (ts : List TurnLine) (line : ℕ) (count : length ts ≡ ns.turns.value) where
  pub turns_stopped : (e : SheetFault) → BodyChecked turn_bytes turn_rules ns.nodes.value ts line (Err e) → TurnsChecked ns ts line (Err e)
  turns_stopped e h more = turns_stop ns (ahead turn_bytes ts line more) e (subst (λ (k : ℕ). Body turn_bytes turn_rules ns.nodes.value k (ahead turn_bytes ts line more) (refused e)) count (h more))

  pub turns_missed : Good turn_rules ns.nodes.value [] ts → Missed ns.nodes.value ts → TurnsChecked ns ts line (Err (Refused Missing (line + length ts)))
  turns_missed good m more = turns_missing ns (ahead turn_bytes ts line more) ts (record { rest = more; line = line + length ts }) (count, front_whole turn_bytes turn_rules ns.nodes.value ts more line good) m

-- what is not missed is named
pub all_named : (n : ℕ) (ts : List TurnLine) → (Missed n ts → ⊥) → 0 < length ts → Named n ts
all_named n ts h some = ⊎_elim (λ yes. yes) (λ no. absurd (h (some, no))) (all_below? (λ v. Among v (nodes_of ts)) (λ v. among_number? v (nodes_of ts)) n)

module _ (ns : Contents) (l : Lists) (nl : length l.links ≡ ns.links.value) (nf : length l.faults ≡ ns.faults.value) (nt : length l.turns ≡ ns.turns.value) where
  abbrev p2 : Spot
  p2 = record { rest = lines_of fault_bytes l.faults ++ lines_of turn_bytes l.turns; line = 4 + length l.links }

  abbrev p3 : Spot
  p3 = record { rest = lines_of turn_bytes l.turns; line = 4 + length l.links + length l.faults }

  pub lines_at_links : (e : SheetFault) → LinksChecked ns l.links (Err e) → LinesChecked ns l (Err e)
  lines_at_links e h = at_links ns (after_contents l) e (h (lines_of fault_bytes l.faults ++ lines_of turn_bytes l.turns))

  module _ (links : LinksChecked ns l.links (Ok tt)) where
    pub lines_at_faults : (e : SheetFault) → BodyChecked fault_bytes fault_rules (places ns) l.faults (4 + length l.links) (Err e) → LinesChecked ns l (Err e)
    lines_at_faults e h =
        at_faults ns (after_contents l) l.links p2 (links_pass ns (after_contents l) l.links p2 (nl, front_whole link_bytes link_rules ns.nodes.value l.links p2.rest 4 links.0) links.1) e
        (subst (λ (k : ℕ). Body fault_bytes fault_rules (places ns) k p2 (refused e)) nf (h (lines_of turn_bytes l.turns)))

    pub lines_at_turns : Good fault_rules (places ns) [] l.faults → (e : SheetFault) → TurnsChecked ns l.turns (4 + length l.links + length l.faults) (Err e) → LinesChecked ns l (Err e)
    lines_at_turns good e h =
        at_turns ns (after_contents l) l.links p2 (links_pass ns (after_contents l) l.links p2 (nl, front_whole link_bytes link_rules ns.nodes.value l.links p2.rest 4 links.0) links.1)
        l.faults p3 (nf, front_whole fault_bytes fault_rules (places ns) l.faults p3.rest (4 + length l.links) good) e
        (subst (λ (r : List ℕ). Turned r) (append-nil (lines_of turn_bytes l.turns)) (h []))
      where
        Turned : List ℕ → Type 0
        Turned r = turn_lines ns (record { rest = r; line = 4 + length l.links + length l.faults }) (refused e)

    pub lines_checked : Good fault_rules (places ns) [] l.faults → (r : Result (Unit {0}) SheetFault) → TurnsChecked ns l.turns (4 + length l.links + length l.faults) r → LinesChecked ns l r
    lines_checked good (Ok u) h = (links, good, h)
    lines_checked good (Err e) h = lines_at_turns good e h
