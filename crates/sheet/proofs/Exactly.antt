-- An accepted sheet is byte for byte what is written of its contents, and what is written of a proper one is accepted.
use Rattle.std.proofs.Common.{◌≡◌, ℕ, ◌+◌, ◌<◌, List, [], ◌++◌, length, Ok, Err, Result, sym, refl, ap, ◌∙◌, subst, arith}
use Rattle.std.proofs.lemmas.List.{append-nil}
use Rattle.text.specs.Spots.{Spot}
use Rattle.text.specs.declared.contents.ContentsLine.{ContentsLine}
use Rattle.text.specs.declared.records.LinkLine.{LinkLine}
use Rattle.text.specs.declared.records.TurnLine.{TurnLine}
use Rattle.sheet.specs.declared.contents.Contents.{Contents}
use Rattle.sheet.specs.declared.fault.SheetFault.{SheetFault}
use Rattle.sheet.specs.Body.{Front, passed}
use Rattle.text.specs.Written.{lines_of}
use Rattle.text.specs.Lines.{contents_bytes, link_bytes, fault_bytes, turn_bytes}
use Rattle.sheet.specs.Kinds.{link_rules, fault_rules, turn_rules}
use Rattle.sheet.specs.Judge.{Lists, Sheet, Accepts, contents, link_lines, lines, places, start, turn_lines}
use Rattle.sheet.specs.Sheets.{Back, Exact, Judged, Proper, Within, body_bytes, gives, heads, sheet_bytes}
use Rattle.sheet.proofs.Heads.{good_heads, heads_good}
use Rattle.sheet.proofs.Judgement.{sole}
use Rattle.sheet.proofs.Stops.{all_lines, links_pass, turns_pass}

links_written : (ns : Contents) (p q : Spot) (ls : List LinkLine) → link_lines ns p (passed ls q) → p.rest ≡ lines_of link_bytes ls ++ q.rest
links_written ns p q ls h =
    let mid = h.1.2.1 in
    h.1.1.1.text ∙ ap (λ (xs : List LinkLine). lines_of link_bytes xs ++ h.1.0.rest) (sym mid.2.0) ∙ ap (λ (s : Spot). lines_of link_bytes ls ++ s.rest) (sym mid.1.1 ∙ sym mid.2.1)

turns_written : (ns : Contents) (p q : Spot) (ts : List TurnLine) → turn_lines ns p (passed ts q) → p.rest ≡ lines_of turn_bytes ts ++ q.rest
turns_written ns p q ts h =
    let mid = h.1.2.1 in
    h.1.1.1.text ∙ ap (λ (xs : List TurnLine). lines_of turn_bytes xs ++ h.1.0.rest) (sym mid.2.0) ∙ ap (λ (s : Spot). lines_of turn_bytes ts ++ s.rest) (sym mid.1.1 ∙ sym mid.2.1)

lists_written : (ns : Contents) (p q : Spot) (ls : Lists) → lines ns p (passed ls q) → p.rest ≡ body_bytes ls
lists_written ns p q ls h =
    let lk = h.0 in
    let h2 = h.1.2 in
    let fs = h2.0 in
    let h3 = h2.1.2 in
    let ts = h3.0 in
    let h4 = h3.1.2.1 in
    let is : ls ≡ record { links = lk; faults = fs; turns = ts } = h4.2.0 in
    links_written ns p h.1.0 lk h.1.1 ∙ ap (λ (r : List ℕ). lines_of link_bytes lk ++ r)
    (h2.1.1.1.text ∙ ap (λ (r : List ℕ). lines_of fault_bytes fs ++ r)
    (turns_written ns h2.1.0 h3.1.0 ts h3.1.1 ∙ ap (λ (r : List ℕ). lines_of turn_bytes ts ++ r) h4.1.0 ∙ append-nil (lines_of turn_bytes ts)))
    ∙ ap body_bytes (sym is)

pub accepted_written : (bytes : List ℕ) (s : Sheet) → Accepts bytes s → bytes ≡ sheet_bytes s
accepted_written bytes s h =
    let h1 = h.1.1 in
    let h2 = h1.2 in
    let ns = h2.0 in
    let p1 = h2.1.0 in
    let cont = h2.1.1 in
    let cs = cont.0 in
    let pc = cont.1.0 in
    let front = cont.1.1 in
    let h3 = h2.1.2 in
    let ls = h3.0 in
    let p2 = h3.1.0 in
    let rest : pc.rest ≡ body_bytes ls = ap (λ (x : Spot). x.rest) (sym cont.1.2.1) ∙ lists_written ns p1 p2 ls h3.1.1 in
    let cs-is : cs ≡ heads ns = (heads_good cs front.0 front.1.good).0 ∙ ap heads (sym cont.1.2.0) in
    ap (λ (x : Spot). x.rest) (sym h1.1.1) ∙ front.1.text ∙ ap (λ (r : List ℕ). lines_of contents_bytes cs ++ r) rest
    ∙ ap (λ (x : List ContentsLine). lines_of contents_bytes x ++ body_bytes ls) cs-is
    ∙ ap sheet_bytes (sym h3.1.2.0)

pub exactly : (bytes : List ℕ) (l : Lists) (r : Result Contents SheetFault) → Judged bytes l r → Exact bytes l r
exactly bytes l (Ok ns) h = accepted_written bytes (gives ns l) h
exactly bytes l (Err e) h = tt

-- the place after the contents of a written sheet
abbrev pub after_contents : Lists → Spot
after_contents l = record { rest = body_bytes l; line = 4 }

pub contents_pass : (s : Sheet) → Within s.contents → contents (start (sheet_bytes s)) (passed s.contents (after_contents s.lists))
contents_pass s w = (heads s.contents, (after_contents s.lists, (refl, record { text = refl; lines = refl; good = good_heads s.contents w }), (refl, refl)))

pub proper_accepted : (s : Sheet) → Proper s → Accepts (sheet_bytes s) s
proper_accepted s h =
    let ns = s.contents in
    let ls = s.lists.links in
    let fs = s.lists.faults in
    let ts = s.lists.turns in
    let small = h.small in
    let p0 : Spot = start (sheet_bytes s) in
    let p1 : Spot = after_contents s.lists in
    let p2 : Spot = record { rest = lines_of fault_bytes fs ++ lines_of turn_bytes ts; line = 4 + length ls } in
    let p3 : Spot = record { rest = lines_of turn_bytes ts; line = 4 + length ls + length fs } in
    let p4 : Spot = record { rest = []; line = 4 + length ls + length fs + length ts } in
    let f1 : Front link_bytes link_rules ns.nodes.value ls p1 p2 = record { text = refl; lines = refl; good = h.links_good } in
    let f2 : Front fault_bytes fault_rules (places ns) fs p2 p3 = record { text = refl; lines = refl; good = h.faults_good } in
    let f3 : Front turn_bytes turn_rules ns.nodes.value ts p3 p4 = record { text = sym (append-nil (lines_of turn_bytes ts)); lines = refl; good = h.turns_good } in
    let all = all_lines ns p1 ls p2 (links_pass ns p1 ls p2 (h.links_count, f1) h.reached) fs p3 (h.faults_count, f2) ts p4 (turns_pass ns p3 ts p4 (h.turns_count, f3) (λ m. m.1 (h.named m.0))) refl in
    (p4, (tt, (p0, ((λ (over : 65536 < length (sheet_bytes s)). omega arith), refl), (ns, (p1, contents_pass s h.limits, (s.lists, (p4, all, (refl, refl))))))))

pub back : (bytes : List ℕ) (l : Lists) (r : Result Contents SheetFault) → Judged bytes l r → Back bytes l r
back bytes l r h s p e = (sole bytes l r h).0 s (subst (λ (b : List ℕ). Accepts b s) (sym e) (proper_accepted s p))
