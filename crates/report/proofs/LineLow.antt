-- The line of a declined sheet is no further than its bytes.
use Rattle.std.proofs.Common.{◌≡◌, ℕ, ◌+◌, ◌<◌, ◌≤◌, ◌⊎◌, List, [], ◌∷◌, ◌++◌, length, Ok, Err, Option, Result, ap, ◌∙◌, inl, inr, ⊎_elim, arith, length-append}
use Rattle.std.proofs.lemmas.Bool.{cases_lt}
use Rattle.refusal.specs.declared.Refusal.{Refusal}
use Rattle.refusal.specs.declared.Refusal.TheVariants.{Missing, Short, Unreached}
use Rattle.graph.specs.Model.{Reached}
use Rattle.site.specs.declared.site.Site.{Site}
use Rattle.text.specs.Faults.{line_of_fault}
use Rattle.text.specs.Lines.{contents_bytes, fault_bytes, link_bytes, turn_bytes}
use Rattle.text.specs.Spots.{AtEnd, Spot, Why}
use Rattle.text.specs.declared.fault.ScanFault.{ScanFault}
use Rattle.text.specs.declared.fault.ScanFault.TheVariants.{Form, Lacking, Trailing}
use Rattle.sheet.specs.declared.contents.Contents.{Contents}
use Rattle.sheet.specs.declared.fault.SheetFault.{SheetFault}
use Rattle.sheet.specs.declared.fault.SheetFault.TheVariants.{Refused, Scan}
use Rattle.sheet.specs.Body.{Body, Front, Out, Refuses, Rules, passed, refused}
use Rattle.text.specs.Written.{lines_of}
use Rattle.sheet.specs.Faults.{line_of}
use Rattle.sheet.specs.Judge.{Declines, Lists, Named, Sheet, and_then, contents, ending, give, link_lines, lines, numbers, places, refuse_if, start, turn_lines}
use Rattle.sheet.specs.Kinds.{contents_rules, fault_rules, link_rules, site_of, turn_rules}
use Rattle.sheet.specs.Sheets.{ReadSheet, Room, Sited}

-- lines read and bytes to come
weight : Spot → ℕ
weight p = p.line + length p.rest

-- a stage takes a byte at least for each line, and refuses no further than the line after those
record Low {A : Type 0} (f : Spot → Out A → Type 0) : Type 0 where
  falls : (p : Spot) (a : A) (q : Spot) → f p (passed a q) → weight q ≤ weight p
  stops : (p : Spot) (e : SheetFault) → f p (refused e) → line_of e ≤ weight p + 1

low_then : {A B : Type 0} (f : Spot → Out A → Type 0) (g : A → Spot → Out B → Type 0) → Low f → ((a : A) → Low (g a)) → Low (and_then f g)
low_then f g x y = record {
  falls = λ p b r h. let i = x.falls p h.0 h.1.0 h.1.1 in let j = (y h.0).falls h.1.0 b r h.1.2 in omega arith;
  stops = λ p e h. ⊎_elim (λ k. x.stops p e k) (λ k. let i = x.falls p k.0 k.1.0 k.1.1 in let j = (y k.0).stops k.1.0 e k.1.2 in omega arith) h;
}

same_weight : (p q : Spot) → q ≡ p → weight q ≤ weight p
same_weight p q e = let w = ap weight e in omega arith

low_give : {A : Type 0} (a : A) → Low (give a)
low_give a = record { falls = λ p b q h. same_weight p q h.1; stops = λ p e h. absurd h }

low_refuse_if : (P : Type 0) (c : Refusal) → Low (refuse_if P c)
unfolding weight
low_refuse_if P c = record { falls = λ p u q h. same_weight p q h.1; stops = λ p e h. let l = ap line_of h.1 in omega arith }

end_low : (p : Spot) (s : ScanFault) → AtEnd p (Err s) → line_of_fault s ≤ weight p + 1
unfolding weight
end_low p (Form l) h = absurd h
end_low p (Lacking l) h = absurd h
end_low p (Trailing l) h = let k = h.0 in omega arith

low_ending : Low ending
low_ending = record { falls = λ p u q h. same_weight p q h.1; stops = λ p e h. let k = end_low p h.0 h.2 in let l = ap line_of h.1 in omega arith }

why_low : {X : Type 0} (bytes : X → List ℕ) (q : Spot) (s : ScanFault) → Why bytes q s → line_of_fault s ≤ weight q + 1
unfolding weight
why_low bytes q (Form l) h = let k = h.0 in omega arith
why_low bytes q (Lacking l) h = let k = h.0 in omega arith
why_low bytes q (Trailing l) h = absurd h

refuses_low : {X : Type 0} (bytes : X → List ℕ) (rules : Rules X) (k : ℕ) (before : List X) (q : Spot) (e : SheetFault) → Refuses bytes rules k before q e → line_of e ≤ weight q + 1
unfolding weight
refuses_low bytes rules k before q (Scan s) h = why_low bytes q s h
refuses_low bytes rules k before q (Refused c l) h = let i = h.0 in omega arith

feeds : {X : Type 0} (bytes : X → List ℕ) (xs : List X) → length xs ≤ length (lines_of bytes xs)
feeds bytes [] = omega arith
feeds bytes (x ∷ xs) =
    let a = feeds bytes xs in
    let b = length-append (bytes x ++ (10 ∷ [])) (lines_of bytes xs) in
    let c = length-append (bytes x) (10 ∷ []) in
    omega arith

front_low : {X : Type 0} (bytes : X → List ℕ) (rules : Rules X) (k : ℕ) (xs : List X) (p q : Spot) → Front bytes rules k xs p q → weight q ≤ weight p
unfolding weight
front_low bytes rules k xs p q f =
    let a = feeds bytes xs in
    let b = ap length f.text ∙ length-append (lines_of bytes xs) q.rest in
    let c = f.lines in
    omega arith

low_body : {X : Type 0} (bytes : X → List ℕ) (rules : Rules X) (k n : ℕ) → Low (Body bytes rules k n)
low_body bytes rules k n = record {
  falls = λ p xs q h. front_low bytes rules k xs p q h.1;
  stops = λ p e h. let i = front_low bytes rules k h.0 p h.1.0 h.1.2 in let j = refuses_low bytes rules k h.0 h.1.0 e h.1.3 in omega arith;
}

low_contents : Low contents
low_contents = low_then _ _ (low_body contents_bytes contents_rules 0 4) (λ cs. low_give (numbers cs))

low_links : (ns : Contents) → Low (link_lines ns)
low_links ns = low_then _ _ (low_body link_bytes link_rules ns.nodes.value ns.links.value) (λ ls. low_then _ _ (low_refuse_if (Reached (site_of ns.nodes.value ls) → ⊥) Unreached) (λ _. low_give ls))

low_turns : (ns : Contents) → Low (turn_lines ns)
low_turns ns = low_then _ _ (low_body turn_bytes turn_rules ns.nodes.value ns.turns.value) (λ ts. low_then _ _ (low_refuse_if ((0 < length ts) × (Named ns.nodes.value ts → ⊥)) Missing) (λ _. low_give ts))

low_lines : (ns : Contents) → Low (lines ns)
low_lines ns =
    low_then _ _ (low_links ns) (λ ls.
    low_then _ _ (low_body fault_bytes fault_rules (places ns) ns.faults.value) (λ fs.
    low_then _ _ (low_turns ns) (λ ts.
    low_then _ _ low_ending (λ _. low_give (record { links = ls; faults = fs; turns = ts })))))

-- what comes after the size
abbrev after_size : Spot → Out Sheet → Type 0
after_size = and_then contents (λ ns. and_then (lines ns) (λ ls. give (record { contents = ns; lists = ls })))

rest_low : Low after_size
rest_low = low_then {B = Sheet} contents (λ ns. and_then (lines ns) (λ ls. give (record { contents = ns; lists = ls }))) low_contents (λ ns. low_then {B = Sheet} (lines ns) (λ ls. give (record { contents = ns; lists = ls })) (low_lines ns) (λ ls. low_give (record { contents = ns; lists = ls })))

declined_low : (bytes : List ℕ) (e : SheetFault) → Declines bytes e → line_of e ≤ 65537
unfolding weight
declined_low bytes e (inl h) = let l = ap line_of h.1 in omega arith
declined_low bytes e (inr h) =
    let at : h.1.0 ≡ start bytes = h.1.1.1 in
    let w = ap weight at in
    let under = h.1.1.0 in
    let rest = rest_low.stops h.1.0 e h.1.2 in
    ⊎_elim (λ (over : 65536 < length bytes). absurd (under over)) (λ (le : length bytes ≤ 65536). omega arith) (cases_lt 65536 (length bytes))

-- the lists have room or not
room? : (l : Lists) → Room l ⊎ (Room l → ⊥)
room? l =
    ⊎_elim (λ (few : length l.links < 1024). inr (λ r. let k = r.0 in omega arith))
    (λ ls. ⊎_elim (λ (few : length l.faults < 4096). inr (λ r. let k = r.1 in omega arith))
    (λ fs. ⊎_elim (λ (few : length l.turns < 1024). inr (λ r. let k = r.2 in omega arith)) (λ ts. inl (ls, fs, ts)) (cases_lt (length l.turns) 1024)) (cases_lt (length l.faults) 4096)) (cases_lt (length l.links) 1024)

-- a declined sheet's line has at most five digits
pub line_low : (bytes : List ℕ) (l : Lists) (a : Option Site) (e : SheetFault) (m : Lists) (z : Option Site) → ReadSheet bytes l a (Err e) m z → line_of e < 100000
line_low bytes l a e m z h = ⊎_elim (λ room. let k = declined_low bytes e (h.judged room) in omega arith) short (room? l)
  where
    short : (Room l → ⊥) → line_of e < 100000
    short none =
        let is : ◌≡◌ {A = Result Contents SheetFault} (Err e) (Err (Refused Short 0)) = (h.short none).0 in
        let same : e ≡ Refused Short 0 = cc in
        let k = ap line_of same in
        omega arith

-- a sheet is accepted only where the lists have room
pub room_of : (bytes : List ℕ) (l : Lists) (a : Option Site) (ns : Contents) (m : Lists) (z : Option Site) → ReadSheet bytes l a (Ok ns) m z → Room l
room_of bytes l a ns m z h = ⊎_elim (λ room. room) never (room? l)
  where
    never : (Room l → ⊥) → Room l
    never none =
        let is : ◌≡◌ {A = Result Contents SheetFault} (Ok ns) (Err (Refused Short 0)) = (h.short none).0 in
        let zero : ◌≡◌ {A = ℕ} 0 1 = cc in
        absurd (omega arith)

-- so an accepted sheet's site stands in its place
pub sited : (bytes : List ℕ) (l : Lists) (a : Option Site) (ns : Contents) (m : Lists) (z : Option Site) → ReadSheet bytes l a (Ok ns) m z → Sited a m (Ok ns) z
sited bytes l a ns m z h = h.sited (room_of bytes l a ns m z h)
