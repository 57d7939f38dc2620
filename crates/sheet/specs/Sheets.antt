-- Whole sheets: how one is written, and what the calls that read and write one answer and leave.
use Rattle.std.specs.Prelude.{◌≡◌, ℕ, ◌<◌, ◌≤◌, ◌⊎◌, List, [], ◌∷◌, ◌++◌, length, take, Ok, Err, Option, Result, MatchOption, slice_index_or}
use Rattle.std.specs.Borrow.{MutBor}
use Rattle.refusal.specs.declared.Refusal.TheVariants.{Short}
use Rattle.graph.specs.Model.{Reached}
use Rattle.site.specs.declared.site.Site.{Site}
use Rattle.site.specs.Sites.{model}
use Rattle.text.specs.Page.{put}
use Rattle.text.specs.Spots.{spot}
use Rattle.text.specs.declared.reader.Reader.{Reader}
use Rattle.text.specs.Number.{zero_number}
use Rattle.text.specs.declared.contents.ContentsLine.{ContentsLine}
use Rattle.text.specs.declared.contents.Word.TheVariants as word
use Rattle.text.specs.declared.records.LinkLine.{LinkLine}
use Rattle.text.specs.declared.records.FaultLine.{FaultLine}
use Rattle.text.specs.declared.records.TurnLine.{TurnLine}
use Rattle.sheet.specs.declared.fault.SheetFault.{SheetFault}
use Rattle.sheet.specs.declared.fault.SheetFault.TheVariants.{Refused}
use Rattle.sheet.specs.declared.contents.Contents.{Contents}
use Rattle.sheet.specs.declared.draft.Draft.{Draft}
use Rattle.sheet.specs.declared.lent.Lists.{Lists as Lent}
use Rattle.sheet.specs.Body.{Good, Out, passed, refused}
use Rattle.text.specs.Written.{lines_of}
use Rattle.text.specs.Lines.{contents_bytes, link_bytes, fault_bytes, turn_bytes}
use Rattle.sheet.specs.Kinds.{link_rules, fault_rules, turn_rules, site_of}
use Rattle.sheet.specs.Judge.{Lists, Sheet, Accepts, Declines, Named, places}

-- what a call on a reader gave
abbrev pub outcome : {A : Type 0} → Reader → Result A SheetFault → Out A
outcome z (Ok a) = passed a (spot z)
outcome z (Err e) = refused e

-- the first of two answers
abbrev pub first : {A B : Type 0} → Result (A × B) SheetFault → Result A SheetFault
first (Ok p) = Ok p.0
first (Err e) = Err e

-- three lent lists together
abbrev pub lists : List LinkLine → List FaultLine → List TurnLine → Lists
lists ls fs ts = record { links = ls; faults = fs; turns = ts }

-- the lists that a caller lends, and what a call that took them left behind
abbrev pub given : Lent → Lists
given l = lists l.links.now l.faults.now l.turns.now

abbrev pub left : MutBor (List LinkLine) × (MutBor (List FaultLine) × (MutBor (List TurnLine) × Unit {0})) → Lists
left l = lists l.0.now l.1.0.now l.1.1.0.now

-- the sheet that contents numbers and the first entries of the lists make
abbrev pub front : Contents → Lists → Lists
front ns l = record { links = take ns.links.value l.links; faults = take ns.faults.value l.faults; turns = take ns.turns.value l.turns }

abbrev pub gives : Contents → Lists → Sheet
gives ns l = record { contents = ns; lists = front ns l }

-- the contents and all entries of a draft
abbrev pub drafted : Draft → Sheet
drafted d = record { contents = d.contents; lists = lists d.links.now d.faults.now d.turns.now }

-- the contents lines of these numbers
abbrev pub heads : Contents → List ContentsLine
heads ns =
    record { word = word.Nodes; number = ns.nodes }
    ∷ (record { word = word.Links; number = ns.links } ∷ (record { word = word.Faults; number = ns.faults } ∷ (record { word = word.Turns; number = ns.turns } ∷ [])))

-- a sheet as it is written: the contents, the links, the faults, the turns
abbrev pub body_bytes : Lists → List ℕ
body_bytes l = lines_of link_bytes l.links ++ (lines_of fault_bytes l.faults ++ lines_of turn_bytes l.turns)

abbrev pub sheet_bytes : Sheet → List ℕ
sheet_bytes s = lines_of contents_bytes (heads s.contents) ++ body_bytes s.lists

-- each lent list has its limit's entries
abbrev pub Room : Lists → Type 0
Room l = (1024 ≤ length l.links) × (4096 ≤ length l.faults) × (1024 ≤ length l.turns)

-- the contents numbers are within their limits
pub record Within (ns : Contents) : Type 0 where
  pub nodes_some : 1 ≤ ns.nodes.value
  pub nodes_most : ns.nodes.value ≤ 256
  pub links_most : ns.links.value ≤ 1024
  pub faults_most : ns.faults.value ≤ 4096
  pub turns_most : ns.turns.value ≤ 1024

-- Reading. What comes of any bytes: the contents and the lists' first entries, or the refusal
abbrev pub Judged : List ℕ → Lists → Result Contents SheetFault → Type 0
Judged bytes l (Ok ns) = Accepts bytes (gives ns l)
Judged bytes l (Err e) = Declines bytes e

-- entries that are 0
abbrev pub no_link : LinkLine
no_link = record { a = zero_number; b = zero_number }

abbrev pub no_fault : FaultLine
no_fault = record { register = zero_number; value = zero_number }

abbrev pub no_turn : TurnLine
no_turn = record { node = zero_number }

-- every entry from a place on is 0
abbrev pub Zeros : {X : Type 0} → X → ℕ → List X → Type 0
Zeros zero from xs = (k : ℕ) → from ≤ k → slice_index_or xs k zero ≡ zero

-- entries past the read ones are 0; of a declined sheet every entry is
abbrev pub Cleared : Lists → Result Contents SheetFault → Type 0
Cleared l (Ok ns) = Zeros no_link ns.links.value l.links × Zeros no_fault ns.faults.value l.faults × Zeros no_turn ns.turns.value l.turns
Cleared l (Err e) = Zeros no_link 0 l.links × Zeros no_fault 0 l.faults × Zeros no_turn 0 l.turns

-- the place has the sheet's site; of a declined sheet it is as it was
abbrev pub Sited : Option Site → Lists → Result Contents SheetFault → Option Site → Type 0
Sited a l (Ok ns) z = MatchOption z ⊥ (λ s. model s ≡ site_of ns.nodes.value (take ns.links.value l.links))
Sited a l (Err e) z = z ≡ a

-- the lists are too short: nothing is read, and all stays
abbrev pub TooShort : Lists → Option Site → Result Contents SheetFault → Lists → Option Site → Type 0
TooShort l a r m z = (r ≡ Err (Refused Short 0)) × (m ≡ l) × (z ≡ a)

-- an accepted sheet is byte for byte what is written of its contents
abbrev pub Exact : List ℕ → Lists → Result Contents SheetFault → Type 0
Exact bytes l (Ok ns) = bytes ≡ sheet_bytes (gives ns l)
Exact bytes l (Err e) = Unit {0}

-- the outcome is the only one that the judgement allows
abbrev pub Sole : List ℕ → Lists → Result Contents SheetFault → Type 0
Sole bytes l r = ((s : Sheet) → Accepts bytes s → (r ≡ Ok s.contents) × (gives s.contents l ≡ s)) × ((e : SheetFault) → Declines bytes e → r ≡ Err e)

-- contents and lists that no check refuses
pub record Proper (s : Sheet) : Type 0 where
  pub small : length (sheet_bytes s) ≤ 65536
  pub limits : Within s.contents
  pub links_count : length s.lists.links ≡ s.contents.links.value
  pub links_good : Good link_rules s.contents.nodes.value [] s.lists.links
  pub reached : Reached (site_of s.contents.nodes.value s.lists.links)
  pub faults_count : length s.lists.faults ≡ s.contents.faults.value
  pub faults_good : Good fault_rules (places s.contents) [] s.lists.faults
  pub turns_count : length s.lists.turns ≡ s.contents.turns.value
  pub turns_good : Good turn_rules s.contents.nodes.value [] s.lists.turns
  pub named : 0 < length s.lists.turns → Named s.contents.nodes.value s.lists.turns

-- what is written of them reads back the same
abbrev pub Back : List ℕ → Lists → Result Contents SheetFault → Type 0
Back bytes l r = (s : Sheet) → Proper s → bytes ≡ sheet_bytes s → (r ≡ Ok s.contents) × (gives s.contents l ≡ s)

-- reading these bytes with lent lists l and a site's place a answers r and leaves the lists m and the place z
pub record ReadSheet (bytes : List ℕ) (l : Lists) (a : Option Site) (r : Result Contents SheetFault) (m : Lists) (z : Option Site) : Type 0 where
  pub short : (Room l → ⊥) → TooShort l a r m z
  pub judged : Room l → Judged bytes m r
  pub cleared : Room l → Cleared m r
  pub sited : Room l → Sited a m r z
  pub sole : Room l → Sole bytes m r
  pub exact : Room l → Exact bytes m r
  pub back : Room l → Back bytes m r

-- Writing. The page has the sheet at its start and is else as it was; or the page stays: the lists are too short, reading would
-- decline the sheet for this cause, or the page has no room
abbrev pub Wrote : Contents → Lists → List ℕ → Result ℕ SheetFault → List ℕ → Type 0
Wrote ns l page (Ok n) after =
    Room l × Proper (gives ns l) × (n ≡ length (sheet_bytes (gives ns l))) × (n ≤ length page) × (after ≡ put 0 (sheet_bytes (gives ns l)) page)
Wrote ns l page (Err e) after =
    (after ≡ page) × (((Room l → ⊥) × (e ≡ Refused Short 0)) ⊎ ((Room l × Declines (sheet_bytes (gives ns l)) e) ⊎ (Room l × Proper (gives ns l) × (length page < length (sheet_bytes (gives ns l))) × (e ≡ Refused Short 0))))

-- any reading of what was written gives the same contents and lists
abbrev pub Returns : Contents → Lists → List ℕ → Result ℕ SheetFault → Type 0
Returns ns l after (Ok n) = (m : Lists) (r : Result Contents SheetFault) → Judged (take n after) m r → (r ≡ Ok ns) × (gives ns m ≡ gives ns l)
Returns ns l after (Err e) = Unit {0}
