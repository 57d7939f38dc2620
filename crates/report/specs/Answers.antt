-- What the program answers to a sheet, and what its call leaves.
use Rattle.std.specs.Prelude.{◌≡◌, ℕ, ◌<◌, ◌≤◌, List, [], ◌∷◌, ◌++◌, length, take, Ok, Err, codes, decimal, Option, Result}
use Rattle.refusal.specs.Numbers.{number_of}
use Rattle.refusal.specs.declared.Refusal.{Refusal}
use Rattle.refusal.specs.declared.Refusal.TheVariants.{Short}
use Rattle.protocol.specs.Stack.{stack}
use Rattle.text.specs.Page.{put}
use Rattle.site.specs.declared.site.Site.{Site}
use Rattle.sheet.specs.declared.contents.Contents.{Contents}
use Rattle.sheet.specs.declared.fault.SheetFault.{SheetFault}
use Rattle.sheet.specs.Faults.{cause_of, line_of}
use Rattle.sheet.specs.Judge.{Lists}
use Rattle.sheet.specs.Kinds.{site_of}
use Rattle.sheet.specs.Sheets.{ReadSheet}
use Rattle.report.specs.declared.fault.ProgramFault.{ProgramFault}
use Rattle.report.specs.declared.fault.ProgramFault.TheVariants.{Sheet}

-- the two lines
abbrev pub bound_line : ℕ → List ℕ
bound_line b = codes "BOUND;" ++ (decimal b ++ (10 ∷ []))

abbrev pub refusal_line : ℕ → ℕ → List ℕ
refusal_line number line = codes "REFUSED;" ++ (decimal number ++ (59 ∷ (decimal line ++ (10 ∷ []))))

-- the bound of the stack at the site of a sheet that was read
abbrev pub bound_of : Contents → Lists → ℕ
bound_of ns l = (stack (site_of ns.nodes.value (take ns.links.value l.links))).bound

-- the answer to a sheet by what reading it gave
abbrev pub told : Result Contents SheetFault → Lists → List ℕ
told (Ok ns) l = bound_line (bound_of ns l)
told (Err e) l = refusal_line (number_of (cause_of e)) (line_of e)

-- bytes at the start of a page, whose rest stays; without room the page stays
abbrev pub Put : List ℕ → List ℕ → Result ℕ Refusal → List ℕ → Type 0
Put bs page (Ok n) after = (n ≡ length bs) × (n ≤ length page) × (after ≡ put 0 bs page)
Put bs page (Err e) after = (e ≡ Short) × (length page < length bs) × (after ≡ page)

-- the sheet was read and has this bound, or it was declined
abbrev pub Bounded : List ℕ → Lists → Option Site → Result ℕ ProgramFault → Lists → Option Site → Type 0
Bounded bytes l a (Ok b) m z = (ns : Contents) × ReadSheet bytes l a (Ok ns) m z × (b ≡ bound_of ns m) × (b ≤ 768)
Bounded bytes l a (Err (Sheet e)) m z = ReadSheet bytes l a (Err e) m z

-- the sheet was read, whatever came of it, and the answer to that stands on the page
abbrev pub Answered : List ℕ → Lists → Option Site → List ℕ → Result ℕ Refusal → Lists → Option Site → List ℕ → Type 0
Answered bytes l a page r m z after = (o : Result Contents SheetFault) × ReadSheet bytes l a o m z × Put (told o m) page r after
