-- Sheets that no check of the writer refuses, and how they are written.
use Rattle.std.proofs.Common.{◌≡◌, ℕ, ◌+◌, ◌<◌, ◌≤◌, List, length, take, drop, Some, None, Option, Ok, Err, Result, sym, refl, ap, ◌∙◌, subst, inl, inr, arith}
use Rattle.std.specs.Option.{ok_or}
use Rattle.std.proofs.lemmas.List.{take_at}
use Rattle.refusal.specs.declared.Refusal.{Refusal}
use Rattle.text.specs.Written.{SizeWithin}
use Rattle.text.specs.Page.{put}
use Rattle.text.specs.Page.{Wrote as WroteBytes}
use Rattle.sheet.specs.declared.contents.Contents.{Contents}
use Rattle.sheet.specs.declared.fault.SheetFault.{SheetFault}
use Rattle.sheet.specs.Checking.{ContentsChecked, Counts, LinesChecked, SheetChecked}
use Rattle.sheet.specs.Judge.{Declines, Lists, Sheet, start}
use Rattle.sheet.specs.Sheets.{Proper, Returns, Room, Within, Wrote, body_bytes, gives, sheet_bytes}
use Rattle.sheet.proofs.Exactly.{after_contents, back, contents_pass}
use Rattle.sheet.proofs.Outcomes.{contents_stop, lines_stop}

module _ (ns : Contents) (l : Lists) where
  abbrev s : Sheet
  s = record { contents = ns; lists = l }

  pub sheet_at_contents : (e : SheetFault) → ContentsChecked ns (Err e) → SheetChecked s (Err e)
  sheet_at_contents e h small = contents_stop (sheet_bytes s) (λ (over : 65536 < length (sheet_bytes s)). omega arith) (start (sheet_bytes s)) refl e (h (body_bytes l))

  pub sheet_at_lines : (r : Result (Unit {0}) SheetFault) → Within ns → Counts ns l → LinesChecked ns l r → SheetChecked s r
  sheet_at_lines (Ok u) w c h = λ small. record {
    small = small;
    limits = w;
    links_count = c.0 w.links_most;
    links_good = h.0.0;
    reached = h.0.1;
    faults_count = c.1 w.faults_most;
    faults_good = h.1;
    turns_count = c.2 w.turns_most;
    turns_good = h.2.0;
    named = h.2.1;
  }
  sheet_at_lines (Err e) w c h = λ small.
      lines_stop (sheet_bytes s) (λ (over : 65536 < length (sheet_bytes s)). omega arith) (start (sheet_bytes s)) refl ns (after_contents l) e (contents_pass s w) h

-- a size that is told
pub size_told : (bs : List ℕ) (most : ℕ) (o : Option ℕ) (e : Refusal) (n : ℕ) → SizeWithin bs most o → ok_or o e ≡ Ok n → (n ≡ length bs) × (n ≤ most)
size_told bs most (Some k) e n h is =
    let same : k ≡ n = cc in
    let a = h.0 in
    let b = h.1 in
    (omega arith, omega arith)
size_told bs most None e n h is = absurd cc

-- what was written at the start of a page reads back the same
pub written_returns : (ns : Contents) (l : Lists) (n : ℕ) (page after : List ℕ) → Proper (gives ns l) → n ≡ length (sheet_bytes (gives ns l)) → after ≡ put 0 (sheet_bytes (gives ns l)) page → Returns ns l after (Ok n)
written_returns ns l n page after p len is m r judged =
    let bs = sheet_bytes (gives ns l) in
    let whole : take n after ≡ bs = ap (λ (x : List ℕ). take n x) is ∙ take_at bs (drop (0 + length bs) page) n (sym len) in
    back (take n after) m r judged (gives ns l) p whole

-- the parts of the writer together: s is the sheet of the lists' first entries
module _ (ns : Contents) (l : Lists) (s : Sheet) (same : s ≡ gives ns l) (room : Room l) (page : List ℕ) where
  module _ (small : length (sheet_bytes s) ≤ 65536) where
    pub wrote_declined : (e : SheetFault) → SheetChecked s (Err e) → Wrote ns l page (Err e) page
    wrote_declined e h = (refl, inr (inl (room, subst (λ (x : Sheet). Declines (sheet_bytes x) e) same (h small))))

    module _ (checked : SheetChecked s (Ok tt)) where
      proper : Proper (gives ns l)
      proper = subst Proper same (checked small)

      pub wrote_all : (n : ℕ) (after : List ℕ) → WroteBytes (sheet_bytes s) 0 page (Some n) after → Wrote ns l page (Ok n) after × Returns ns l after (Ok n)
      wrote_all n after h =
          let w : WroteBytes (sheet_bytes (gives ns l)) 0 page (Some n) after = subst (λ (x : Sheet). WroteBytes (sheet_bytes x) 0 page (Some n) after) same h in
          let fits = w.0 in
          let n-is = w.1 in
          ((room, proper, omega arith, omega arith, w.2), written_returns ns l n page after proper (omega arith) w.2)
