-- The outcome of a whole sheet from those of its parts.
use Rattle.std.proofs.Common.{◌≡◌, ℕ, ◌<◌, List, length, Ok, Option, Result, refl, subst, inl, inr}
use Rattle.site.specs.declared.site.Site.{Site}
use Rattle.text.specs.Spots.{Spot}
use Rattle.sheet.specs.declared.contents.Contents.{Contents}
use Rattle.sheet.specs.declared.fault.SheetFault.{SheetFault}
use Rattle.sheet.specs.Body.{passed, refused}
use Rattle.sheet.specs.Judge.{Accepts, Declines, Lists, contents, lines, start}
use Rattle.sheet.specs.Sheets.{Cleared, Judged, ReadSheet, Room, Sited, front}
use Rattle.sheet.proofs.Exactly.{back, exactly}
use Rattle.sheet.proofs.Judgement.{sole}

module _ (bytes : List ℕ) (small : 65536 < length bytes → ⊥) (p : Spot) (at : p ≡ start bytes) where
  pub contents_stop : (e : SheetFault) → contents p (refused e) → Declines bytes e
  contents_stop e h = inr (tt, (p, (small, at), inl h))

  pub lines_stop : (ns : Contents) (q : Spot) (e : SheetFault) → contents p (passed ns q) → lines ns q (refused e) → Declines bytes e
  lines_stop ns q e c h = inr (tt, (p, (small, at), inr (ns, (q, c, inl h))))

  pub sheet_passed : (ns : Contents) (q z : Spot) (ls : Lists) → contents p (passed ns q) → lines ns q (passed ls z) → Accepts bytes (record { contents = ns; lists = ls })
  sheet_passed ns q z ls c h = (z, (tt, (p, (small, at), (ns, (q, c, (ls, (z, h, (refl, refl))))))))

pub judged_same : (bytes : List ℕ) (ns : Contents) (l m : Lists) → front ns l ≡ front ns m → Judged bytes l (Ok ns) → Judged bytes m (Ok ns)
judged_same bytes ns l m e h = subst (λ (f : Lists). Accepts bytes (record { contents = ns; lists = f })) e h

pub read_sheet_lem : (bytes : List ℕ) (l : Lists) (a : Option Site) (r : Result Contents SheetFault) (m : Lists) (z : Option Site) → Room l → Judged bytes m r → Cleared m r → Sited a m r z → ReadSheet bytes l a r m z
read_sheet_lem bytes l a r m z room judged cleared sited = record {
  short = λ few. absurd (few room);
  judged = λ _. judged;
  cleared = λ _. cleared;
  sited = λ _. sited;
  sole = λ _. sole bytes m r judged;
  exact = λ _. exactly bytes m r judged;
  back = λ _. back bytes m r judged;
}
