-- The rounds and awaited nodes of the worked examples.
use Rattle.std.proofs.Common.{◌≡◌, ℕ, ◌-◌, Bool, false, List, [], ◌∷◌, refl, ap, ◌∙◌, subst, lit<}
use Rattle.lists.specs.Members.{Among}
use Rattle.rounds.specs.Forest.{Counted as CountedNodes}
use Rattle.rounds.specs.Marks.{Tracks, marked, count_marked}
use Rattle.rounds.proofs.RoundsLaws.{unique}
use Rattle.rounds.proofs.MarksLaws.{tracks_first, tracks_next, marks_count}
use Rattle.rounds.proofs.Counting.{counted_unique}
use Rattle.protocol.specs.Cases.{five}
use Rattle.protocol.proofs.CasesLaws.{table as protocol_table}
use Rattle.protocol.specs.Protocols.{Protocol, Laws}
use Rattle.promise.specs.Cases.{Counted, TableStands}
use Rattle.promise.proofs.Sound.{sound}

-- a list of turns has one counter
tracks_one : (n k j : ℕ) (f g : ℕ → Bool) (ts : List ℕ) → Tracks n k f ts → Tracks n j g ts → (k ≡ j) × (count_marked n f ≡ count_marked n g)
tracks_one n k j f g ts a b =
    let e = unique n k j ts a.0 b.0 a.1 b.1 in
    (e.0, counted_unique (subst (λ r. CountedNodes (λ v. Among v r) n (count_marked n f)) e.1 (marks_count n f a.0 a.2)) (marks_count n g b.0 b.2))

-- the marks after the turns of a list, oldest first, in one open round
abbrev named : List ℕ → (ℕ → Bool) → ℕ → Bool
named [] f = f
named (v ∷ vs) f = named vs (marked f v)

abbrev none : ℕ → Bool
none w = false

first_two : Tracks 5 0 (named (0 ∷ 0 ∷ []) none) (0 ∷ 0 ∷ [])
first_two =
    let start : Tracks 5 0 none [] = tracks_first 5 none (lit< tt) (λ w l. refl) in
    let one : Tracks 5 0 (named (0 ∷ []) none) (0 ∷ []) = tracks_next 5 0 0 0 none (named (0 ∷ []) none) [] (lit< tt) start (record { rounds = refl; marks = λ w l. refl }) in
    tracks_next 5 0 0 0 (named (0 ∷ []) none) (named (0 ∷ 0 ∷ []) none) (0 ∷ []) (lit< tt) one (record { rounds = refl; marks = λ w l. refl })

four_named : Tracks 5 0 (named (0 ∷ 0 ∷ 1 ∷ 2 ∷ 3 ∷ []) none) (0 ∷ 0 ∷ 1 ∷ 2 ∷ 3 ∷ [])
four_named =
    let two : Tracks 5 0 (named (0 ∷ 0 ∷ 1 ∷ []) none) (0 ∷ 0 ∷ 1 ∷ []) = tracks_next 5 1 0 0 (named (0 ∷ 0 ∷ []) none) (named (0 ∷ 0 ∷ 1 ∷ []) none) (0 ∷ 0 ∷ []) (lit< tt) first_two (record { rounds = refl; marks = λ w l. refl }) in
    let three : Tracks 5 0 (named (0 ∷ 0 ∷ 1 ∷ 2 ∷ []) none) (0 ∷ 0 ∷ 1 ∷ 2 ∷ []) = tracks_next 5 2 0 0 (named (0 ∷ 0 ∷ 1 ∷ []) none) (named (0 ∷ 0 ∷ 1 ∷ 2 ∷ []) none) (0 ∷ 0 ∷ 1 ∷ []) (lit< tt) two (record { rounds = refl; marks = λ w l. refl }) in
    tracks_next 5 3 0 0 (named (0 ∷ 0 ∷ 1 ∷ 2 ∷ []) none) (named (0 ∷ 0 ∷ 1 ∷ 2 ∷ 3 ∷ []) none) (0 ∷ 0 ∷ 1 ∷ 2 ∷ []) (lit< tt) three (record { rounds = refl; marks = λ w l. refl })

all_named : Tracks 5 1 none (0 ∷ 0 ∷ 1 ∷ 2 ∷ 3 ∷ 4 ∷ [])
all_named = tracks_next 5 4 0 1 (named (0 ∷ 0 ∷ 1 ∷ 2 ∷ 3 ∷ []) none) none (0 ∷ 0 ∷ 1 ∷ 2 ∷ 3 ∷ []) (lit< tt) four_named (record { rounds = refl; marks = λ w l. refl })

counted : (p : Protocol) → Laws five p → (ts : List ℕ) (k c : ℕ) (f : ℕ → Bool) → Tracks 5 k f ts → 5 - count_marked 5 f ≡ c → Counted p ts k c
counted p laws ts k c f t w regs own es z s e =
    let q = tracks_one 5 z.rounds k z.named f ts (subst (Tracks 5 z.rounds z.named) e (sound five p (lit< tt) laws regs own es z s).0.tracks) t in
    (q.0, ap (λ x. 5 - x) q.1 ∙ w)

pub table : (p : Protocol) → TableStands p
table p = (protocol_table, λ laws. record { four_named = counted p laws _ 0 1 (named (0 ∷ 0 ∷ 1 ∷ 2 ∷ 3 ∷ []) none) four_named refl; all_named = counted p laws _ 1 5 none all_named refl })
