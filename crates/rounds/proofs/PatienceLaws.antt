-- Turns with dues cover by blocks, and blocks complete rounds.
use Rattle.std.proofs.Common.{◌≡◌, ℕ, zero, suc, ◌+◌, ◌*◌, ◌<◌, ◌≤◌, List, [], ◌∷◌, ◌++◌, length, take, drop, sym, ap, ◌∙◌, subst, inl, inr, mul-zero, mul-suc, arith, length-drop, take-append-drop, length-take}
use Rattle.std.proofs.lemmas.List.{drop-take, take-take}
use Rattle.std.proofs.lemmas.Bool.{cases_eq}
use Rattle.lists.specs.Members.{Among}
use Rattle.rounds.specs.Rounds.{Completes, Blocks}
use Rattle.rounds.specs.Patience.{Patient, DueWithin, Due, DuePatient, PatientCompletes, Laws}
use Rattle.rounds.proofs.RoundsLaws.{blocks, monotone}

due_within : (n w : ℕ) (xs : List ℕ) (due : ℕ → ℕ) → Due n w due xs → DueWithin n w due
due_within n w [] due h = h
due_within n w (x ∷ xs) due h = h.0

-- the dues after a front
due_after : (n w : ℕ) (front xs : List ℕ) (due : ℕ → ℕ) → Due n w due (front ++ xs) → (after : ℕ → ℕ) × Due n w after xs
due_after n w [] xs due h = (due, h)
due_after n w (x ∷ front) xs due h = due_after n w front xs h.1.0 h.1.2

-- a node has its turn before its due is past
due_turn : (n w : ℕ) (block back : List ℕ) (due : ℕ → ℕ) (v : ℕ) → v < n → Due n w due (block ++ back) → due v ≤ length block → Among v block
due_turn n w [] back due v l h q = let t = due_within n w back due h v l in absurd (omega arith)
due_turn n w (x ∷ block) back due v l h q = elim (cases_eq v x) [ inl e ↦ inl e | inr e ↦ inr (due_turn n w block back h.1.0 v l h.1.2 (let t = h.1.1 v l e in omega arith)) ]

pub due_patient : DuePatient
due_patient n w due xs h front block back e len v l =
    let t = due_after n w front (block ++ back) due (subst (Due n w due) (sym e) h) in
    let b = due_within n w (block ++ back) t.0 t.1 v l in
    due_turn n w block back t.0 v l t.1 (omega arith)

take_add : {X : Type 0} (m k : ℕ) (xs : List X) → take m xs ++ take k (drop m xs) ≡ take (m + k) xs
take_add m k xs = ap (λ z. take m xs ++ z) (sym (drop-take m k xs)) ∙ ap (λ z. z ++ drop m (take (m + k) xs)) (sym (take-take m (m + k) xs (omega arith))) ∙ take-append-drop m (take (m + k) xs)

patient_blocks : (n w k : ℕ) (xs : List ℕ) → Patient n w xs → w * k ≤ length xs → Blocks n k (take (w * k) xs)
patient_blocks n w zero xs p h = ap (λ z. take z xs) (mul-zero w)
patient_blocks n w (suc k) xs p h =
    let e = mul-suc w k in
    let front = take (w * k) xs in
    let later = drop (w * k) xs in
    (front, take w later, take_add (w * k) w xs ∙ ap (λ z. take z xs) (sym e), patient_blocks n w k xs p (omega arith), p front (take w later) (drop w later) (ap (λ z. front ++ z) (take-append-drop w later) ∙ take-append-drop (w * k) xs) (simp (length-take, length-drop) (omega arith)))

pub patient_completes : PatientCompletes
patient_completes n w k xs l p h = subst (Completes n k) (take-append-drop (w * k) xs) (monotone n k (take (w * k) xs) (drop (w * k) xs) l (blocks n k (take (w * k) xs) l (patient_blocks n w k xs p h)))

pub laws : Laws
laws = record { due = due_patient; completes = patient_completes }
