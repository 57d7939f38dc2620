-- Writes one after the other: whether they changed the registers.
use Rattle.std.proofs.Common.{◌≡◌, ℕ, ◌+◌, ◌<◌, Bool, ◌||◌, List, get_or, drop, set, sym, ap, ◌∙◌, inl, inr, arith}
use Rattle.std.proofs.lemmas.List.{drop-drop, drop-set-lt, get_or-drop, set-get_or, set-set}
use Rattle.std.proofs.lemmas.Bool.{or_cases, or_parts}
use Rattle.protocol.specs.Rank.{put}
use Rattle.protocol.proofs.RankSlots.{put_other}
use Rattle.registers.specs.Lists.{Changed}

-- what is not written back to what it was has changed if either did
both_changed : (xs ys zs : List ℕ) (a b : Bool) → (zs ≡ xs → ys ≡ xs) → Changed xs a ys → Changed ys b zs → Changed xs (a || b) zs
both_changed xs ys zs a b back h k = (
  λ t e. elim (or_cases a b t) [ inl s ↦ h.0 s (back e) | inr s ↦ k.0 s (e ∙ sym (back e)) ],
  λ f. let p = or_parts a b f in k.1 p.1 ∙ h.1 p.0,
)

get_d_from : (k : ℕ) (xs ys : List ℕ) → drop k ys ≡ drop k xs → get_or ys k 0 ≡ get_or xs k 0
get_d_from k xs ys e =
    let z : k ≡ k + 0 = omega arith in
    ap (λ (i : ℕ). get_or ys i 0) z ∙ sym (get_or-drop k ys 0 0) ∙ ap (λ (zs : List ℕ). get_or zs 0 0) e ∙ get_or-drop k xs 0 0 ∙ ap (λ (i : ℕ). get_or xs i 0) (sym z)

-- a write at a place from which on all is as it was
module _ (xs ys zs : List ℕ) (k x : ℕ) (a b : Bool) (h : Changed xs a ys) (rest : drop k ys ≡ drop k xs) (w : zs ≡ set ys k x) where
  pub next_changed : Changed ys b zs → Changed xs (a || b) zs
  next_changed q =
      let old = get_or ys k 0 in
      let back : zs ≡ xs → ys ≡ xs = λ e.
      sym (set-set ys k x old ∙ set-get_or ys k 0) ∙ ap (λ (us : List ℕ). set us k old) (sym w ∙ e) ∙ ap (set xs k) (get_d_from k xs ys rest) ∙ set-get_or xs k 0 in
      both_changed xs ys zs a b back h q

  pub next_rest : drop (k + 1) zs ≡ drop (k + 1) xs
  next_rest = ap (drop (k + 1)) w ∙ drop-set-lt (k + 1) ys k x (omega arith) ∙ sym (drop-drop 1 k ys) ∙ ap (drop 1) rest ∙ drop-drop 1 k xs

-- a write, and then others at later places
pub later_changed : (xs ys zs us : List ℕ) (v x i : ℕ) (a b : Bool) → v < i → ys ≡ set xs v x → zs ≡ put ys i us → Changed xs a ys → Changed ys b zs → Changed xs (a || b) zs
later_changed xs ys zs us v x i a b l w p h k =
    let back : zs ≡ xs → ys ≡ xs = λ e.
    let old : get_or ys v 0 ≡ get_or xs v 0 = sym (put_other us ys i v (inl l)) ∙ ap (λ (ws : List ℕ). get_or ws v 0) (sym p ∙ e) in
    sym (set-get_or ys v 0) ∙ ap (set ys v) old ∙ ap (λ (ws : List ℕ). set ws v (get_or xs v 0)) w ∙ set-set xs v x (get_or xs v 0) ∙ set-get_or xs v 0 in
    both_changed xs ys zs a b back h k
