-- The first registers of a block: how many and how wide they are, what is read and written there, and whether a write changed them.
use Rattle.std.specs.Prelude.{◌≡◌, ℕ, zero, suc, ◌<◌, ◌≤◌, Bool, ◌||◌, List, [], ◌∷◌, ◌++◌, length, take, drop, replicate, slice_index, slice_set, refl}
use Rattle.std.proofs.Common.{sym, ap, ap₂, ◌∙◌, inl, inr, arith}
use Rattle.std.proofs.lemmas.List.{drop-set-lt, drop_at, get_or-take, length-take-le, take-append-drop, take-replicate, take_at}
use Rattle.std.proofs.lemmas.Bool.{or_cases, or_parts}
use Rattle.std.proofs.ByRecursion.{All-from_get_or, All-take}
use Rattle.std.specs.List.{AllByRecursion}
use Rattle.protocol.specs.Protocols.{Registers}
use Rattle.registers.specs.declared.Block.{Block}
use Rattle.registers.specs.Blocks.{front, held, register}
use Rattle.registers.specs.Lists.{Changed, Narrow}

-- registers of 16 bits are so one by one
pub narrow_all : (xs : List ℕ) → Narrow xs → AllByRecursion (λ x. x < 65536) xs
narrow_all xs h = All-from_get_or (λ x. x < 65536) xs 0 (λ i l. h i)

-- the front of what a write makes is the write in the front, which leaves it where it is past the end
pub take_set_in : (n : ℕ) (xs : List ℕ) (i x : ℕ) → take n (slice_set xs i x) ≡ slice_set (take n xs) i x
take_set_in zero xs i x = refl
take_set_in (suc n) [] i x = refl
take_set_in (suc n) (y ∷ xs) zero x = refl
take_set_in (suc n) (y ∷ xs) (suc i) x = ap (λ (zs : List ℕ). y ∷ zs) (take_set_in n xs i x)

-- where all from n on is as it was, the first n changed if any did
pub take_changed : (n : ℕ) (xs ys : List ℕ) (r : Bool) → drop n ys ≡ drop n xs → Changed xs r ys → Changed (take n xs) r (take n ys)
take_changed n xs ys r rest h = (λ t e. h.0 t (sym (take-append-drop n ys) ∙ ap₂ ◌++◌ e rest ∙ take-append-drop n xs), λ f. ap (take n) (h.1 f))

-- registers and then others changed if some of them did
pub either_changed : (n : ℕ) (xs ys zs ws : List ℕ) (a b : Bool) → length xs ≡ n → length zs ≡ n → Changed xs a zs → Changed ys b ws → Changed (xs ++ ys) (a || b) (zs ++ ws)
either_changed n xs ys zs ws a b k l p q = (
  λ t e.
      let first : zs ≡ xs = sym (take_at zs ws n l) ∙ ap (take n) e ∙ take_at xs ys n k in
      let second : ws ≡ ys = sym (drop_at zs ws n l) ∙ ap (drop n) e ∙ drop_at xs ys n k in
      elim (or_cases a b t) [ inl s ↦ p.0 s first | inr s ↦ q.0 s second ],
  λ f. let h = or_parts a b f in ap₂ ◌++◌ (p.1 h.0) (q.1 h.1),
)

module _ {room : ℕ} (n : ℕ) (b : Block room) where
  pub front_read : (i : ℕ) → i < n → slice_index (front n b) i ≡ register b i
  front_read i l = get_or-take n (held b) i 0 l

  pub front_zero : n ≤ room → held b ≡ replicate room 0 → front n b ≡ replicate n 0
  front_zero few e = ap (take n) e ∙ take-replicate n room 0 few

  pub front_registers : n ≤ room → Registers n (front n b)
  front_registers few =
      let full = sym b.values.ok.0 ∙ b.full in
      (length-take-le n (held b) (omega arith), All-take (λ x. x < 65536) n (held b) (narrow_all (held b) b.narrow))

  -- a write: in the front, it changed the front if it changed the block
  module _ (a : Block room) (i x : ℕ) (w : held a ≡ slice_set (held b) i x) where
    pub front_set : front n a ≡ slice_set (front n b) i x
    front_set = ap (take n) w ∙ take_set_in n (held b) i x

    pub front_changed : (r : Bool) → i < n → Changed (held b) r (held a) → Changed (front n b) r (front n a)
    front_changed r l h = take_changed n (held b) (held a) r (ap (drop n) w ∙ drop-set-lt n (held b) i x l) h
