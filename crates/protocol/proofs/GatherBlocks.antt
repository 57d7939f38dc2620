-- Registers in blocks: where a node's stand, and what writing them leaves.
use Rattle.std.proofs.Common.{◌≡◌, ℕ, zero, suc, ◌<◌, List, length, get_or, sym, refl, ap, ◌∙◌, subst, inl, inr, arith, length-set}
use Rattle.std.specs.List.{AllByRecursion}
use Rattle.std.proofs.lemmas.List.{get_or-set_same, get_or-set_other}
use Rattle.std.proofs.ByRecursion.{All-set}
use Rattle.std.proofs.lemmas.Bool.{cases_eq}
use Rattle.protocol.specs.Protocols.{Registers}
use Rattle.protocol.specs.Gather.{block, write}

pub block_apart : (n i j v u : ℕ) → v < n → u < n → (v ≡ u → ⊥) → block n i v ≡ block n j u → ⊥
block_apart n zero zero v u l k ne e = ne e
block_apart n zero (suc j) v u l k ne e = omega arith
block_apart n (suc i) zero v u l k ne e = omega arith
block_apart n (suc i) (suc j) v u l k ne e = block_apart n i j v u l k ne (omega arith)

block_same : (n i j v : ℕ) → v < n → block n i v ≡ block n j v → i ≡ j
block_same n zero zero v l e = refl
block_same n zero (suc j) v l e = absurd (omega arith)
block_same n (suc i) zero v l e = absurd (omega arith)
block_same n (suc i) (suc j) v l e = ap suc (block_same n i j v l (omega arith))

module _ (n v : ℕ) (f : ℕ → ℕ) where
  pub write_length : (k : ℕ) (xs : List ℕ) → length (write n k v f xs) ≡ length xs
  write_length zero xs = refl
  write_length (suc k) xs = length-set (write n k v f xs) (block n k v) (f k) ∙ write_length k xs

  pub write_other : (k j : ℕ) (xs : List ℕ) → ((i : ℕ) → i < k → j ≡ block n i v → ⊥) → get_or (write n k v f xs) j 0 ≡ get_or xs j 0
  write_other zero j xs ne = refl
  write_other (suc k) j xs ne = get_or-set_other (write n k v f xs) (block n k v) j (f k) 0 (ne k (omega arith)) ∙ write_other k j xs (λ i l. ne i (omega arith))

  pub write_at : (k i : ℕ) (xs : List ℕ) → v < n → i < k → block n i v < length xs → get_or (write n k v f xs) (block n i v) 0 ≡ f i
  write_at zero i xs l lt room = absurd (omega arith)
  write_at (suc k) i xs l lt room =
      elim (cases_eq i k) [
        | inl e ↦ subst (λ j. get_or (write n (suc k) v f xs) (block n j v) 0 ≡ f j) (sym e) (get_or-set_same (write n k v f xs) (block n k v) (f k) 0 (let s = write_length k xs in let r = subst (λ j. block n j v < length xs) e room in omega arith))
        | inr e ↦ get_or-set_other (write n k v f xs) (block n k v) (block n i v) (f k) 0 (λ q. e (block_same n i k v l q)) ∙ write_at k i xs l (omega arith) room
      ]

  pub write_registers : (k size : ℕ) (xs : List ℕ) → ((i : ℕ) → i < k → f i < 65536) → Registers size xs → Registers size (write n k v f xs)
  write_registers k size xs small r = (write_length k xs ∙ r.0, all_write k small)
    where
      all_write : (k : ℕ) → ((i : ℕ) → i < k → f i < 65536) → AllByRecursion (λ x. x < 65536) (write n k v f xs)
      all_write zero small = r.1
      all_write (suc k) small = All-set (λ x. x < 65536) (write n k v f xs) (block n k v) (f k) (small k (omega arith)) (all_write k (λ i l. small i (omega arith)))
