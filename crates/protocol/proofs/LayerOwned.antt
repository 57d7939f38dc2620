-- Rules by which every node writes registers of its own: when h + 1 rounds make all of them stay.
use Rattle.std.proofs.Common.{◌≡◌, ℕ, suc, ◌<◌, ◌≤◌, List, length, get_or, sym, ap, ◌∙◌, inl, inr, arith}
use Rattle.std.proofs.lemmas.List.{ext_get_or}
use Rattle.lists.proofs.Decisions.{Decided}
use Rattle.rounds.specs.Runs.{Kept, From}
use Rattle.rounds.proofs.PlacesLaws.{fixpoint}

-- what a turn of v writes is a function of what v sees, and only turns of nodes of lower places change what v sees
pub record Owned (n h : ℕ) (step : ℕ → List ℕ → List ℕ) (Ok : List ℕ → Type 0) (place : ℕ → ℕ) (Mine : ℕ → ℕ → Type 0) (X : Type 0) (sees : ℕ → List ℕ → X) : Type 0 where
  pub low : (v : ℕ) → v < n → place v ≤ h
  pub kept : Kept step n Ok
  pub same_length : (v : ℕ) (xs : List ℕ) → length (step v xs) ≡ length xs
  pub mine? : (v i : ℕ) → Decided (Mine v i)
  pub separate : (v u i : ℕ) → v < n → u < n → (u ≡ v → ⊥) → Mine v i → Mine u i → ⊥
  pub others : (v i : ℕ) (xs : List ℕ) → v < n → (Mine v i → ⊥) → get_or (step v xs) i 0 ≡ get_or xs i 0
  pub mine : (v i : ℕ) (xs ys : List ℕ) → v < n → Ok xs → Ok ys → sees v xs ≡ sees v ys → Mine v i → get_or (step v xs) i 0 ≡ get_or (step v ys) i 0
  pub seen : (v u : ℕ) (xs : List ℕ) → v < n → u < n → place v ≤ place u → Ok xs → sees v (step u xs) ≡ sees v xs

module _ (n h : ℕ) (step : ℕ → List ℕ → List ℕ) (Ok : List ℕ → Type 0) (place : ℕ → ℕ) (Mine : ℕ → ℕ → Type 0) (X : Type 0) (sees : ℕ → List ℕ → X) (own : Owned n h step Ok place Mine X sees) where
  again : (v : ℕ) (xs : List ℕ) → v < n → Ok xs → step v (step v xs) ≡ step v xs
  again v xs l ok =
      ext_get_or 0 (step v (step v xs)) (step v xs) (own.same_length v (step v xs))
      (λ i _. elim (own.mine? v i) [ inl a ↦ own.mine v i (step v xs) xs l (own.kept v xs l ok) ok (own.seen v v xs l l (omega arith) ok) a | inr a ↦ own.others v i (step v xs) l a ])

  apart : (v u : ℕ) (xs : List ℕ) → v < n → u < n → (u ≡ v → ⊥) → place v ≤ place u → Ok xs → step v xs ≡ xs → step v (step u xs) ≡ step u xs
  apart v u xs l k ne p ok e =
      ext_get_or 0 (step v (step u xs)) (step u xs) (own.same_length v (step u xs))
      (λ i _. elim (own.mine? v i) [
        | inl a ↦ own.mine v i (step u xs) xs l (own.kept u xs k ok) ok (own.seen v u xs l k p ok) a ∙ ap (λ z. get_or z i 0) e ∙ sym (own.others u i xs k (λ b. own.separate v u i l k ne a b))
        | inr a ↦ own.others v i (step u xs) l a
      ])

  pub owned_settles : 0 < n → From step n Ok (suc h) (λ xs. Ok xs × ((v : ℕ) → v < n → step v xs ≡ xs))
  owned_settles pos = fixpoint (List ℕ) step Ok n h place pos own.low own.kept again apart
