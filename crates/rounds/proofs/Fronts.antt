-- Fronts of a list of turns, and of one turn more.
use Rattle.std.proofs.Common.{◌≡◌, ℕ, ◌⊎◌, List, [], ◌∷◌, ◌++◌, length, refl, ap, inl, inr, arith, length-append}

-- of two fronts of one list, the first is a front of the second, or the second a proper front of the first
pub fronts : (a b c d : List ℕ) → a ++ b ≡ c ++ d → ((e : List ℕ) × (a ++ e ≡ c) × (b ≡ e ++ d)) ⊎ ((x : ℕ) × (e : List ℕ) × (c ++ (x ∷ e) ≡ a))
fronts [] b c d q = inl (c, refl, q)
fronts (x ∷ a) b [] d q = inr (x, a, refl)
fronts (x ∷ a) b (y ∷ c) d q = elim (fronts a b c d (cc)) [ inl t ↦ inl (t.0, (let e = t.1 in cc), t.2) | inr t ↦ inr (t.0, t.1, (let e = t.2 in cc)) ]

-- a turn of ts and one more is the last, or a turn of ts
pub push_cases : (front : List ℕ) (u : ℕ) (back ts : List ℕ) (v : ℕ) → front ++ (u ∷ back) ≡ ts ++ (v ∷ []) → ((front ≡ ts) × (u ≡ v)) ⊎ ((e : List ℕ) × (front ++ (u ∷ e) ≡ ts))
push_cases [] u back [] v q = inl (refl, cc)
push_cases [] u back (y ∷ ts) v q = inr (ts, cc)
push_cases (x ∷ front) u back [] v q = let e = ap length q in let f = length-append front (u ∷ back) in absurd (omega arith)
push_cases (x ∷ front) u back (y ∷ ts) v q = elim (push_cases front u back ts v (cc)) [ inl t ↦ (let e = t.0 in inl (cc, t.1)) | inr t ↦ (let e = t.1 in inr (t.0, cc)) ]
