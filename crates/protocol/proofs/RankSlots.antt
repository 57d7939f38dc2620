-- Slots of ports: where each stands, what is put there, and what writing them leaves.
use Rattle.std.proofs.Common.{◌≡◌, ℕ, zero, suc, ◌+◌, ◌<◌, ◌≤◌, min, cond, eqb, ◌⊎◌, List, [], ◌∷◌, length, get_or, take, set, sym, refl, ap, ◌∙◌, subst, inl, inr, arith, length-set}
use Rattle.std.specs.List.{AllByRecursion}
use Rattle.std.proofs.lemmas.List.{get_or-set_same, get_or-set_other}
use Rattle.std.proofs.ByRecursion.{All-set}
use Rattle.std.proofs.lemmas.Bool.{cases_eq, cond-true, eq-eqb}
use Rattle.std.proofs.lemmas.Bool.Decides.{eqb_tells}
use Rattle.lists.specs.Members.{Among}
use Rattle.graph.specs.Model.{Model, ports, arcs_before}
use Rattle.rounds.specs.Forest.{sum_over}
use Rattle.protocol.specs.declared.Output.{Output}
use Rattle.protocol.specs.Layers.{children_among}
use Rattle.protocol.specs.Rank.{port_to, earlier, slots, put}
use Rattle.protocol.proofs.LayerForest.{parents}

-- arcs of different nodes are apart
pub arcs_next : (m : Model) (v u : ℕ) → v < u → arcs_before m v + length (ports m v) ≤ arcs_before m u
arcs_next m v zero h = absurd (omega arith)
arcs_next m v (suc u) h = elim (cases_eq v u) [ inl e ↦ subst (λ z. arcs_before m v + length (ports m v) ≤ arcs_before m z + length (ports m z)) e (omega arith) | inr e ↦ (let t = arcs_next m v u (omega arith) in omega arith) ]

pub port_low : (v : ℕ) (xs : List ℕ) → Among v xs → port_to v xs < length xs
port_low v [] m = absurd m
port_low v (x ∷ xs) (inl q) = elim (eqb_tells x v) [ inl e ↦ rw e.0 (omega arith) | inr e ↦ absurd (e.1 (sym q)) ]
port_low v (x ∷ xs) (inr q) = let r = port_low v xs q in elim (eqb_tells x v) [ inl e ↦ rw e.0 (omega arith) | inr e ↦ rw e.0 (omega arith) ]

pub port_at : (v : ℕ) (xs : List ℕ) → Among v xs → get_or xs (port_to v xs) 0 ≡ v
port_at v [] m = absurd m
port_at v (x ∷ xs) (inl q) = elim (eqb_tells x v) [ inl e ↦ rw e.0 e.1 | inr e ↦ absurd (e.1 (sym q)) ]
port_at v (x ∷ xs) (inr q) = let r = port_at v xs q in elim (eqb_tells x v) [ inl e ↦ rw e.0 e.1 | inr e ↦ rw e.0 r ]

module _ (n : ℕ) (t : ℕ → Output) (w : ℕ) where
  pub slots_length : (xs : List ℕ) (r : ℕ) → length (slots n t w r xs) ≡ length xs
  slots_length [] r = refl
  slots_length (x ∷ xs) r =
      let a = slots_length xs (r + (t x).count) in let b = slots_length xs r in
      elim (eqb_tells (parents t x) (suc w)) [ inl e ↦ rw e.0 (ap suc a) | inr e ↦ rw e.0 (ap suc b) ]

  pub slots_small : n ≤ 256 → (xs : List ℕ) (r : ℕ) → AllByRecursion (λ x. x < 65536) (slots n t w r xs)
  slots_small few [] r = tt
  slots_small few (x ∷ xs) r =
      let a = slots_small few xs (r + (t x).count) in let b = slots_small few xs r in
      elim (eqb_tells (parents t x) (suc w)) [ inl e ↦ rw e.0 (omega arith, a) | inr e ↦ rw e.0 (omega arith, b) ]

  -- the slot at a port
  pub slots_at : (xs : List ℕ) (r j : ℕ) → j < length xs → get_or (slots n t w r xs) j 0 ≡ cond (eqb (parents t (get_or xs j 0)) (suc w)) (min n (r + sum_over (λ c. (t c).count) (children_among t w (take j xs)))) 0
  slots_at [] r j l = absurd (omega arith)
  slots_at (x ∷ xs) r zero l = elim (eqb_tells (parents t x) (suc w)) [ inl e ↦ rw e.0 (omega arith) | inr e ↦ rw e.0 ]
  slots_at (x ∷ xs) r (suc j) l =
      let s = sum_over (λ c. (t c).count) (children_among t w (take j xs)) in
      let q : r + (t x).count + s ≡ r + ((t x).count + s) = omega arith in
      let a = slots_at xs (r + (t x).count) j (omega arith) ∙ ap (λ z. cond (eqb (parents t (get_or xs j 0)) (suc w)) (min n z) 0) q in
      let b = slots_at xs r j (omega arith) in
      elim (eqb_tells (parents t x) (suc w)) [ inl e ↦ rw e.0 a | inr e ↦ rw e.0 b ]

  -- the slot of a child
  pub slot_at : (v : ℕ) (xs : List ℕ) (r : ℕ) → Among v xs → parents t v ≡ suc w → get_or (slots n t w r xs) (port_to v xs) 0 ≡ min n (r + sum_over (λ c. (t c).count) (children_among t w (earlier v xs)))
  slot_at v xs r k p =
      slots_at xs r (port_to v xs) (port_low v xs k)
      ∙ cond-true (eqb (parents t (get_or xs (port_to v xs) 0)) (suc w)) (min n (r + sum_over (λ c. (t c).count) (children_among t w (earlier v xs)))) 0 (eq-eqb (parents t (get_or xs (port_to v xs) 0)) (suc w) (ap (parents t) (port_at v xs k) ∙ p))

pub put_length : (ys xs : List ℕ) (i : ℕ) → length (put xs i ys) ≡ length xs
put_length [] xs i = refl
put_length (y ∷ ys) xs i = put_length ys (set xs i y) (suc i) ∙ length-set xs i y

pub put_all : (ys xs : List ℕ) (i : ℕ) → AllByRecursion (λ x. x < 65536) ys → AllByRecursion (λ x. x < 65536) xs → AllByRecursion (λ x. x < 65536) (put xs i ys)
put_all [] xs i a b = b
put_all (y ∷ ys) xs i a b = put_all ys (set xs i y) (suc i) a.1 (All-set (λ x. x < 65536) xs i y a.0 b)

pub put_other : (ys xs : List ℕ) (i j : ℕ) → (j < i) ⊎ (i + length ys ≤ j) → get_or (put xs i ys) j 0 ≡ get_or xs j 0
put_other [] xs i j h = refl
put_other (y ∷ ys) xs i j (inl a) = put_other ys (set xs i y) (suc i) j (inl (omega arith)) ∙ get_or-set_other xs i j y 0 (λ e. omega arith)
put_other (y ∷ ys) xs i j (inr a) = put_other ys (set xs i y) (suc i) j (inr (omega arith)) ∙ get_or-set_other xs i j y 0 (λ e. omega arith)

pub put_here : (ys xs : List ℕ) (i j : ℕ) → j < length ys → i + length ys ≤ length xs → get_or (put xs i ys) (i + j) 0 ≡ get_or ys j 0
put_here [] xs i j h l = absurd (omega arith)
put_here (y ∷ ys) xs i zero h l =
    let e : i + 0 ≡ i = omega arith in
    put_other ys (set xs i y) (suc i) (i + 0) (inl (omega arith)) ∙ ap (λ z. get_or (set xs i y) z 0) e ∙ get_or-set_same xs i y 0 (omega arith)
put_here (y ∷ ys) xs i (suc j) h l =
    let e : i + suc j ≡ suc i + j = omega arith in
    ap (λ z. get_or (put (set xs i y) (suc i) ys) z 0) e ∙ put_here ys (set xs i y) (suc i) j (omega arith) (simp length-set (omega arith))
