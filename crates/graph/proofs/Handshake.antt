-- Counting ports: each link has two, and no node more than eight.
use Rattle.std.proofs.Common.{◌≡◌, ℕ, zero, suc, ◌+◌, ◌*◌, ◌<◌, ◌≤◌, cond, eqb, ltb, List, [], ◌∷◌, length, refl, ap, ◌∙◌, subst, inl, inr, arith}
use Rattle.std.proofs.lemmas.Bool.{cases_eq, cases_lt}
use Rattle.std.proofs.lemmas.Bool.Decides.{nat_tests}
use Rattle.lists.specs.Members.{Among}
use Rattle.graph.specs.Model.{Model, ports_of, ports, arcs_before, arcs}
use Rattle.graph.proofs.Ports.{ports_length}

-- the ports of the nodes below n
abbrev sum_ports : List (ℕ × ℕ) → ℕ → ℕ
sum_ports ls zero = 0
sum_ports ls (suc v) = sum_ports ls v + length (ports_of ls v)

arcs_sum : (m : Model) (v : ℕ) → arcs_before m v ≡ sum_ports m.links v
arcs_sum m zero = refl
arcs_sum m (suc v) = ap (λ z. z + length (ports m v)) (arcs_sum m v)

sum_none : (n : ℕ) → sum_ports [] n ≡ 0
sum_none zero = refl
sum_none (suc n) = omega (arith, sum_none n)

-- one end of a link counts at the node that it is
end_count : (a n : ℕ) → cond (ltb a (suc n)) 1 0 ≡ cond (ltb a n) 1 0 + cond (eqb a n) 1 0
end_count a n = grind (arith, nat_tests)

ends_count : (a b n : ℕ) → a < b → cond (eqb a n) 1 (cond (eqb b n) 1 0) ≡ cond (eqb a n) 1 0 + cond (eqb b n) 1 0
ends_count a b n l = grind (arith, nat_tests)

sum_link : (l : ℕ × ℕ) (ls : List (ℕ × ℕ)) (n : ℕ) → l.0 < l.1 → sum_ports (l ∷ ls) n ≡ (cond (ltb l.0 n) 1 0 + cond (ltb l.1 n) 1 0) + sum_ports ls n
sum_link l ls zero h = grind (arith, nat_tests)
sum_link l ls (suc n) h = omega (arith, sum_link l ls n h, ports_length l ls n, ends_count l.0 l.1 n h, end_count l.0 n, end_count l.1 n)

inside_count : (a n : ℕ) → a < n → ◌≡◌ {A = ℕ} (cond (ltb a n) 1 0) 1
inside_count a n h = grind (arith, nat_tests)

sum_links : (n : ℕ) (ls : List (ℕ × ℕ)) → ((a b : ℕ) → Among (a, b) ls → (a < b) × (b < n)) → sum_ports ls n ≡ 2 * length ls
sum_links n [] h = omega (arith, sum_none n)
sum_links n (l ∷ ls) h =
    let o = h l.0 l.1 (inl refl) in
    omega (arith, sum_link l ls n o.0, inside_count l.0 n (omega (arith, o.0, o.1)), inside_count l.1 n o.1, sum_links n ls (λ a b m. h a b (inr m)))

-- there are twice as many arcs as links
pub handshake : (m : Model) → ((a b : ℕ) → Among (a, b) m.links → (a < b) × (b < m.nodes)) → arcs m ≡ 2 * length m.links
handshake m h = arcs_sum m m.nodes ∙ sum_links m.nodes m.links h

-- at most eight ports each
pub arcs_few : (m : Model) (k : ℕ) → ((v : ℕ) → v < k → length (ports m v) ≤ 8) → arcs_before m k ≤ 8 * k
arcs_few m zero h = omega arith
arcs_few m (suc k) h = let a = arcs_few m k (λ v l. h v (omega arith)) in let b = h k (omega arith) in omega arith

-- and one has room for another
arcs_room : (m : Model) (k u : ℕ) → ((v : ℕ) → v < k → length (ports m v) ≤ 8) → u < k → length (ports m u) ≤ 7 → arcs_before m k + 1 ≤ 8 * k
arcs_room m zero u h l r = absurd (omega arith)
arcs_room m (suc k) u h l r = elim (cases_eq u k) [
  | inl e ↦ (let a = arcs_few m k (λ v q. h v (omega arith)) in let b : length (ports m k) ≤ 7 = subst (λ z. length (ports m z) ≤ 7) e r in omega arith)
  | inr d ↦ (let a = arcs_room m k u (λ v q. h v (omega arith)) (omega arith) r in let b = h k (omega arith) in omega arith)
]

-- and two have
arcs_rooms : (m : Model) (k u w : ℕ) → ((v : ℕ) → v < k → length (ports m v) ≤ 8) → u < w → w < k → length (ports m u) ≤ 7 → length (ports m w) ≤ 7 → arcs_before m k + 2 ≤ 8 * k
arcs_rooms m zero u w h l q r s = absurd (omega arith)
arcs_rooms m (suc k) u w h l q r s = elim (cases_eq w k) [
  | inl e ↦ (let a = arcs_room m k u (λ v q. h v (omega arith)) (omega arith) r in let b : length (ports m k) ≤ 7 = subst (λ z. length (ports m z) ≤ 7) e s in omega arith)
  | inr d ↦ (let a = arcs_rooms m k u w (λ v q. h v (omega arith)) l (omega arith) r s in let b = h k (omega arith) in omega arith)
]

module _ (m : Model) (ordered : (a b : ℕ) → Among (a, b) m.links → (a < b) × (b < m.nodes)) (few : (v : ℕ) → v < m.nodes → length (ports m v) ≤ 8) where
  pub links_bound : length m.links ≤ 4 * m.nodes
  links_bound = omega (arith, handshake m ordered, arcs_few m m.nodes few)

  -- where a link more still fits, there are fewer
  pub links_room : (u w : ℕ) → (u ≡ w → ⊥) → u < m.nodes → w < m.nodes → length (ports m u) ≤ 7 → length (ports m w) ≤ 7 → length m.links < 4 * m.nodes
  links_room u w d a b r s = elim (cases_lt u w) [
    | inl l ↦ omega (arith, handshake m ordered, arcs_rooms m m.nodes u w few l b r s)
    | inr l ↦ omega (arith, handshake m ordered, arcs_rooms m m.nodes w u few (omega (arith, d)) a s r)
  ]
