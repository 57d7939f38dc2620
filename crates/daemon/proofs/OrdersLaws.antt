-- Names that come in a ring: one argument for every daemon whose place moves on by one.
use Rattle.std.proofs.Common.{◌≡◌, ℕ, zero, suc, ◌+◌, ◌%◌, ◌<◌, List, [], ◌∷◌, length, get_or, sym, refl, ap, ◌∙◌, inl, inr, add-zero, mod-eq_of_lt, arith}
use native.Mathlib.Nat.{mod-add-mod, mod_self}
use Rattle.daemon.specs.declared.robin.RoundRobin.{RoundRobin}
use Rattle.daemon.specs.declared.script.Script.{Script}
use Rattle.daemon.specs.Dues.{Run}
use Rattle.daemon.specs.RoundRobins.{RobinAsked, after}
use Rattle.daemon.specs.Scripts.{ScriptAsked, names_of}
use Rattle.daemon.specs.Orders.{RobinOrder, ScriptOrder}
use Rattle.std.proofs.lemmas.Bool.{cases_lt, cond_below, cond_above}

module _ {X : Type 0} (R : X → ℕ → X → Type 0) (place : X → ℕ) (P : X → Type 0) (n : ℕ) (name : ℕ → ℕ) (step : (a : X) (v : ℕ) (z : X) → P a → R a v z → (v ≡ name (place a % n)) × (place z ≡ (place a + 1) % n) × P z) where
  goes_round : (a : X) (vs : List ℕ) (z : X) → P a → Run R a vs z → (k : ℕ) → k < length vs → get_or vs k 0 ≡ name ((place a + k) % n)
  goes_round a [] z p h k l = absurd (omega arith)
  goes_round a (v ∷ vs) z p h zero l = (step a v h.0 p h.1).0 ∙ ap (λ (i : ℕ). name (i % n)) (sym (add-zero (place a)))
  goes_round a (v ∷ vs) z p h (suc k) l =
      let s = step a v h.0 p h.1 in
      let e : place a + 1 + k ≡ place a + suc k = omega arith in
      goes_round h.0 vs z s.2 h.2 k (omega arith) ∙ ap name (ap (λ (i : ℕ). (i + k) % n) s.1 ∙ mod-add-mod (place a + 1) n k ∙ ap (λ (i : ℕ). i % n) e)

after_is : (n v : ℕ) → v < n → after n v ≡ (v + 1) % n
after_is n v l =
    elim (cases_lt (v + 1) n) [
      | inl k ↦ sym (cond_below (v + 1) n (v + 1) 0 k) ∙ sym (mod-eq_of_lt k)
      | inr k ↦ let e : v + 1 ≡ n = omega arith in sym (cond_above (v + 1) n (v + 1) 0 0 k refl) ∙ sym (ap (λ (i : ℕ). i % n) e ∙ mod_self n)
    ]

pub robin_order : RobinOrder
robin_order a z vs h =
    goes_round RobinAsked (λ (d : RoundRobin). d.next) (λ (d : RoundRobin). d.nodes ≡ a.nodes) a.nodes (λ i. i)
    (λ d v m e s.
    let w : d.next < a.nodes = let i = d.within in omega arith in
    (s.named ∙ sym (mod-eq_of_lt w), s.next ∙ ap (λ (i : ℕ). after d.nodes i) s.named ∙ ap (λ (i : ℕ). after i d.next) e ∙ after_is a.nodes d.next w, s.nodes ∙ e))
    a vs z refl h

pub script_order : ScriptOrder
script_order a z vs h =
    goes_round ScriptAsked (λ (d : Script). d.at) (λ (d : Script). names_of d ≡ names_of a) (length (names_of a)) (λ i. get_or (names_of a) i 0)
    (λ d v m e s.
    let len : length (names_of d) ≡ length (names_of a) = ap length e in
    let w : d.at < length (names_of a) = let i = d.within in let j = d.names.ok.0 in omega arith in
    (s.named ∙ ap (λ (xs : List ℕ). get_or xs d.at 0) e ∙ ap (λ (i : ℕ). get_or (names_of a) i 0) (sym (mod-eq_of_lt w)), s.place ∙ ap (λ (i : ℕ). (d.at + 1) % i) len, s.names ∙ e))
    a vs z refl h
