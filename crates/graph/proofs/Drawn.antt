-- What a drawn model says of its ports and arcs.
use Rattle.std.proofs.Common.{◌≡◌, ℕ, zero, suc, ◌+◌, ◌*◌, ◌<◌, ◌≤◌, [], length, ap, subst, inl, inr, arith}
use Rattle.std.proofs.lemmas.Bool.{cases_lt, cases_eq}
use Rattle.lists.specs.Members.{Among, Once}
use Rattle.lists.proofs.Elements.{nil_from_none}
use Rattle.graph.specs.Model.{Model, Drawn, ports, arcs_before, arcs}
use Rattle.graph.proofs.Ports.{ports_joins, ports_both, ports_apart, links_ports_once}
use Rattle.graph.proofs.Handshake.{handshake, links_bound}

module _ (m : Model) (drawn : Drawn m) where
  -- a port leads from a node to a node
  pub inside : (u v : ℕ) → Among u (ports m v) → (v < m.nodes) × (u < m.nodes)
  inside u v h = elim (ports_joins m.links u v h) [
    | inl x ↦ (let o = drawn.ordered u v x in (o.1, omega (arith, o.0, o.1)))
    | inr y ↦ (let o = drawn.ordered v u y in (omega (arith, o.0, o.1), o.1))
  ]

  -- the other end has a port back
  pub both : (u v : ℕ) → Among u (ports m v) → Among v (ports m u)
  both u v h = ports_both m.links (λ a b x. (drawn.ordered a b x).0) u v h

  -- no port leads to its own node
  pub apart : (u v : ℕ) → Among u (ports m v) → u ≡ v → ⊥
  apart u v h = ports_apart m.links (λ a b x. (drawn.ordered a b x).0) u v h

  -- no two ports lead to one node
  pub ports_once : (v : ℕ) → Once (ports m v)
  ports_once v = links_ports_once m.links v (λ a b x. (drawn.ordered a b x).0) drawn.once

  pub ports_none : (v : ℕ) → m.nodes ≤ v → ports m v ≡ []
  ports_none v l = nil_from_none (ports m v) (λ u h. absurd (omega (arith, (inside u v h).0)))

  pub ports_few : (v : ℕ) → length (ports m v) ≤ 8
  ports_few v = elim (cases_lt v m.nodes) [ inl l ↦ drawn.few v l | inr l ↦ (let e : length (ports m v) ≡ 0 = ap length (ports_none v l) in omega arith) ]

  -- past the last node no arc is added
  pub arcs_past : (k : ℕ) → m.nodes ≤ k → arcs_before m k ≡ arcs m
  arcs_past zero l = let e : 0 ≡ m.nodes = omega arith in ap (λ z. arcs_before m z) e
  arcs_past (suc k) l = elim (cases_lt k m.nodes) [
    | inl s ↦ (let e : suc k ≡ m.nodes = omega arith in ap (λ z. arcs_before m z) e)
    | inr s ↦ (let e : length (ports m k) ≡ 0 = ap length (ports_none k s) in let r = arcs_past k s in omega arith)
  ]

  pub arcs_are : arcs m ≡ 2 * length m.links
  arcs_are = handshake m drawn.ordered

  pub links_few : length m.links ≤ 4 * m.nodes
  links_few = links_bound m drawn.ordered drawn.few

-- arcs before one node are no more than before a later one
pub arcs_mono : (m : Model) (v k : ℕ) → v ≤ k → arcs_before m v ≤ arcs_before m k
arcs_mono m v zero l = let e : 0 ≡ v = omega arith in subst (λ z. arcs_before m z ≤ 0) e (omega arith)
arcs_mono m v (suc k) l = elim (cases_eq v (suc k)) [
  | inl e ↦ subst (λ z. arcs_before m v ≤ arcs_before m z) e (omega arith)
  | inr d ↦ (let r = arcs_mono m v k (omega arith) in omega arith)
]

-- the arcs of a node end before those of a later one, and before the last
pub arc_below : (m : Model) (v k p : ℕ) → v < k → p < length (ports m v) → arcs_before m v + p < arcs_before m k
arc_below m v k p l q = let r = arcs_mono m (suc v) k (omega arith) in omega arith
