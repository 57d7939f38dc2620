-- The distances of a proper site, and the greatest of them.
use Rattle.std.proofs.Common.{◌≡◌, ℕ, zero, suc, ◌<◌, ◌≤◌, max, true, sym, refl, subst, inl, inr, arith}
use Rattle.std.proofs.lemmas.Bool.{cases_eq, cases_lt}
use Rattle.lists.specs.Members.{Among}
use Rattle.graph.specs.Model.{Model, Proper, Distance, Greatest, ports, within, distance, greatest, height}
use Rattle.graph.proofs.Drawn.{inside, both}
use Rattle.graph.proofs.Walks.{distance_unique, distance_within, within_distance, distance_step}
use Rattle.graph.proofs.Distances.{walk_distance, walk_distance_below}

pub greatest_unique : (m : Model) (g h : ℕ) → Greatest m g → Greatest m h → g ≡ h
greatest_unique m g h a b =
    let x = a.taken in
    let y = b.taken in
    omega (arith, b.most x.0 g x.1 x.2, a.most y.0 h y.1 y.2)

greatest_most : (m : Model) (k v : ℕ) → v < k → distance m v ≤ greatest m k
unfolding greatest
greatest_most m zero v l = absurd (omega arith)
greatest_most m (suc k) v l = elim (cases_eq v k) [ inl e ↦ subst (λ z. distance m z ≤ max (distance m k) (greatest m k)) (sym e) (omega arith) | inr d ↦ (let r = greatest_most m k v (omega arith) in omega arith) ]

greatest_taken : (m : Model) (k : ℕ) → 0 < k → (v : ℕ) × (v < k) × (greatest m k ≡ distance m v)
unfolding greatest
greatest_taken m zero l = absurd (omega arith)
greatest_taken m (suc zero) l = (0, omega arith, omega arith)
greatest_taken m (suc (suc k)) l =
    let t = greatest_taken m (suc k) (omega arith) in
    elim (cases_lt (distance m (suc k)) (greatest m (suc k))) [ inl a ↦ (t.0, omega (arith, t.1), omega (arith, t.2)) | inr b ↦ (suc k, omega arith, omega arith) ]

module _ (m : Model) (proper : Proper m) where
  pub distance_is : (v : ℕ) → v < m.nodes → Distance m v (distance m v)
  distance_is v l = let w = proper.reached v l in walk_distance m proper.drawn w.0 v w.1

  pub distance_reads : (v d : ℕ) → v < m.nodes → Distance m v d → distance m v ≡ d
  distance_reads v d l t = distance_unique m v (distance m v) d (distance_is v l) t

  pub distance_below : (v : ℕ) → v < m.nodes → distance m v < m.nodes
  distance_below v l = let w = proper.reached v l in walk_distance_below m proper.drawn w.0 v w.1

  pub root_distance : distance m m.root ≡ 0
  root_distance = let z = (distance_is m.root proper.drawn.rooted).least 0 refl in omega arith

  pub root_only : (v : ℕ) → v < m.nodes → distance m v ≡ 0 → v ≡ m.root
  root_only v l e = let t = subst (λ z. Distance m v z) e (distance_is v l) in t.way

  -- a node at distance d + 1 has a port to one at distance d
  pub distance_next : (v d : ℕ) → v < m.nodes → distance m v ≡ suc d → (u : ℕ) × (u < m.nodes) × Among u (ports m v) × (distance m u ≡ d)
  distance_next v d l e =
      let t = distance_step m v d (subst (λ z. Distance m v z) e (distance_is v l)) in
      let i = (inside m proper.drawn t.0 v t.1).1 in
      (t.0, i, t.1, distance_reads t.0 d i t.2)

  -- neighbours' distances differ by at most one
  pub distance_near : (u v : ℕ) → Among u (ports m v) → (distance m v ≤ suc (distance m u)) × (distance m u ≤ suc (distance m v))
  distance_near u v h = (near u v h, near v u (both m proper.drawn u v h))
    where
      near : (u v : ℕ) → Among u (ports m v) → distance m v ≤ suc (distance m u)
      near u v h =
          let i = inside m proper.drawn u v h in
          (distance_is v i.0).least (suc (distance m u)) (u, h, (distance_is u i.1).way)

  -- within k links, exactly where the distance is at most k
  pub within_is : (k v : ℕ) → v < m.nodes → (within m k v ≡ true → distance m v ≤ k) × (distance m v ≤ k → within m k v ≡ true)
  within_is k v l = (λ e. within_distance m v (distance m v) k (distance_is v l) e, λ q. distance_within m v (distance m v) k (distance_is v l) q)

  pub distance_most : (v : ℕ) → v < m.nodes → distance m v ≤ height m
  unfolding height
  distance_most v l = greatest_most m m.nodes v l

  pub height_taken : (v : ℕ) × (v < m.nodes) × (height m ≡ distance m v)
  unfolding height
  height_taken = greatest_taken m m.nodes (let s = proper.drawn.some in omega arith)

  pub height_is : Greatest m (height m)
  height_is = let t = height_taken in record {
    most = λ v d l q. (let a = distance_reads v d l q in let b = distance_most v l in omega arith);
    taken = (t.0, t.1, subst (λ z. Distance m t.0 z) (sym t.2) (distance_is t.0 t.1));
  }

  pub height_below : height m < m.nodes
  height_below = let t = height_taken in omega (arith, t.2, distance_below t.0 t.1)
