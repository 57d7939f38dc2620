-- At rest every node that names another is paired, so told mates are a matching that leaves no link free.
use Rattle.std.proofs.Common.{◌≡◌, ℕ, zero, suc, ◌<◌, eqb, List, Some, None, Option, refl, ap, ◌∙◌, subst, inl, inr, arith}
use Rattle.std.proofs.lemmas.Bool.{eq-eqb}
use Rattle.std.proofs.lemmas.Bool.Decides.{eqb_tells}
use Rattle.lists.specs.Members.{Among}
use Rattle.graph.specs.Model.{Model, ports, Drawn}
use Rattle.graph.proofs.Drawn.{inside, both}
use Rattle.protocol.specs.First.{held}
use Rattle.protocol.specs.Matching.{new_register, register, Rest, naming, mate, Matched, matching, MateTold}
use Rattle.protocol.proofs.FirstLaws.{held_some, held_among}
use Rattle.protocol.proofs.MatchingRules.{Tells, Way, strays, accepts, proposes, abandons, waits, mated, alone, way, new_accepts}
use Rattle.protocol.proofs.MatchingPairs.{Paired}

naming_some : (f : ℕ → ℕ) (v : ℕ) (o : Option ℕ) (u : ℕ) → naming f v o ≡ Some u → (o ≡ Some u) × (f u ≡ suc v)
naming_some f v None u e = absurd (let z : ◌≡◌ {A = ℕ} 0 1 = cc in omega arith)
naming_some f v (Some w) u e = go (eqb_tells (f w) (suc v))
  where
    go : Tells (eqb (f w) (suc v)) (f w ≡ suc v) → (Some w ≡ Some u) × (f u ≡ suc v)
    go (inl t) = let s : Some w ≡ Some u = rw t.0 at e in let q : w ≡ u = cc in (s, subst (λ z. f z ≡ suc v) q t.1)
    go (inr t) = let s : None ≡ Some u = rw t.0 at e in absurd (let z : ◌≡◌ {A = ℕ} 0 1 = cc in omega arith)

module _ (m : Model) (f : ℕ → ℕ) where
  pub mate_pairs : (v u : ℕ) → mate m f v ≡ Some u → Among u (ports m v) × (f v ≡ suc u) × (f u ≡ suc v)
  mate_pairs v u e = let t = naming_some f v (held (ports m v) (f v)) u e in let h = held_some (ports m v) (f v) u t.0 in (h.0, h.1, t.1)

  pub pairs_mate : (v u : ℕ) → Among u (ports m v) → f v ≡ suc u → f u ≡ suc v → mate m f v ≡ Some u
  pairs_mate v u a e h =
      let n : naming f v (Some u) ≡ Some u = rw (eq-eqb (f u) (suc v) h) in
      ap (λ z. naming f v (held (ports m v) z)) e ∙ (ap (naming f v) (held_among (ports m v) u a) ∙ n)

pub mate_told : MateTold
mate_told m f v u = (mate_pairs m f v u, λ t. pairs_mate m f v u t.0 t.1 t.2)

module _ (m : Model) (drawn : Drawn m) (f : ℕ → ℕ) (rest : (v : ℕ) → v < m.nodes → new_register m f v ≡ f v) where
  rest_pairs : (v j : ℕ) → v < m.nodes → f v ≡ suc j → Paired m f v
  rest_pairs v j l e = go (way m f v) (rest v l)
    where
      -- a neighbour that names none would name who names it
      free : (j : ℕ) → Among j (ports m v) → f j ≡ 0 → f v ≡ suc j → ⊥
      free j a z q = let t = new_accepts m f j v z (both m drawn j v a) q in omega (arith, t.3, rest j (inside m drawn j v a).1)

      go : Way m f v (new_register m f v) → new_register m f v ≡ f v → Paired m f v
      go (strays j x y r) s = absurd (omega arith)
      go (accepts u x y z i r) s = absurd (omega arith)
      go (proposes u x n y z i r) s = absurd (omega arith)
      go (abandons j x y z t r) s = absurd (omega arith)
      go (waits j x y z r) s = absurd (free j y z x)
      go (mated j x y z r) s = (j, y, (x, z))
      go (alone x y z r) s = absurd (omega arith)

  rest_not_free : (v u : ℕ) → v < m.nodes → Among u (ports m v) → f v ≡ 0 → f u ≡ 0 → ⊥
  rest_not_free v u l a e h = go (way m f v) (rest v l)
    where
      go : Way m f v (new_register m f v) → new_register m f v ≡ f v → ⊥
      go (strays j x y r) s = omega arith
      go (accepts w x y z i r) s = omega arith
      go (proposes w x n y z i r) s = omega arith
      go (abandons j x y z t r) s = omega arith
      go (waits j x y z r) s = omega arith
      go (mated j x y z r) s = omega arith
      go (alone x y z r) s = z u a h

  -- a node without a mate names none
  rest_free : (v x : ℕ) → v < m.nodes → f v ≡ x → mate m f v ≡ None → f v ≡ 0
  rest_free v zero l e h = e
  rest_free v (suc j) l e h = let p = rest_pairs v j l e in let q = pairs_mate m f v p.0 p.1 p.2.0 p.2.1 in absurd (let z : ◌≡◌ {A = ℕ} 0 1 = cc in omega arith)

  pub rest_full : (v u : ℕ) → v < m.nodes → Among u (ports m v) → mate m f v ≡ None → mate m f u ≡ None → ⊥
  rest_full v u l a x y = rest_not_free v u l a (rest_free v (f v) l refl x) (rest_free u (f u) (inside m drawn u v a).1 refl y)

pub rest_matched : (m : Model) (drawn : Drawn m) (xs : List ℕ) → Rest m xs → Matched m ((matching m).output xs)
rest_matched m drawn xs r = record {
  near = λ v u l e. (mate_pairs m (register xs) v u e).0;
  both = λ v u l e. let t = mate_pairs m (register xs) v u e in pairs_mate m (register xs) u v (both m drawn u v t.0) t.2 t.1;
  full = λ v u l a x y. rest_full m drawn (register xs) r v u l a x y;
}
