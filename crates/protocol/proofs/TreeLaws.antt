-- Tree keeps the laws of a protocol: in each round the nodes at one more distance become right.
use Rattle.std.proofs.Common.{◌≡◌, ℕ, suc, ◌+◌, ◌<◌, List, length, get_or, set, sym, ap, ◌∙◌, subst, inl, inr, arith}
use Rattle.std.proofs.lemmas.Bool.{cases_eq}
use Rattle.std.proofs.lemmas.List.{set-get_or}
use Rattle.graph.specs.Model.{Model, Proper, ports, height}
use Rattle.graph.proofs.Heights.{distance_below, distance_most}
use Rattle.rounds.specs.Rounds.{Completes}
use Rattle.rounds.specs.Runs.{run, Below, Waves}
use Rattle.rounds.proofs.RunsLaws.{induction}
use Rattle.protocol.specs.Outputs.{stored}
use Rattle.protocol.specs.Protocols.{Laws}
use Rattle.protocol.specs.First.{held}
use Rattle.protocol.specs.Tree.{new_distance, new_parent, tree_turn, tree_output, tree_parent, tree_rest, Legitimate, tree, TreeLaws}
use Rattle.protocol.proofs.FirstLaws.{held_some, held_stored}
use Rattle.protocol.proofs.TreeParents.{parent_among, parent_legitimate, legitimate_exists, legitimate_tall, tells_tree, tells_one}
use Rattle.protocol.proofs.TreeTurns.{after_distance, after_parent, after_other, after_length, keeps, At, at_before, Near, rule}

module _ (m : Model) (proper : Proper m) where
  -- the registers of v before wave k
  abbrev Said : ℕ → ℕ → List ℕ → Type 0
  Said k v xs = At m proper k v (get_or xs v 0) (get_or xs (m.nodes + v) 0)

  abbrev Before : ℕ → List ℕ → Type 0
  Before k xs = (length xs ≡ m.nodes + m.nodes) × ((v : ℕ) → v < m.nodes → Said k v xs)

  said_turn : (k v : ℕ) (xs : List ℕ) → v < m.nodes → Before k xs → Said (suc k) v (tree_turn m v xs)
  said_turn k v xs l p = rw (after_distance m v xs l p.0, after_parent m v xs l p.0) (rule m proper k v (λ u. get_or xs u 0) l (λ u i. (λ q. ((p.1 u i).0 q).0, (p.1 u i).1)))

  -- a turn of another node leaves them as they are
  said_other : (k v u : ℕ) (xs : List ℕ) → v < m.nodes → u < m.nodes → (v ≡ u → ⊥) → Said k v xs → Said k v (tree_turn m u xs)
  said_other k v u xs l i d h = rw (after_other m u xs v d (λ e. absurd (omega arith)), after_other m u xs (m.nodes + v) (λ e. absurd (omega arith)) (λ e. d (omega arith))) h

  waves : Waves (List ℕ) (tree_turn m) m.nodes Before (λ k v xs. Said (suc k) v xs)
  waves = record {
    kept = λ k v xs l p. (after_length m v xs ∙ p.0, λ u i. elim (cases_eq u v) [ inl e ↦ subst (λ z. Said k z (tree_turn m v xs)) (sym e) (at_before m proper k v (get_or (tree_turn m v xs) v 0) (get_or (tree_turn m v xs) (m.nodes + v) 0) (said_turn k v xs l p)) | inr d ↦ said_other k u v xs i l d (p.1 u i) ]);
    turn = said_turn;
    stays = λ k v u xs l i p g. elim (cases_eq v u) [ inl e ↦ subst (λ z. Said (suc k) z (tree_turn m u xs)) (sym e) (said_turn k u xs i p) | inr d ↦ said_other (suc k) v u xs l i d g ];
    joins = λ k xs p g. (p.0, g);
  }

  settles : (xs ts : List ℕ) → length xs ≡ m.nodes + m.nodes → Below m.nodes ts → Completes m.nodes (height m + 1) ts → tree_rest m (run (tree_turn m) ts xs)
  settles xs ts q below c v l =
      let start : Before 0 xs = (q, λ u i. (λ x. absurd (omega arith), λ x. omega arith)) in
      let p = induction (List ℕ) (tree_turn m) Before (λ k v xs. Said (suc k) v xs) m.nodes proper.drawn.some waves (height m + 1) xs ts start below c in
      (p.1 v l).0 (let h = distance_most m proper v l in omega arith)

  -- at rest every wave has passed, so a turn writes what is there
  still : (xs : List ℕ) → tree_rest m xs → (v : ℕ) → v < m.nodes → tree_turn m v xs ≡ xs
  still xs r v l =
      let near : Near m proper m.nodes (λ u. get_or xs u 0) = (λ u i. (λ _. (r u i).0, λ q. absurd (omega (arith, distance_below m proper u i)))) in
      let h = (rule m proper m.nodes v (λ u. get_or xs u 0) l near).0 (let b = distance_below m proper v l in omega arith) in
      let a : new_distance m (λ u. get_or xs u 0) v ≡ get_or xs v 0 = h.0 ∙ sym (r v l).0 in
      let b : stored (new_parent m (λ u. get_or xs u 0) v) ≡ get_or xs (m.nodes + v) 0 = h.1 ∙ sym (r v l).1 in
      ap (λ z. set (set xs v z) (m.nodes + v) (stored (new_parent m (λ u. get_or xs u 0) v))) a ∙ ap (λ z. set z (m.nodes + v) (stored (new_parent m (λ u. get_or xs u 0) v))) (set-get_or xs v 0) ∙ ap (λ z. set xs (m.nodes + v) z) b ∙ set-get_or xs (m.nodes + v) 0

  right : (xs : List ℕ) → tree_rest m xs → Legitimate m (tree_output m xs)
  right xs r = parent_legitimate m proper (tree_output m xs) (λ v l. ap (held (ports m v)) (r v l).1 ∙ held_stored (ports m v) (tree_parent m v) (parent_among m v))

  pub tree_laws : Laws m (tree m)
  tree_laws = record {
    keeps = keeps m proper;
    near = λ xs v u l r e. (held_some (ports m v) (get_or xs (m.nodes + v) 0) u e).0;
    still = λ xs r q. still xs q;
    right = λ xs r q. right xs q;
    settles = λ xs ts r b c. settles xs ts r.0 b c;
    tall = λ xs r q. legitimate_tall m proper (tree_output m xs) (right xs q);
  }

pub laws : TreeLaws
laws m proper = (tree_laws m proper, legitimate_exists m proper, tells_tree m proper, tells_one m)
