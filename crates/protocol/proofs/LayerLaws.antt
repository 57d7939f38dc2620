-- A layer that keeps its laws makes a protocol of every protocol.
use Rattle.std.proofs.Common.{◌≡◌, ℕ, zero, suc, ◌+◌, ◌<◌, List, sym, refl, ◌∙◌, subst, arith}
use mathlib.Core.Path.{fun_ext}
use Rattle.graph.specs.Model.{Model, Proper}
use Rattle.rounds.specs.Runs.{run, From}
use Rattle.rounds.proofs.RunsLaws.{compose, from_more}
use Rattle.protocol.specs.declared.Output.{Output}
use Rattle.protocol.specs.Outputs.{Chain, Tall}
use Rattle.protocol.specs.Protocols.{Protocol, Registers, Laws}
use Rattle.protocol.specs.Layers.{under, over, Layer, Fixed, layered, Near, LayerLaws, SettlesOver}
use Rattle.protocol.proofs.LayerTurns.{registers_front, registers_back, then_still, then_keeps, run_keeps, run_under, run_over}

-- chains depend on parents alone
pub chain_same : (s t : ℕ → Output) → ((v : ℕ) → (s v).parent ≡ (t v).parent) → (k v : ℕ) → Chain t k v → Chain s k v
chain_same s t e zero v c = e v ∙ c
chain_same s t e (suc k) v c = (c.0, e v ∙ c.1, chain_same s t e k c.0 c.2)

pub tall_same : (s t : ℕ → Output) → ((v : ℕ) → (s v).parent ≡ (t v).parent) → (n h : ℕ) → Tall n t h → Tall n s h
tall_same s t e n h a = record {
  most = λ v l. let c = a.most v l in (c.0, c.1, chain_same s t e c.0 v c.2);
  longest = let c = a.longest in (c.0, c.1, chain_same s t e h c.0 c.2);
}

module _ (m : Model) (a : Layer) (p : Protocol) (proper : Proper m) (own : LayerLaws m a) (law : Laws m p) where
  abbrev rule : ℕ → List ℕ → List ℕ → List ℕ
  rule v below xs = a.rule (p.output below) v xs

  abbrev Full : List ℕ → Type 0
  Full = Registers (p.size + a.size)

  keeps_rule : (v : ℕ) (below xs : List ℕ) → v < m.nodes → Registers a.size xs → Registers a.size (rule v below xs)
  keeps_rule v below xs l r = own.keeps (p.output below) v xs l r

  near_under : (xs : List ℕ) → Registers p.size xs → Near m (p.output xs)
  near_under xs r v u l e = law.near xs v u l r e

  pub settles_over : SettlesOver m a p
  settles_over xs ts r b k =
      let below = under p xs in
      let full = registers_front p.size a.size xs r.0 in
      let t = run_over m.nodes a.size p rule law.keeps keeps_rule below (law.still below full r.1) ts xs b r.0 refl in
      let f = own.settles (p.output below) p.height (near_under below full) (law.tall below full r.1) in
      let o = from_more (List ℕ) (a.rule (p.output below)) (Registers a.size) (Fixed m a (p.output below)) m.nodes (suc p.height) (p.height + 1) (omega arith) f (over p xs) ts (registers_back p.size a.size xs r.0) b k in
      (subst p.Rest (sym t.1) r.1, subst (λ z. Fixed m a (p.output z) (over p (layered_run xs ts))) (sym t.1) (subst (Fixed m a (p.output below)) (sym t.0) o))
    where
      layered_run : List ℕ → List ℕ → List ℕ
      layered_run xs ts = run (layered m a p).turn ts xs

  first_settles : From (layered m a p).turn m.nodes Full p.bound (λ xs. Full xs × p.Rest (under p xs))
  first_settles xs ts r b k = (
    run_keeps m.nodes a.size p rule law.keeps keeps_rule ts xs b r,
    subst p.Rest (sym (run_under m.nodes a.size p rule law.keeps keeps_rule ts xs b r)) (law.settles (under p xs) ts (registers_front p.size a.size xs r) b k),
  )

  pub layered_settles : From (layered m a p).turn m.nodes Full (p.bound + (p.height + 1)) (layered m a p).Rest
  layered_settles = compose (List ℕ) (layered m a p).turn Full (λ xs. Full xs × p.Rest (under p xs)) (layered m a p).Rest m.nodes p.bound (p.height + 1) (let s = proper.drawn.some in omega arith) first_settles settles_over

  same_parents : (xs : List ℕ) (v : ℕ) → ((layered m a p).output xs v).parent ≡ (p.output (under p xs) v).parent
  same_parents xs v = own.passes (p.output (under p xs) v) (a.value (over p xs) v)

  right_over : (xs : List ℕ) → Full xs → (layered m a p).Rest xs → (layered m a p).Legitimate ((layered m a p).output xs)
  right_over xs r s =
      let t = p.output (under p xs) in
      let full = registers_front p.size a.size xs r in (
        own.meets t p.height (over p xs) (near_under (under p xs) full) (law.tall (under p xs) full s.0) (registers_back p.size a.size xs r) s.1,
        (
          (λ v. (own.back (t v)).0),
          subst p.Legitimate (sym (fun_ext (λ v. (own.back (t v)).1 (a.value (over p xs) v)))) (law.right (under p xs) full s.0),
        ),
      )

  pub layered_laws : Laws m (layered m a p)
  layered_laws = record {
    keeps = λ v xs l r. then_keeps m.nodes a.size p rule law.keeps keeps_rule v xs l r;
    near = λ xs v u l r e. law.near (under p xs) v u l (registers_front p.size a.size xs r) (sym (same_parents xs v) ∙ e);
    still = λ xs r s v l. then_still p rule v xs (law.still (under p xs) (registers_front p.size a.size xs r) s.0 v l) (s.1 v l);
    right = right_over;
    settles = λ xs ts r b k. layered_settles xs ts r b k;
    tall = λ xs r s. tall_same ((layered m a p).output xs) (p.output (under p xs)) (same_parents xs) m.nodes p.height (law.tall (under p xs) (registers_front p.size a.size xs r) s.0);
  }
