-- Any gathering comes to rest: readings settle from the deepest nodes up.
use Rattle.std.proofs.Common.{◌≡◌, ℕ, suc, ◌-◌, ◌<◌, ◌≤◌, List, [], ◌∷◌, get_or, sym, refl, ap, ◌∙◌, subst, inl, inr, arith}
use mathlib.Core.Path.{fun_ext}
use Rattle.std.proofs.lemmas.Bool.{cases_eq}
use Rattle.lists.specs.Members.{Among}
use Rattle.lists.proofs.Decisions.{below?}
use Rattle.graph.specs.Model.{Model, Proper}
use Rattle.rounds.specs.Forest.{Depths, Greatest}
use Rattle.rounds.specs.Runs.{From}
use Rattle.protocol.specs.declared.Output.{Output}
use Rattle.protocol.specs.Outputs.{Tall}
use Rattle.protocol.specs.Protocols.{Registers}
use Rattle.protocol.specs.Layers.{Near, children, LayerLaws}
use Rattle.protocol.specs.Gather.{block, Gathering, join_all, reading, gathered, gather_rule, gatherer, GatherFixed, Gathered, GatheringLaws}
use Rattle.protocol.proofs.LayerForest.{parents, ordered_children, deep}
use Rattle.protocol.proofs.LayerOwned.{Owned, owned_settles}
use Rattle.protocol.proofs.GatherBlocks.{block_apart, write_length, write_other, write_at, write_registers}

pub join_cong : {X : Type 0} (join : X → X → X) (f g : ℕ → X) (xs : List ℕ) (x : X) → ((c : ℕ) → Among c xs → f c ≡ g c) → join_all join f x xs ≡ join_all join g x xs
join_cong join f g [] x e = refl
join_cong join f g (c ∷ cs) x e = ap (λ y. join_all join f (join x y) cs) (e c (inl refl)) ∙ join_cong join f g cs (join x (g c)) (λ b k. e b (inr k))

module _ (m : Model) (g : Gathering) (proper : Proper m) (law : GatheringLaws m g) (t : ℕ → Output) where
  abbrev Ok : List ℕ → Type 0
  Ok = Registers g.size

  abbrev step : ℕ → List ℕ → List ℕ
  step = gather_rule m g t

  abbrev sees : ℕ → List ℕ → g.Reading
  sees v xs = gathered m g t (reading m g xs) v

  abbrev Mine : ℕ → ℕ → Type 0
  Mine v i = (j : ℕ) × (j < g.width) × (i ≡ block m.nodes j v)

  step_at : (v j : ℕ) (xs : List ℕ) → v < m.nodes → Ok xs → j < g.width → get_or (step v xs) (block m.nodes j v) 0 ≡ g.store (sees v xs) j
  step_at v j xs l ok k = write_at m.nodes v (g.store (sees v xs)) g.width j xs l k (let r = law.room v j l k in omega (arith, ok.0))

  step_other : (v i : ℕ) (xs : List ℕ) → (Mine v i → ⊥) → get_or (step v xs) i 0 ≡ get_or xs i 0
  step_other v i xs ne = write_other m.nodes v (g.store (sees v xs)) g.width i xs (λ j k e. ne (j, k, e))

  reading_other : (c u : ℕ) (xs : List ℕ) → c < m.nodes → u < m.nodes → (c ≡ u → ⊥) → reading m g (step u xs) c ≡ reading m g xs c
  reading_other c u xs l k ne = ap g.load (fun_ext (λ i. step_other u (block m.nodes i c) xs (λ a. block_apart m.nodes i a.0 c u l k ne a.2)))

  pub gather_keeps : (v : ℕ) (xs : List ℕ) → Ok xs → Ok (step v xs)
  gather_keeps v xs ok = write_registers m.nodes v (g.store (sees v xs)) g.width g.size xs (λ i k. law.small (join_all g.join (reading m g xs) (g.own t v) (children m t v)) i k) ok

  module _ (near : Near m t) (h : ℕ) (d : ℕ → ℕ) (depths : Depths m.nodes (parents t) d) (great : Greatest m.nodes d h) where
    -- the deepest nodes come first
    abbrev place : ℕ → ℕ
    place v = h - d v

    seen : (v u : ℕ) (xs : List ℕ) → v < m.nodes → u < m.nodes → place v ≤ place u → sees v (step u xs) ≡ sees v xs
    seen v u xs l k p = ap g.cut (join_cong g.join (reading m g (step u xs)) (reading m g xs) (children m t v) (g.own t v) child)
      where
        child : (c : ℕ) → Among c (children m t v) → reading m g (step u xs) c ≡ reading m g xs c
        child c a =
            let o = (ordered_children m proper.drawn t near).child v c l a in
            let e = (depths.link c v o.0 o.1).1 in
            let b = great.0 c o.0 in
            reading_other c u xs o.0 k (λ q. let z = ap d q in absurd (omega arith))

    gather_owned : Owned m.nodes h step Ok place Mine g.Reading sees
    gather_owned = record {
      low = λ v l. omega arith;
      kept = λ v xs l ok. gather_keeps v xs ok;
      same_length = λ v xs. write_length m.nodes v (g.store (sees v xs)) g.width xs;
      mine? = λ v i. below? (λ j. i ≡ block m.nodes j v) (λ j. cases_eq i (block m.nodes j v)) g.width;
      separate = λ v u i l k ne a b. block_apart m.nodes a.0 b.0 v u l k (λ e. ne (sym e)) (sym a.2 ∙ b.2);
      others = λ v i xs l ne. step_other v i xs ne;
      mine = λ v i xs ys l ok ko e a. subst (λ z. get_or (step v xs) z 0 ≡ get_or (step v ys) z 0) (sym a.2) (step_at v a.0 xs l ok a.1 ∙ ap (λ x. g.store x a.0) e ∙ sym (step_at v a.0 ys l ko a.1));
      seen = λ v u xs l k p ok. seen v u xs l k p;
    }

  pub gather_settles : (near : Near m t) (h : ℕ) → Tall m.nodes t h → From step m.nodes Ok (suc h) (GatherFixed m g t)
  gather_settles near h tall xs ts ok b k =
      let e = deep m proper.drawn t near h tall in
      (owned_settles m.nodes h step Ok (λ v. h - e.0 v) Mine g.Reading sees (gather_owned near h e.0 e.1 e.2) (let s = proper.drawn.some in omega arith) xs ts ok b k).1

  -- registers that stay hold readings each of which is gathered from the others
  pub rest_gathered : (xs : List ℕ) → Ok xs → GatherFixed m g t xs → Gathered m g t (reading m g xs)
  rest_gathered xs ok fix v l = law.loads (join_all g.join (reading m g xs) (g.own t v) (children m t v)) (λ i. get_or xs (block m.nodes i v) 0) (λ i k. ap (λ z. get_or z (block m.nodes i v) 0) (sym (fix v l)) ∙ step_at v i xs l ok k)

-- so a gathering makes a layer, if what it gathers meets the layer's rule
pub gatherer_laws : (m : Model) (g : Gathering) (tell : Output → g.Reading → Output) (Meets : (ℕ → Output) → Type 0) → Proper m → GatheringLaws m g
    → ((o : Output) (x : g.Reading) → (tell o x).parent ≡ o.parent)
    → ((o : Output) → (y : g.Reading) × ((x : g.Reading) → tell (tell o x) y ≡ o))
    → ((t : ℕ → Output) (h : ℕ) (f : ℕ → g.Reading) → Near m t → Tall m.nodes t h → Gathered m g t f → Meets (λ v. tell (t v) (f v)))
    → LayerLaws m (gatherer m g tell Meets)
gatherer_laws m g tell Meets proper law passes back meets = record {
  keeps = λ t v xs l ok. gather_keeps m g proper law t v xs ok;
  passes = passes;
  back = back;
  settles = λ t h near tall. gather_settles m g proper law t near h tall;
  meets = λ t h xs near tall ok fix. meets t h (reading m g xs) near tall (rest_gathered m g proper law t xs ok fix);
}
