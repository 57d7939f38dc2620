-- Rank over any protocol is one: ranks settle from the roots down.
use Rattle.std.proofs.Common.{◌≡◌, ℕ, suc, ◌+◌, ◌-◌, ◌<◌, ◌≤◌, min, ◌⊎◌, List, length, get_or, set, Some, None, Option, sym, refl, ap, ◌∙◌, subst, inl, inr, arith, length-set}
use Rattle.std.proofs.ByRecursion.{All-set}
use Rattle.std.proofs.lemmas.List.{get_or-set_same, get_or-set_other, ext_get_or}
use Rattle.std.proofs.lemmas.Bool.{cases_eq}
use Rattle.lists.proofs.Decisions.{either?, both?, lt?, le?}
use Rattle.graph.specs.Model.{Model, Proper, ports, arcs_before, arcs}
use Rattle.rounds.specs.Forest.{Depths, Greatest}
use Rattle.rounds.specs.Runs.{From}
use Rattle.protocol.specs.declared.Output.{Output}
use Rattle.protocol.specs.Outputs.{stored, Tall}
use Rattle.protocol.specs.Protocols.{Protocol, Registers, Laws}
use Rattle.protocol.specs.Layers.{Near, LayerLaws, Fixed, told_by}
use Rattle.protocol.specs.Rank.{port_to, slot, rank_from, slots, rank_rule, number_given, RankTurn, counts_before, RanksRight, ranker, rank}
use Rattle.protocol.proofs.LayerForest.{parents, child_port, deep}
use Rattle.protocol.proofs.LayerOwned.{Owned, owned_settles}
use Rattle.protocol.proofs.LayerLaws.{layered_laws}
use Rattle.protocol.proofs.RankSlots.{arcs_next, port_low, slots_length, slots_small, slots_at, slot_at, put_length, put_all, put_other, put_here}

-- what is said of a turn leaves nothing open
pub rank_turn_one : (m : Model) (t : ℕ → Output) (v : ℕ) (xs ys zs : List ℕ) → v < m.nodes → RankTurn m t v xs ys → RankTurn m t v xs zs → ys ≡ zs
rank_turn_one m t v xs ys zs l a b = ext_get_or 0 ys zs (a.same_length ∙ sym b.same_length) (λ i _. at i)
  where
    at_rank : get_or ys v 0 ≡ get_or zs v 0
    at_rank = a.rank ∙ sym b.rank

    at : (i : ℕ) → get_or ys i 0 ≡ get_or zs i 0
    at i =
        let base = m.nodes + arcs_before m v in
        elim (cases_eq i v) [
          | inl e ↦ subst (λ z. get_or ys z 0 ≡ get_or zs z 0) (sym e) at_rank
          | inr e ↦ elim (lt? i base) [
            | inl p ↦ a.others i e (inl p) ∙ sym (b.others i e (inl p))
            | inr p ↦ elim (lt? i (base + length (ports m v))) [
              | inl q ↦ (
                  let y : base + (i - base) ≡ i = omega (arith, p) in
                  let k : i - base < length (ports m v) = omega (arith, p, q) in
                  subst (λ z. get_or ys z 0 ≡ get_or zs z 0) y (a.slots (i - base) k ∙ ap (λ r. number_given m t v r (i - base)) at_rank ∙ sym (b.slots (i - base) k)))
              | inr q ↦ (let k : base + length (ports m v) ≤ i = omega (arith, q) in a.others i e (inr k) ∙ sym (b.others i e (inr k)))
            ]
          ]
        ]

module _ (m : Model) (proper : Proper m) (t : ℕ → Output) where
  abbrev Ok : List ℕ → Type 0
  Ok = Registers (m.nodes + arcs m)

  abbrev step : ℕ → List ℕ → List ℕ
  step = rank_rule m t

  abbrev new : ℕ → List ℕ → ℕ
  new v xs = rank_from m (t v).parent v xs

  -- v's rank and v's slots
  abbrev Mine : ℕ → ℕ → Type 0
  Mine v i = (i ≡ v) ⊎ ((m.nodes + arcs_before m v ≤ i) × (i < m.nodes + arcs_before m v + length (ports m v)))

  abbrev filled : ℕ → List ℕ → List ℕ
  filled v xs = slots m.nodes t v (new v xs + 1) (ports m v)

  separate : (v u i : ℕ) → v < m.nodes → u < m.nodes → (u ≡ v → ⊥) → Mine v i → Mine u i → ⊥
  separate v u i l k ne (inl a) (inl b) = ne (sym b ∙ a)
  separate v u i l k ne (inl a) (inr b) = omega arith
  separate v u i l k ne (inr a) (inl b) = omega arith
  separate v u i l k ne (inr a) (inr b) = elim (lt? v u) [ inl q ↦ (let z = arcs_next m v u q in let r : ⊥ = omega arith in r) | inr q ↦ (let w : u < v = omega (arith, ne) in let z = arcs_next m u v w in let r : ⊥ = omega arith in r) ]

  step_length : (v : ℕ) (xs : List ℕ) → length (step v xs) ≡ length xs
  step_length v xs = put_length (filled v xs) (set xs v (new v xs)) (m.nodes + arcs_before m v) ∙ length-set xs v (new v xs)

  new_low : (o : Option ℕ) (v : ℕ) (xs : List ℕ) → rank_from m o v xs ≤ m.nodes
  new_low None v xs = omega arith
  new_low (Some w) v xs = omega arith

  rank_keeps : (v : ℕ) (xs : List ℕ) → Ok xs → Ok (step v xs)
  rank_keeps v xs ok =
      let few = proper.drawn.limit in
      let b = new_low (t v).parent v xs in
      (step_length v xs ∙ ok.0, put_all (filled v xs) (set xs v (new v xs)) (m.nodes + arcs_before m v) (slots_small m.nodes t v few (ports m v) (new v xs + 1)) (All-set (λ x. x < 65536) xs v (new v xs) (omega arith) ok.1))

  step_other : (v i : ℕ) (xs : List ℕ) → (Mine v i → ⊥) → get_or (step v xs) i 0 ≡ get_or xs i 0
  step_other v i xs ne = put_other (filled v xs) (set xs v (new v xs)) (m.nodes + arcs_before m v) i past ∙ get_or-set_other xs v i (new v xs) 0 (λ e. ne (inl e))
    where
      past : (i < m.nodes + arcs_before m v) ⊎ (m.nodes + arcs_before m v + length (filled v xs) ≤ i)
      past = let s = slots_length m.nodes t v (ports m v) (new v xs + 1) in elim (lt? i (m.nodes + arcs_before m v)) [ inl a ↦ inl a | inr a ↦ elim (lt? i (m.nodes + arcs_before m v + length (ports m v))) [ inl b ↦ absurd (ne (inr (omega (arith, a), b))) | inr b ↦ inr (omega (arith, b)) ] ]

  step_rank : (v : ℕ) (xs : List ℕ) → v < m.nodes → Ok xs → get_or (step v xs) v 0 ≡ new v xs
  step_rank v xs l ok = put_other (filled v xs) (set xs v (new v xs)) (m.nodes + arcs_before m v) v (inl (omega arith)) ∙ get_or-set_same xs v (new v xs) 0 (omega (arith, ok.0))

  step_slot : (v j : ℕ) (xs : List ℕ) → v < m.nodes → Ok xs → j < length (ports m v) → get_or (step v xs) (m.nodes + arcs_before m v + j) 0 ≡ get_or (filled v xs) j 0
  step_slot v j xs l ok h = let s = slots_length m.nodes t v (ports m v) (new v xs + 1) in let a = arcs_next m v m.nodes l in put_here (filled v xs) (set xs v (new v xs)) (m.nodes + arcs_before m v) j (omega arith) (simp length-set (omega (arith, ok.0)))

  pub rank_turn : (v : ℕ) (xs : List ℕ) → v < m.nodes → Ok xs → RankTurn m t v xs (step v xs)
  rank_turn v xs l ok = record {
    same_length = step_length v xs;
    rank = step_rank v xs l ok;
    slots = λ j k. step_slot v j xs l ok k ∙ slots_at m.nodes t v (ports m v) (new v xs + 1) j k ∙ ap (λ r. number_given m t v r j) (sym (step_rank v xs l ok));
    others = λ i ne out. step_other v i xs (λ a. elim a [ inl e ↦ ne e | inr e ↦ elim out [ inl b ↦ absurd (omega arith) | inr b ↦ absurd (omega arith) ] ]);
  }

  step_mine : (v i : ℕ) (xs ys : List ℕ) → v < m.nodes → Ok xs → Ok ys → new v xs ≡ new v ys → Mine v i → get_or (step v xs) i 0 ≡ get_or (step v ys) i 0
  step_mine v i xs ys l ok ko e (inl x) = subst (λ z. get_or (step v xs) z 0 ≡ get_or (step v ys) z 0) (sym x) (step_rank v xs l ok ∙ e ∙ sym (step_rank v ys l ko))
  step_mine v i xs ys l ok ko e (inr x) =
      let j = i - (m.nodes + arcs_before m v) in
      let y : m.nodes + arcs_before m v + j ≡ i = omega arith in
      let h : j < length (ports m v) = omega arith in
      subst (λ z. get_or (step v xs) z 0 ≡ get_or (step v ys) z 0) y (step_slot v j xs l ok h ∙ ap (λ z. get_or (slots m.nodes t v (z + 1) (ports m v)) j 0) e ∙ sym (step_slot v j ys l ko h))

  module _ (near : Near m t) (h : ℕ) (d : ℕ → ℕ) (depths : Depths m.nodes (parents t) d) (great : Greatest m.nodes d h) where
    -- the parent's slot for v is the parent's
    parent_slot : (v w : ℕ) → v < m.nodes → parents t v ≡ suc w → (w < m.nodes) × (port_to v (ports m w) < length (ports m w)) × Mine w (slot m w v) × (d v ≡ suc (d w))
    parent_slot v w l e =
        let b = port_low v (ports m w) (child_port m proper.drawn t near v w l e) in
        let k = depths.link v w l e in
        (k.0, b, inr (omega arith, omega arith), k.1)

    seen : (v u : ℕ) (xs : List ℕ) → v < m.nodes → u < m.nodes → d v ≤ d u → new v (step u xs) ≡ new v xs
    seen v u xs l k p = go (t v).parent refl
      where
        go : (o : Option ℕ) → (t v).parent ≡ o → rank_from m o v (step u xs) ≡ rank_from m o v xs
        go None e = refl
        go (Some w) e =
            let a = parent_slot v w l (ap stored e) in
            ap (min m.nodes) (step_other u (slot m w v) xs (λ b. separate w u (slot m w v) a.0 k (λ q. let z = ap d q in absurd (omega (arith, a.3))) a.2 b))

    rank_owned : Owned m.nodes h step Ok d Mine ℕ new
    rank_owned = record {
      low = great.0;
      kept = λ v xs l ok. rank_keeps v xs ok;
      same_length = step_length;
      mine? = λ v i. either? (cases_eq i v) (both? (le? (m.nodes + arcs_before m v) i) (lt? i (m.nodes + arcs_before m v + length (ports m v))));
      separate = separate;
      others = λ v i xs l ne. step_other v i xs ne;
      mine = step_mine;
      seen = λ v u xs l k p ok. seen v u xs l k p;
    }

    rank_met : (xs : List ℕ) → Ok xs → ((v : ℕ) → v < m.nodes → step v xs ≡ xs) → RanksRight m (told_by (ranker m) t xs)
    rank_met xs ok fix = record {
      top = λ v l e. held v l ∙ ap (λ o. rank_from m o v xs) e;
      next = next;
    }
      where
        held : (v : ℕ) → v < m.nodes → get_or xs v 0 ≡ new v xs
        held v l = ap (λ z. get_or z v 0) (sym (fix v l)) ∙ step_rank v xs l ok

        next : (v w : ℕ) → v < m.nodes → (t v).parent ≡ Some w → get_or xs v 0 ≡ min m.nodes (get_or xs w 0 + 1 + counts_before m t w v)
        next v w l e =
            let p : parents t v ≡ suc w = ap stored e in
            let a = parent_slot v w l p in
            let x : get_or xs (slot m w v) 0 ≡ get_or (filled w xs) (port_to v (ports m w)) 0 = ap (λ z. get_or z (slot m w v) 0) (sym (fix w a.0)) ∙ step_slot w (port_to v (ports m w)) xs a.0 ok a.1 in
            let y = slot_at m.nodes t w v (ports m w) (new w xs + 1) (child_port m proper.drawn t near v w l p) p in
            let b = held v l ∙ ap (λ o. rank_from m o v xs) e in
            let c = held w a.0 in
            omega arith

  pub ranks_settle : (near : Near m t) (h : ℕ) → Tall m.nodes t h → From step m.nodes Ok (suc h) (Fixed m (ranker m) t)
  ranks_settle near h tall xs ts ok b k =
      let e = deep m proper.drawn t near h tall in
      (owned_settles m.nodes h step Ok e.0 Mine ℕ new (rank_owned near h e.0 e.1 e.2) (let s = proper.drawn.some in omega arith) xs ts ok b k).1

  pub ranks_met : (h : ℕ) (xs : List ℕ) → Near m t → Tall m.nodes t h → Ok xs → Fixed m (ranker m) t xs → RanksRight m (told_by (ranker m) t xs)
  ranks_met h xs near tall ok fix = let e = deep m proper.drawn t near h tall in rank_met near h e.0 e.1 e.2 xs ok fix

pub ranker_laws : (m : Model) → Proper m → LayerLaws m (ranker m)
ranker_laws m proper = record {
  keeps = λ t v xs l ok. rank_keeps m proper t v xs ok;
  passes = λ o x. refl;
  back = λ o. (o.rank, λ x. refl);
  settles = λ t h near tall. ranks_settle m proper t near h tall;
  meets = λ t h xs near tall ok fix. ranks_met m proper t h xs near tall ok fix;
}

pub rank_laws : (m : Model) (p : Protocol) → Proper m → Laws m p → Laws m (rank m p)
rank_laws m p proper law = layered_laws m (ranker m) p proper (ranker_laws m proper) law
