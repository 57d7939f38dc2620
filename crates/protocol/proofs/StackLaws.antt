-- The theorems about layers and the stack.
use Rattle.std.proofs.Common.{◌≡◌, ℕ, suc, ◌<◌, List, sym, refl, ap, ◌∙◌, arith}
use Rattle.graph.specs.Model.{Model, Proper, height}
use Rattle.graph.proofs.Drawn.{arcs_are}
use Rattle.rounds.specs.Preorder.{Rooted}
use Rattle.rounds.specs.Rounds.{Completes}
use Rattle.rounds.specs.Runs.{run, Below}
use Rattle.rounds.proofs.RankRules.{rank_place, rank_each}
use Rattle.rounds.proofs.RunsLaws.{kept_run}
use Rattle.protocol.specs.declared.Output.{Output}
use Rattle.protocol.specs.Outputs.{stored, with_mate}
use Rattle.protocol.specs.Protocols.{Protocol, Registers, Laws}
use Rattle.protocol.specs.Layers.{Layer, Near, children}
use Rattle.protocol.specs.Gather.{Gathering}
use Rattle.protocol.specs.Count.{CountsRight, count}
use Rattle.protocol.specs.Rank.{RanksRight, ranker}
use Rattle.protocol.specs.Tree.{BreadthFirst, Legitimate, tree}
use Rattle.protocol.specs.Matching.{MaximalMatching, matching}
use Rattle.protocol.specs.Stack.{LayersStand, tour, stack, Counts, Tours, Tells, Agree, StackStands}
use Rattle.protocol.proofs.FirstLaws.{stored_none}
use Rattle.protocol.proofs.TreeParents.{parent_legitimate, legitimate_parent, legitimate_tall, tells_tree, tells_one}
use Rattle.protocol.proofs.TreeLaws.{tree_laws}
use Rattle.protocol.proofs.MatchingLaws.{matching_laws, matching_stands_lem}
use Rattle.protocol.proofs.LayerForest.{parents, ordered_children, deep}
use Rattle.protocol.proofs.LayerLaws.{settles_over, layered_laws}
use Rattle.protocol.proofs.GatherLaws.{gather_settles, rest_gathered}
use Rattle.protocol.proofs.CountLaws.{count_rule, counter_laws, count_laws}
use Rattle.protocol.proofs.RankLaws.{rank_turn_one, rank_turn, ranker_laws, rank_laws}
use Rattle.protocol.proofs.RankPreorder.{ranked}
use Rattle.protocol.proofs.BesideLaws.{beside_laws}
use Rattle.protocol.proofs.StackAgree.{counts_same, counts_one, ranks_same, ranks_one}

pub layers_stand_lem : (a : Layer) (g : Gathering) (p q : Protocol) → LayersStand a g p q
layers_stand_lem a g p q = record {
  over = λ m proper own law. settles_over m a p proper own law;
  layer = λ m proper own law. layered_laws m a p proper own law;
  gathers = λ m t h proper law near tall. gather_settles m g proper law t near h tall;
  gathered = λ m t xs proper law ok fix. rest_gathered m g proper law t xs ok fix;
  counter_laws = counter_laws;
  count_laws = λ m proper law. count_laws m p proper law;
  ranker_laws = ranker_laws;
  rank_laws = λ m proper law. rank_laws m p proper law;
  count_rule = count_rule;
  rank_rule = λ m t v xs proper l ok. rank_turn m proper t v xs l ok;
  rank_only = λ m t v xs ys proper l ok r. rank_turn_one m t v xs ys ((ranker m).rule t v xs) l r (rank_turn m proper t v xs l ok);
  beside_laws = λ m proper left right_side. beside_laws m p q proper left right_side;
}

-- what legitimate outputs of the tour are made of
pub record Parts (m : Model) (t : ℕ → Output) : Type 0 where
  pub tree : Legitimate m t
  pub counts : CountsRight m t
  pub ranks : RanksRight m t

module _ (m : Model) (proper : Proper m) where
  parts : (t : ℕ → Output) → (tour m).Legitimate t → Parts m t
  parts t h = let l = h.1.1.1.1 in record { tree = record { root = l.root; other = l.other }; counts = h.1.1.0; ranks = h.0 }

  pub whole : (t : ℕ → Output) → Parts m t → (tour m).Legitimate t
  whole t h = (h.ranks, ((λ v. (t v).rank), (h.counts, ((λ v. (t v).count), h.tree))))

  pub near_tree : (t : ℕ → Output) → Legitimate m t → Near m t
  near_tree t h v u l e = ((tells_tree m proper t h).nearer v u l e).0

  counted : (t : ℕ → Output) → (count m (tree m)).Legitimate t → Counts m t
  counted t h = let l = h.1.1 in record { tree = tells_tree m proper t (record { root = l.root; other = l.other }); sizes = h.0 }

  rooted : (t : ℕ → Output) → BreadthFirst m t → Rooted m.nodes (parents t) m.root
  rooted t b = record {
    node = proper.drawn.rooted;
    top = ap stored b.root;
    only = λ v l e. b.only v l (stored_none (t v).parent e);
  }

  toured : (t : ℕ → Output) → Parts m t → Counts m t × Tours m t
  toured t h =
      let near = near_tree t h.tree in
      let b = tells_tree m proper t h.tree in
      let e = deep m proper.drawn t near (height m) (legitimate_tall m proper t h.tree) in
      let r = ranked m proper t near e.0 e.1 h.counts h.ranks in
      let o = ordered_children m proper.drawn t near in (
        record { tree = b; sizes = h.counts },
        record {
          place = rank_place m.nodes (parents t) e.0 (children m t) m.root e.1 o (rooted t b) (λ v. (t v).count) (λ v. (t v).rank) h.counts r;
          each = rank_each m.nodes (parents t) e.0 (children m t) m.root e.1 o (rooted t b) (λ v. (t v).count) (λ v. (t v).rank) h.counts r;
        },
      )

  agree : (s t : ℕ → Output) → Parts m s → Parts m t → Agree m.nodes s t
  agree s t a b v l =
      let near = near_tree s a.tree in
      let p = tells_one m s t a.tree b.tree in
      let c = counts_one m proper.drawn s t near p a.counts b.counts in
      let e = deep m proper.drawn s near (height m) (legitimate_tall m proper s a.tree) in
      (p v l, c v l, ranks_one m proper.drawn s t near p c e.0 e.1 a.ranks b.ranks (suc (e.0 v)) v l (omega arith))

  same : (s t : ℕ → Output) → Parts m s → Agree m.nodes s t → Parts m t
  same s t a e =
      let near = near_tree s a.tree in
      let p : (v : ℕ) → v < m.nodes → (s v).parent ≡ (t v).parent = λ v l. (e v l).0 in
      let c : (v : ℕ) → v < m.nodes → (s v).count ≡ (t v).count = λ v l. (e v l).1 in
      record {
        tree = parent_legitimate m proper t (λ v l. sym (e v l).0 ∙ legitimate_parent m s a.tree v l);
        counts = counts_same m proper.drawn s t near p c a.counts;
        ranks = ranks_same m proper.drawn s t near p c (λ v l. (e v l).2) a.ranks;
      }

  pub stack_laws : Laws m (stack m)
  stack_laws = beside_laws m (tour m) (matching m) proper (rank_laws m (count m (tree m)) proper (count_laws m (tree m) proper (tree_laws m proper))) (matching_laws m proper)

  stack_parts : (t : ℕ → Output) → (stack m).Legitimate t → (tour m).Legitimate t × MaximalMatching m t
  stack_parts t h =
      let s : ℕ → Output = λ v. with_mate (t v) (h.0.0 v) in
      let b = h.1.1 in
      (whole t (same s t (parts s h.0.1) (λ v l. (refl, refl, refl))), matching_stands_lem.maximal m proper t (record { near = b.near; both = b.both; full = b.full }))

  parts_stack : (t : ℕ → Output) → (tour m).Legitimate t × MaximalMatching m t → (stack m).Legitimate t
  parts_stack t h = (((λ v. (t v).mate), h.0), (t, matching_stands_lem.legitimate m proper t h.1))

  stack_tells : (t : ℕ → Output) → (stack m).Legitimate t → Tells m t
  stack_tells t h = let p = stack_parts t h in let a = toured t (parts t p.0) in record { counts = a.0; tours = a.1; mates = p.1 }

  stack_settles : (xs ts : List ℕ) → Registers (stack m).size xs → Below m.nodes ts → Completes m.nodes (stack m).bound ts → Tells m ((stack m).output (run (stack m).turn ts xs))
  stack_settles xs ts r b k =
      let law = stack_laws in
      let ys = run (stack m).turn ts xs in
      stack_tells ((stack m).output ys) (law.right ys (kept_run (List ℕ) (stack m).turn (Registers (stack m).size) m.nodes law.keeps ts xs b r) (law.settles xs ts r b k))

pub stack_stands_lem : StackStands
stack_stands_lem = record {
  laws = stack_laws;
  size = λ m proper. let a = arcs_are m proper.drawn in omega arith;
  bound = λ m. omega arith;
  height = λ m. refl;
  counts = λ m proper t h. counted m proper t h;
  tours = λ m proper t h. toured m proper t (parts m proper t h);
  parts = λ m proper t. (stack_parts m proper t, parts_stack m proper t);
  settles = λ m proper xs ts r b k. stack_settles m proper xs ts r b k;
  one = λ m proper s t a b. agree m proper s t (parts m proper s a) (parts m proper t b);
  same = λ m proper s t a e. whole m proper t (same m proper s t (parts m proper s a) e);
}
