-- Draws from counters at zero, up to the bound.
use Rattle.std.proofs.Common.{◌≡◌, ℕ, suc, ◌<◌, ◌≤◌, List, [], ◌∷◌, ◌++◌, length, Ok, Err, Result, sym, refl, ap, ◌∙◌, subst, ⊎_elim, arith}
use Rattle.std.proofs.Math.Nat.{le-mul_of_pos_right}
use Rattle.std.proofs.lemmas.Bool.{cases_lt}
use Rattle.refusal.specs.declared.Refusal.{Refusal}
use Rattle.rounds.specs.Rounds.{Completes, Splits}
use Rattle.rounds.specs.Runs.{run}
use Rattle.rounds.proofs.RoundsLaws.{grows, nil_covers_none, splits_completes, unique}
use Rattle.site.specs.Sites.{model}
use Rattle.protocol.specs.Protocols.{Laws, Registers, told_bound, turn_budget}
use Rattle.silent.specs.declared.Silent.{Ghosts}
use Rattle.daemon.specs.declared.Daemon as daemon
use Rattle.daemon.specs.Dues.{Askings, Run}
use Rattle.daemon.proofs.AskingsLaws.{completes_rounds}
use Rattle.promise.specs.declared.Drawn.{Drawn}
use Rattle.rounds.specs.Dues.{Dues, Asked, Timely}
use Rattle.promise.specs.Nets.{Step}
use Rattle.promise.proofs.Right.{last_told}
use Rattle.promise.proofs.Sound.{Core, core_fresh, core_turned, sized_run, equal, below}
use Rattle.net.specs.declared.net.Net.{Net}
use Rattle.net.specs.Calls.{Does, Stays, at, drawing, meant, state}
use Rattle.net.specs.Settling.{Able, Course, Drew, Early, Reached, Rests, Settles, none, more}
use Rattle.net.proofs.SettlingLaws.{told_stays}

run_more : {X : Type 0} (R : X → ℕ → X → Type 0) (vs : List ℕ) (a b z : X) (v : ℕ) → Run R a vs b → R b v z → Run R a (vs ++ (v ∷ [])) z
run_more R [] a b z v h q = (z, subst (λ x. R x v z) h q, refl)
run_more R (u ∷ vs) a b z v h q = (h.0, h.1, run_more R vs h.0 b z v h.2 q)

-- the dues after askings are of as many nodes
same_nodes : (vs : List ℕ) (a z : Dues) → Askings a vs z → z.nodes ≡ a.nodes
same_nodes [] a z h = ap (λ d. d.nodes) h
same_nodes (v ∷ vs) a z h = same_nodes vs h.0 z h.2 ∙ h.1.nodes

module _ {X D : Type 0} (g : Ghosts X) (e : daemon.Ghosts D) (timely : (d : D) → Timely (e.meaning d)) (a : Net X) (d : D) where
  -- what draws from a make
  record Walked (vs : List ℕ) (z : Net X) (y : D) : Type 0 where
    stays : Stays g a z
    core : Core (at a) (meant g a) (state g a).registers vs a.mark a.held (state g z)
    asked : Run e.Asks d vs y
    askings : Askings (e.meaning d) vs (e.meaning y)

  -- a call of b as one of a's site and protocol
  same_step : (b z : Net X) (c y : D) (t : Drawn) → Stays g a b → Does g b (drawing e c y) (Ok t) z → Step (at a) (meant g a) (state g b) (drawing e c y) (Ok t) (state g z)
  same_step b z c y t k h = subst (λ q. Step (at a) (g.meaning q (at a)) (state g b) (drawing e c y) (Ok t) (state g z)) k.1 (subst (λ s. Step (model s) (g.meaning (g.plan b.protocol) (model s)) (state g b) (drawing e c y) (Ok t) (state g z)) k.0 h.1)

  module _ (some : 0 < (at a).nodes) (sized : Registers (meant g a).size (state g a).registers) (laws : Laws (at a) (meant g a)) (able : Able g e a d) where
    walked : (vs : List ℕ) (z : Net X) (y : D) → Drew g e a d vs z y → Walked vs z y
    walked _ _ _ none = record { stays = (refl, refl); core = core_fresh (at a) (meant g a) some laws (state g a).registers a.mark a.held (state g a) sized refl able.fresh refl refl; asked = refl; askings = refl }
    walked _ z y (more {vs = vs} {b = b} {c = c} t w l s q) =
        let k = walked vs b c w in
        let h = same_step b z c y t k.stays s in
        let same = equal _ _ h.0.0 in
        let left = below _ _ h.0.1.0 in
        let named = h.1.named in
        record {
          stays = (s.0.0 ∙ k.stays.0, s.0.1 ∙ k.stays.1);
          core = core_turned (at a) (meant g a) some laws (state g a).registers vs a.mark a.held (state g b) (state g z) t.node t.changed k.core (omega arith) left h.2;
          asked = run_more e.Asks vs d c y t.node k.asked q;
          askings = run_more Asked vs (e.meaning d) (e.meaning c) (e.meaning y) t.node k.askings h.1;
        }

    patience_some : 1 ≤ (e.meaning d).patience
    patience_some = let n = able.nodes in let t = timely d 0 (omega arith) in let x = t.0 in let y = t.1 in omega arith

    told_is_bound : told_bound (meant g a) ≡ (meant g a).bound
    told_is_bound = let t = able.turns in let l = le-mul_of_pos_right (told_bound (meant g a)) patience_some in omega arith

    -- turns that have not completed the bound's rounds are fewer than the net grants
    in_time : (vs : List ℕ) (b : Net X) (y : D) → Walked vs b y → Early g b → length vs < turn_budget
    in_time vs b y k early = ⊎_elim (λ l. l) (λ (over : turn_budget ≤ length vs). absurd (late over)) (cases_lt (length vs) turn_budget)
      where
        late : turn_budget ≤ length vs → ⊥
        late over =
            let t = able.turns in
            let s = k.core.tracks in
            let n = able.nodes in
            let done = completes_rounds (e.meaning d) (timely d) vs (e.meaning y) (told_bound (meant g a)) (omega arith) k.askings (omega arith) in
            let done-here = subst (λ m. Completes m (told_bound (meant g a)) vs) n done in
            let q = (unique (at a).nodes done-here.0 b.counters.rounds vs done-here.1 s.0 done-here.3 s.1).0 in
            let l = done-here.2 in
            let same = told_stays g a b k.stays in
            omega arith

    -- the draws end with the bound's last round
    ends : (vs : List ℕ) (z : Net X) (y : D) → Drew g e a d vs z y → Reached g z → Splits (at a).nodes (told_bound (meant g a)) vs [] × (z.counters.rounds ≡ told_bound (meant g a))
    ends _ z y none reached = let f = able.fresh.rounds in let none_left : 0 ≡ told_bound (meant g a) = omega arith in (subst (λ k. Splits (at a).nodes k [] []) none_left (refl, nil_covers_none (at a).nodes some), omega arith)
    ends _ z y (more {vs = vs} {b = b} {c = c} t w l s q) reached =
        let k = walked vs b c w in
        let j = walked (vs ++ (t.node ∷ [])) z y (more t w l s q) in
        let before = told_stays g a b k.stays in
        let after = told_stays g a z j.stays in
        let here = j.core.tracks in
        let n = (at a).nodes in
        ⊎_elim
        (λ same. let r : b.counters.rounds ≡ z.counters.rounds = (unique n _ _ _ _ _ same here.1).0 in absurd (omega arith))
        (λ closed. let r : suc b.counters.rounds ≡ z.counters.rounds = (unique n _ _ _ _ _ closed here.1).0 in let is : suc b.counters.rounds ≡ told_bound (meant g a) = omega arith in (subst (λ i. Splits n i (vs ++ (t.node ∷ [])) []) is closed, omega arith))
        (grows n b.counters.rounds vs k.core.tracks.0 t.node some k.core.tracks.1)

    course : (vs : List ℕ) (z : Net X) (y : D) → Drew g e a d vs z y → Reached g z → Course g e a d z y
    course vs z y w reached =
        let k = walked vs z y w in
        let h = ends vs z y w reached in
        let done = subst (λ b. Completes (at a).nodes b vs) told_is_bound (splits_completes (at a).nodes (told_bound (meant g a)) vs [] h.0) in
        let rest = laws.settles (state g a).registers vs sized k.core.nodes done in (
          vs,
          k.asked,
          record {
            stays = k.stays;
            nodes = k.core.nodes;
            rounds = h.0;
            counted = h.1;
            registers = k.core.registers;
            last = k.core.last;
            soon = last_told (at a) (meant g a) some laws (state g a).registers vs z.counters.last_change sized k.core.nodes k.core.few k.core.last;
            legitimate = subst (λ xs. (meant g a).Legitimate ((meant g a).output xs)) (sym k.core.registers) (laws.right (run (meant g a).turn vs (state g a).registers) (sized_run (at a) (meant g a) some laws vs (state g a).registers k.core.nodes sized) rest);
          },
        )

    -- no draw before that is declined
    never : (vs : List ℕ) (b z : Net X) (y : D) (r : Refusal) → Drew g e a d vs b y → Early g b → Does g b (drawing e y y) (Err r) z → ⊥
    never vs b z y r w early s =
        let k = walked vs b y w in
        let l = in_time vs b y k early in
        let turns = k.core.turns in
        let n = same_nodes vs (e.meaning d) (e.meaning y) k.askings ∙ able.nodes ∙ sym (ap (λ t. (model t).nodes) k.stays.0) in
        ⊎_elim (λ h. h.1 n) (λ h. ⊎_elim (λ i. let over = i.1 in omega arith) (λ i. i.1) h.1) s.1.0

pub rests : {X D : Type 0} (g : Ghosts X) (e : daemon.Ghosts D) → ((d : D) → Timely (e.meaning d)) → (a : Net X) (d : D) → 0 < (at a).nodes → Registers (meant g a).size (state g a).registers → Laws (at a) (meant g a) → (r : Result (Unit {0}) Refusal) (z : Net X) (y : D) → Settles g e a d r z y → Rests g e a d r z y
rests g e timely a d some sized laws (Ok u) z y h = λ able. course g e timely a d some sized laws able h.0 z y h.1 h.2
rests g e timely a d some sized laws (Err r) z y h = λ able. never g e timely a d some sized laws able h.0 h.1 z y r h.2 h.3 h.4
