-- Draws of one daemon, with any other turns between them, complete a round for each of its patience.
use Rattle.std.proofs.Common.{◌≡◌, ℕ, suc, ◌+◌, ◌*◌, ◌<◌, ◌≤◌, ◌⊎◌, List, [], ◌∷◌, ◌++◌, sym, refl, ap, ◌∙◌, subst, inl, inr, append_assoc, append-nil, mul-le-mul_right, mul-le-mul_left, one-mul, mul-zero, mul-suc, arith}
use Rattle.std.proofs.lemmas.Bool.{cases_eq, cases_lt}
use Rattle.lists.specs.Members.{Among}
use Rattle.lists.proofs.Elements.{among_append_left, among_push}
use Rattle.rounds.specs.Rounds.{Completes, Blocks}
use Rattle.rounds.proofs.RoundsLaws.{blocks, completes_fewer, exists, monotone}
use Rattle.rounds.specs.Dues.{Dues as Daemon, Timely, Asked}
use Rattle.promise.specs.History.{Event, turned, drawn, faulted, held, released, since, Draws, first, other, next}
use Rattle.promise.proofs.Sound.{Fair}

-- j draws of a daemon of patience w, which stands as d: whole blocks of w, in each of which every node has a turn,
-- and `more` draws since; a node with no turn since is due before w are done
record Drew (n w : ℕ) (d : Daemon) (j : ℕ) (ts : List ℕ) : Type 0 where
  nodes : d.nodes ≡ n
  patience : d.patience ≡ w
  timely : Timely d
  whole : ℕ
  more : ℕ
  front : List ℕ
  back : List ℕ
  splits : front ++ back ≡ ts
  blocked : Blocks n whole front
  draws : j ≡ w * whole + more
  few : more < w
  waits : (v : ℕ) → v < n → Among v back ⊎ (d.due v + more ≤ w)

pushed : (front back ts : List ℕ) (v : ℕ) → front ++ back ≡ ts → front ++ (back ++ (v ∷ [])) ≡ ts ++ (v ∷ [])
pushed front back ts v e = sym (append_assoc front back (v ∷ [])) ∙ ap (λ q. q ++ (v ∷ [])) e

-- a turn that is no draw of it
drew_other : (n w : ℕ) (d : Daemon) (j : ℕ) (ts : List ℕ) (v : ℕ) → Drew n w d j ts → Drew n w d j (ts ++ (v ∷ []))
drew_other n w d j ts v c = record {
  nodes = c.nodes;
  patience = c.patience;
  timely = c.timely;
  whole = c.whole;
  more = c.more;
  front = c.front;
  back = c.back ++ (v ∷ []);
  splits = pushed c.front c.back ts v c.splits;
  blocked = c.blocked;
  draws = c.draws;
  few = c.few;
  waits = λ u l. elim (c.waits u l) [ inl i ↦ inl (among_append_left u c.back (v ∷ []) i) | inr i ↦ inr i ];
}

-- a draw of it
drew_next : (n w : ℕ) (d y : Daemon) (j : ℕ) (ts : List ℕ) (v : ℕ) → Drew n w d j ts → Asked d v y → Drew n w y (suc j) (ts ++ (v ∷ []))
drew_next n w d y j ts v c a = elim (cases_lt (suc c.more) w) [ inl l ↦ part l | inr l ↦ full l ]
  where
    waits : (u : ℕ) → u < n → Among u (c.back ++ (v ∷ [])) ⊎ (y.due u + suc c.more ≤ w)
    waits u l = elim (cases_eq u v) [ inl e ↦ inl (subst (λ q. Among q (c.back ++ (v ∷ []))) (sym e) (among_push v c.back)) | inr e ↦ elim (c.waits u l) [ inl i ↦ inl (among_append_left u c.back (v ∷ []) i) | inr i ↦ inr (let f = a.falls u (let q = c.nodes in omega arith) e in omega arith) ] ]

    part : suc c.more < w → Drew n w y (suc j) (ts ++ (v ∷ []))
    part l = record {
      nodes = a.nodes ∙ c.nodes;
      patience = a.patience ∙ c.patience;
      timely = a.timely;
      whole = c.whole;
      more = suc c.more;
      front = c.front;
      back = c.back ++ (v ∷ []);
      splits = pushed c.front c.back ts v c.splits;
      blocked = c.blocked;
      draws = (let e = c.draws in omega arith);
      few = l;
      waits = waits;
    }

    due : (u : ℕ) → u < n → (1 ≤ y.due u) × (y.due u ≤ y.patience)
    due u l = a.timely u (let q = c.nodes in let e = a.nodes in omega arith)

    full : w ≤ suc c.more → Drew n w y (suc j) (ts ++ (v ∷ []))
    full l = record {
      nodes = a.nodes ∙ c.nodes;
      patience = a.patience ∙ c.patience;
      timely = a.timely;
      whole = suc c.whole;
      more = 0;
      front = ts ++ (v ∷ []);
      back = [];
      splits = append-nil (ts ++ (v ∷ []));
      blocked = (c.front, c.back ++ (v ∷ []), pushed c.front c.back ts v c.splits, c.blocked, λ u i. elim (waits u i) [ inl x ↦ x | inr x ↦ absurd (let q = (due u i).0 in omega arith) ]);
      draws = (let e = c.draws in let f = c.few in let q = mul-suc w c.whole in omega arith);
      few = (let f = c.few in omega arith);
      waits = λ u i. inr (let q = (due u i).1 in let e = a.patience in let f = c.patience in omega arith);
    }

drew : (n w : ℕ) (d : Daemon) (j : ℕ) (h : List Event) → 0 < n → Draws d j h → d.nodes ≡ n → d.patience ≡ w → Fair n h → Drew n w d j (since h)
drew n w d j h some (first o q) e i f = record {
  nodes = e;
  patience = i;
  timely = q;
  whole = 0;
  more = 0;
  front = [];
  back = since h;
  splits = refl;
  blocked = refl;
  draws = (let z = mul-zero w in omega arith);
  few = (let t = q 0 (omega arith) in omega arith);
  waits = λ v l. inr (let t = q v (omega arith) in omega arith);
}
drew n w d j h some (other (turned v) x c) e i f = drew_other n w d j _ v (drew n w d j _ some c e i f)
drew n w d j h some (other (drawn b v y) x c) e i f = drew_other n w d j _ v (drew n w d j _ some c e i f.2)
drew n w d j h some (other (faulted k y) x c) e i f = absurd x
drew n w d j h some (other held x c) e i f = drew n w d j _ some c e i f
drew n w d j h some (other released x c) e i f = drew n w d j _ some c e i f
drew n w y j h some (next {d = d} {j = k} v c) e i f = drew_next n w d y k _ v (drew n w d k _ some c f.0 (sym f.1.patience ∙ i) f.2) f.1

-- of a daemon for another number of nodes no draw is accepted
idle : (n : ℕ) (d : Daemon) (j : ℕ) (h : List Event) → Draws d j h → (d.nodes ≡ n → ⊥) → Fair n h → (j ≡ 0) × (0 < d.patience)
idle n d j h (first o q) e f = (refl, let t = q 0 o in omega arith)
idle n d j h (other (turned v) x c) e f = idle n d j _ c e f
idle n d j h (other (drawn b v y) x c) e f = idle n d j _ c e f.2
idle n d j h (other (faulted k y) x c) e f = absurd x
idle n d j h (other held x c) e f = idle n d j _ c e f
idle n d j h (other released x c) e f = idle n d j _ c e f
idle n y j h (next v c) e f = absurd (e (f.1.nodes ∙ f.0))

pub drawn_rounds : (n b : ℕ) (d : Daemon) (j : ℕ) (h : List Event) → 0 < n → Draws d j h → Fair n h → d.patience * b ≤ j → Completes n b (since h)
drawn_rounds n b d j h some c f l = elim (cases_eq d.nodes n) [ inl e ↦ reached (drew n d.patience d j h some c e refl f) | inr e ↦ none (idle n d j h c e f) ]
  where
    none : (j ≡ 0) × (0 < d.patience) → Completes n b (since h)
    none t = let x = exists n (since h) some in (x.0, x.1, (let q = mul-le-mul_right b t.1 in let z = one-mul b in let e = t.0 in omega arith), x.2)

    reached : Drew n d.patience d j (since h) → Completes n b (since h)
    reached c = completes_fewer n b c.whole (since h) most (subst (Completes n c.whole) c.splits (monotone n c.whole c.front c.back some (blocks n c.whole c.front some c.blocked)))
      where
        most : b ≤ c.whole
        most = elim (cases_lt c.whole b) [ inl q ↦ absurd (let x = mul-le-mul_left d.patience q in let y = mul-suc d.patience c.whole in let z = c.draws in let u = c.few in omega arith) | inr q ↦ q ]
