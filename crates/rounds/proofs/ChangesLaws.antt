-- The round of the last turn that changed the state.
use Rattle.std.proofs.Common.{◌≡◌, ℕ, zero, suc, ◌<◌, List, [], ◌∷◌, ◌++◌, length, sym, refl, ap, ◌∙◌, subst, inl, inr, append_assoc, append-nil, arith, length-append}
use Rattle.std.proofs.lemmas.Bool.{cases_lt, cases_order}
use Rattle.lists.proofs.Elements.{among_append_right}
use Rattle.rounds.specs.Rounds.{Splits}
use Rattle.rounds.specs.Runs.{Below}
use Rattle.rounds.specs.Changes.{Changes, Quiet, Latest, LastFirst, LastStays, LastNow, LastUnique, LastLow, Laws}
use Rattle.rounds.proofs.Fronts.{fronts, push_cases}
use Rattle.rounds.proofs.RoundsLaws.{unique}
use Rattle.rounds.proofs.RunsLaws.{below_left}

-- fronts of one length are the same
front_same : (a b c d : List ℕ) → a ++ b ≡ c ++ d → length a ≡ length c → a ≡ c
front_same a b c d q l = elim (fronts a b c d q) [ inl t ↦ left t.0 t.1 | inr t ↦ (let e = ap length t.2 in let f = length-append c (t.0 ∷ t.1) in absurd (omega arith)) ]
  where
    left : (e : List ℕ) → a ++ e ≡ c → a ≡ c
    left [] p = sym (append-nil a) ∙ p
    left (x ∷ e) p = let g = ap length p in let f = length-append a (x ∷ e) in absurd (omega arith)

module _ (S : Type 0) (step : ℕ → S → S) where
  quiet_more : (s : S) (ts : List ℕ) (v m : ℕ) → Quiet step s ts m → (Changes step s ts v → ⊥) → Quiet step s (ts ++ (v ∷ [])) m
  quiet_more s ts v m h calm front u back q l c = elim (push_cases front u back ts v q) [ inl t ↦ calm (subst (λ z. Changes step s z v) t.0 (subst (Changes step s front) t.1 c)) | inr t ↦ h front u t.0 t.1 l c ]

  pub last_first : LastFirst S step
  last_first n s front v back q l c = let a = ap length q in let b = length-append front (v ∷ back) in absurd (omega arith)

  pub last_stays : LastStays S step
  last_stays n s ts v zero h calm = quiet_more s ts v 0 h calm
  last_stays n s ts v (suc k) h calm = record {
    before = h.before;
    node = h.node;
    after = h.after ++ (v ∷ []);
    whole = sym (append_assoc h.before (h.node ∷ h.after) (v ∷ [])) ∙ ap (λ z. z ++ (v ∷ [])) h.whole;
    changes = h.changes;
    rest = h.rest;
    round = h.round;
    quiet = quiet_more s ts v (suc (length h.before)) h.quiet calm;
  }

  pub last_now : LastNow S step
  last_now n s ts r v k split c = record {
    before = ts;
    node = v;
    after = [];
    whole = refl;
    changes = c;
    rest = r;
    round = split;
    quiet = λ front u back q l e. let a = ap length q in let b = length-append front (u ∷ back) in let d = length-append ts (v ∷ []) in absurd (omega arith);
  }

  -- a turn that changed the state is not after the last that did
  not_after : (n : ℕ) (s : S) (ts : List ℕ) (k j : ℕ) → (h : Latest n step s ts k) (g : Latest n step s ts j) → length h.before < length g.before → ⊥
  not_after n s ts k j h g l = h.quiet g.before g.node g.after g.whole l g.changes

  pub last_unique : LastUnique S step
  last_unique n s ts zero zero a b = refl
  last_unique n s ts zero (suc j) a b = absurd (a b.before b.node b.after b.whole (omega arith) b.changes)
  last_unique n s ts (suc k) zero a b = absurd (b a.before a.node a.after a.whole (omega arith) a.changes)
  last_unique n s ts (suc k) (suc j) a b = elim (cases_order (length a.before) (length b.before)) [ inl e ↦ ap suc (same e) | inr o ↦ elim o [ inl x ↦ absurd (not_after n s ts k j a b x) | inr x ↦ absurd (not_after n s ts j k b a x) ] ]
    where
      same : length a.before ≡ length b.before → k ≡ j
      same e = (unique n k j a.before a.rest b.rest a.round (subst (λ z. Splits n j z b.rest) (sym (front_same a.before (a.node ∷ a.after) b.before (b.node ∷ b.after) (a.whole ∙ sym b.whole) e)) b.round)).0

  pub last_low : (P : S → Type 0) → LastLow S step P
  last_low P n b s ts zero settles p bel h = omega arith
  last_low P n b s ts (suc k) settles p bel h = elim (cases_lt k b) [ inl l ↦ l | inr l ↦ absurd (h.changes (settles s h.before p (below_left n h.before (h.node ∷ h.after) whole) (k, h.rest, l, h.round) h.node (whole h.node (among_append_right h.node h.before (h.node ∷ h.after) (inl refl))))) ]
    where
      whole : Below n (h.before ++ (h.node ∷ h.after))
      whole = subst (Below n) (sym h.whole) bel

pub laws : (S : Type 0) (step : ℕ → S → S) (holds : ℕ → S → Type 0) → Laws S step holds
laws S step holds = record {
  first = last_first S step;
  stays = last_stays S step;
  now = last_now S step;
  unique = last_unique S step;
  low = λ i. last_low S step (holds i);
}
