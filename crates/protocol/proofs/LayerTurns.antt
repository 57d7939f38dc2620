-- Turns in two parts: what each part becomes, and when both settle.
use Rattle.std.proofs.Common.{◌≡◌, ℕ, ◌+◌, ◌<◌, max, List, [], ◌∷◌, ◌++◌, length, take, drop, sym, refl, ap, ◌∙◌, subst, inl, inr, arith, length-append, length-drop, take-append-drop, length-take}
use Rattle.std.proofs.lemmas.List.{take_at, drop_at}
use Rattle.std.proofs.ByRecursion.{All-append, All-take, All-drop}
use Rattle.rounds.specs.Runs.{run, Below, From}
use Rattle.rounds.proofs.RunsLaws.{kept_run, from_more}
use Rattle.protocol.specs.Protocols.{Protocol, Registers}
use Rattle.protocol.specs.Layers.{under, over, then_turn}

pub registers_front : (a b : ℕ) (xs : List ℕ) → Registers (a + b) xs → Registers a (take a xs)
registers_front a b xs r = (simp length-take (omega (arith, r.0)), All-take (λ x. x < 65536) a xs r.1)

pub registers_back : (a b : ℕ) (xs : List ℕ) → Registers (a + b) xs → Registers b (drop a xs)
registers_back a b xs r = (simp length-drop (omega (arith, r.0)), All-drop (λ x. x < 65536) a xs r.1)

pub registers_append : (a b : ℕ) (xs ys : List ℕ) → Registers a xs → Registers b ys → Registers (a + b) (xs ++ ys)
registers_append a b xs ys r s = (simp length-append (omega (arith, r.0, s.0)), All-append (λ x. x < 65536) xs ys r.1 s.1)

-- a turn that changes neither part changes nothing
pub then_still : (p : Protocol) (own : ℕ → List ℕ → List ℕ → List ℕ) (v : ℕ) (xs : List ℕ) → p.turn v (under p xs) ≡ under p xs → own v (under p xs) (over p xs) ≡ over p xs → then_turn p own v xs ≡ xs
then_still p own v xs a b = ap (λ z. z ++ own v z (over p xs)) a ∙ ap (λ z. under p xs ++ z) b ∙ take-append-drop p.size xs

module _ (n q : ℕ) (p : Protocol) (own : ℕ → List ℕ → List ℕ → List ℕ)
    (keeps-under : (v : ℕ) (xs : List ℕ) → v < n → Registers p.size xs → Registers p.size (p.turn v xs))
    (keeps-over : (v : ℕ) (below xs : List ℕ) → v < n → Registers q xs → Registers q (own v below xs)) where
  abbrev turn : ℕ → List ℕ → List ℕ
  turn = then_turn p own

  abbrev Full : List ℕ → Type 0
  Full = Registers (p.size + q)

  pub then_keeps : (v : ℕ) (xs : List ℕ) → v < n → Full xs → Full (turn v xs)
  then_keeps v xs l r = registers_append p.size q (p.turn v (under p xs)) (own v (p.turn v (under p xs)) (over p xs)) (keeps-under v (under p xs) l (registers_front p.size q xs r)) (keeps-over v (p.turn v (under p xs)) (over p xs) l (registers_back p.size q xs r))

  pub run_keeps : (ts xs : List ℕ) → Below n ts → Full xs → Full (run turn ts xs)
  run_keeps ts xs b r = kept_run (List ℕ) turn Full n then_keeps ts xs b r

  turn_length : (v : ℕ) (xs : List ℕ) → v < n → Full xs → length (p.turn v (under p xs)) ≡ p.size
  turn_length v xs l r = (keeps-under v (under p xs) l (registers_front p.size q xs r)).0

  turn_under : (v : ℕ) (xs : List ℕ) → v < n → Full xs → under p (turn v xs) ≡ p.turn v (under p xs)
  turn_under v xs l r = take_at (p.turn v (under p xs)) (own v (p.turn v (under p xs)) (over p xs)) p.size (turn_length v xs l r)

  turn_over : (v : ℕ) (xs : List ℕ) → v < n → Full xs → over p (turn v xs) ≡ own v (p.turn v (under p xs)) (over p xs)
  turn_over v xs l r = drop_at (p.turn v (under p xs)) (own v (p.turn v (under p xs)) (over p xs)) p.size (turn_length v xs l r)

  -- the first part runs by itself
  pub run_under : (ts xs : List ℕ) → Below n ts → Full xs → under p (run turn ts xs) ≡ run p.turn ts (under p xs)
  run_under [] xs b r = refl
  run_under (v ∷ ts) xs b r = let l = b v (inl refl) in run_under ts (turn v xs) (λ u k. b u (inr k)) (then_keeps v xs l r) ∙ ap (run p.turn ts) (turn_under v xs l r)

  -- where the first part stays as it is, the other runs by itself
  pub run_over : (below : List ℕ) → ((v : ℕ) → v < n → p.turn v below ≡ below) → (ts xs : List ℕ) → Below n ts → Full xs → under p xs ≡ below → (over p (run turn ts xs) ≡ run (λ v ys. own v below ys) ts (over p xs)) × (under p (run turn ts xs) ≡ below)
  run_over below still [] xs b r e = (refl, e)
  run_over below still (v ∷ ts) xs b r e =
      let l = b v (inl refl) in
      let f : p.turn v (under p xs) ≡ below = ap (p.turn v) e ∙ still v l in
      let s = run_over below still ts (turn v xs) (λ u k. b u (inr k)) (then_keeps v xs l r) (turn_under v xs l r ∙ f) in
      (s.0 ∙ ap (run (λ v ys. own v below ys) ts) (turn_over v xs l r ∙ ap (λ z. own v z (over p xs)) f), s.1)

  -- and so it does where it never reads the first part
  module _ (step : ℕ → List ℕ → List ℕ) (same : (v : ℕ) (below xs : List ℕ) → own v below xs ≡ step v xs) where
    pub run_apart : (ts xs : List ℕ) → Below n ts → Full xs → over p (run turn ts xs) ≡ run step ts (over p xs)
    run_apart [] xs b r = refl
    run_apart (v ∷ ts) xs b r = let l = b v (inl refl) in run_apart ts (turn v xs) (λ u k. b u (inr k)) (then_keeps v xs l r) ∙ ap (run step ts) (turn_over v xs l r ∙ same v (p.turn v (under p xs)) (over p xs))

    -- side by side, both settle within the greater number of rounds
    pub apart_settles : (P Q : List ℕ → Type 0) (a b : ℕ) → From p.turn n (Registers p.size) a P → From step n (Registers q) b Q → From turn n Full (max a b) (λ xs. P (under p xs) × Q (over p xs))
    apart_settles P Q a b f g xs ts r w k = (
      subst P (sym (run_under ts xs w r)) (from_more (List ℕ) p.turn (Registers p.size) P n a (max a b) (omega arith) f (under p xs) ts (registers_front p.size q xs r) w k),
      subst Q (sym (run_apart ts xs w r)) (from_more (List ℕ) step (Registers q) Q n b (max a b) (omega arith) g (over p xs) ts (registers_back p.size q xs r) w k),
    )
