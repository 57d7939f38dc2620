-- What a reader answers at a place is one thing.
use Rattle.std.proofs.Common.{◌≡◌, ℕ, ◌+◌, List, [], ◌∷◌, ◌++◌, Err, sym, refl, ap, ◌∙◌}
use Rattle.text.specs.declared.fault.ScanFault.{ScanFault}
use Rattle.text.specs.declared.fault.ScanFault.TheVariants.{Form, Lacking, Trailing}
use Rattle.text.specs.Page.{Lacks}
use Rattle.text.specs.Spots.{Spot, Takes, Why, AtEnd}
use Rattle.text.specs.Cuts.{cut_once, no_cut}

module _ {X : Type 0} (bytes : X → List ℕ) (plain : (x : X) → Lacks 10 (bytes x)) where
  -- what stands before the first line feed is no written form
  pub not_form :
      (p : Spot) (l more : List ℕ) → p.rest ≡ l ++ (10 ∷ more) → Lacks 10 l → ((x : X) → l ≡ bytes x → ⊥) → Why bytes p (Form (p.line + 1))
  not_form p l more cut none not =
      (refl, (λ lacks. no_cut 10 p.rest l more lacks cut), λ x m e. not x (cut_once 10 l (bytes x) more m none (plain x) (sym cut ∙ e)).0)

  -- one line is read, in one way
  pub takes_once :
      ((x y : X) → bytes x ≡ bytes y → x ≡ y) → (p : Spot) (x y : X) (q r : Spot) → Takes bytes p x q → Takes bytes p y r → (x ≡ y) × (q ≡ r)
  takes_once once p x y q r t u =
      let h = cut_once 10 (bytes x) (bytes y) q.rest r.rest (plain x) (plain y) (sym t.0 ∙ u.0) in
      let l : q.line ≡ r.line = t.1 ∙ sym u.1 in
      (once x y h.0, λ i. record { rest = h.1 i; line = l i })

pub takes_not_why : {X : Type 0} (bytes : X → List ℕ) (p : Spot) (x : X) (q : Spot) (e : ScanFault) → Takes bytes p x q → Why bytes p e → ⊥
takes_not_why bytes p x q (Form l) t w = w.2 x q.rest t.0
takes_not_why bytes p x q (Lacking l) t w = no_cut 10 p.rest (bytes x) q.rest w.1 t.0
takes_not_why bytes p x q (Trailing l) t w = w

pub why_once : {X : Type 0} (bytes : X → List ℕ) (p : Spot) (d e : ScanFault) → Why bytes p d → Why bytes p e → d ≡ e
why_once bytes p (Form l) (Form m) v w = ap Form (v.0 ∙ sym w.0)
why_once bytes p (Form l) (Lacking m) v w = absurd (v.1 w.1)
why_once bytes p (Form l) (Trailing m) v w = absurd w
why_once bytes p (Lacking l) (Form m) v w = absurd (w.1 v.1)
why_once bytes p (Lacking l) (Lacking m) v w = ap Lacking (v.0 ∙ sym w.0)
why_once bytes p (Lacking l) (Trailing m) v w = absurd w
why_once bytes p (Trailing l) e v w = absurd v

pub end_not : (p : Spot) (e : ScanFault) → p.rest ≡ [] → AtEnd p (Err e) → ⊥
end_not p (Form l) none h = h
end_not p (Lacking l) none h = h
end_not p (Trailing l) none h = h.1 none

pub end_once : (p : Spot) (d e : ScanFault) → AtEnd p (Err d) → AtEnd p (Err e) → d ≡ e
end_once p (Form l) e h k = absurd h
end_once p (Lacking l) e h k = absurd h
end_once p (Trailing l) (Form m) h k = absurd k
end_once p (Trailing l) (Lacking m) h k = absurd k
end_once p (Trailing l) (Trailing m) h k = ap Trailing (h.0 ∙ sym k.0)
