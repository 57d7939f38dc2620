-- Set-up begins a life of a net, and each call goes on with it.
use Rattle.std.proofs.Common.{ℕ, List, [], ◌∷◌, ap, ◌∙◌, subst}
use Rattle.site.specs.declared.site.Site.{Site}
use Rattle.site.specs.Sites.{model}
use Rattle.silent.specs.declared.Silent.{Ghosts}
use Rattle.promise.specs.Nets.{Call, Answer, Step}
use Rattle.promise.specs.History.{Exchange}
use Rattle.net.specs.declared.net.Net.{Net}
use Rattle.net.specs.Calls.{state, Does, Starts}
use Rattle.net.specs.Lives.{Lived, Lives}

pub begins : {X : Type 0} (g : Ghosts X) (s : Site) (x : X) (own : ℕ) (z : Net X) → Starts g s x own z → Lived g s x own [] z
begins g s x own z t = record { site = t.0; plan = ap g.plan t.1; run = t.2 }

pub goes_on : {X : Type 0} (g : Ghosts X) (s : Site) (x : X) (own : ℕ) (es : List Exchange) (a z : Net X) (c : Call) (r : Answer c) → Lived g s x own es a → Does g a c r z → Lived g s x own ((c, r) ∷ es) z
goes_on g s x own es a z c r l d = record {
  site = d.0.0 ∙ l.site;
  plan = d.0.1 ∙ l.plan;
  run = (state g a, l.run, subst (λ q. Step (model s) (g.meaning q (model s)) (state g a) c r (state g z)) l.plan (subst (λ t. Step (model t) (g.meaning (g.plan a.protocol) (model t)) (state g a) c r (state g z)) l.site d.1));
}

pub lives : {X : Type 0} (g : Ghosts X) → Lives g
lives g = record { begins = begins g; goes_on = goes_on g }
