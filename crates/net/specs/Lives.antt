-- Whole lives of a net of the code: the calls since it was set up, as a run of its plain data.
use Rattle.std.specs.Prelude.{◌≡◌, ℕ, List, [], ◌∷◌}
use Rattle.site.specs.declared.site.Site.{Site}
use Rattle.site.specs.Sites.{model}
use Rattle.silent.specs.declared.Silent.{Ghosts}
use Rattle.promise.specs.Nets.{Call, Answer}
use Rattle.promise.specs.History.{Exchange}
use Rattle.promise.specs.Promise.{Run}
use Rattle.net.specs.declared.net.Net.{Net}
use Rattle.net.specs.Calls.{state, Does, Starts}

-- the net z was set up over the site s and the protocol x with the mark own, and these calls were made of it, newest first
pub record Lived {X : Type 0} (g : Ghosts X) (s : Site) (x : X) (own : ℕ) (es : List Exchange) (z : Net X) : Type 0 where
  pub site : z.site.now ≡ s
  pub plan : g.plan z.protocol ≡ g.plan x
  pub run : Run (model s) (g.meaning (g.plan x) (model s)) (g.registers x (model s)) own es (state g z)

-- set-up begins a life, and each call goes on with it
pub record Lives {X : Type 0} (g : Ghosts X) : Type 0 where
  pub begins : (s : Site) (x : X) (own : ℕ) (z : Net X) → Starts g s x own z → Lived g s x own [] z
  pub goes_on : (s : Site) (x : X) (own : ℕ) (es : List Exchange) (a z : Net X) (c : Call) (r : Answer c) → Lived g s x own es a → Does g a c r z → Lived g s x own ((c, r) ∷ es) z
