-- Draws until the bound.
use Rattle.std.proofs.Common.{◌≡◌, ℕ, List, Err, sym, ap, ◌∙◌, subst}
use Rattle.refusal.specs.declared.Refusal.{Refusal}
use Rattle.protocol.specs.Protocols.{told_bound}
use Rattle.site.specs.Sites.{model}
use Rattle.silent.specs.declared.Silent.{Ghosts}
use Rattle.daemon.specs.declared.Daemon as daemon
use Rattle.net.specs.declared.net.Net.{Net}
use Rattle.net.specs.Calls.{at, meant, Does, Stays, drawing}
use Rattle.net.specs.Settling.{Drew, Early, Settles}

-- the told bound of a net stays
pub told_stays : {X : Type 0} (g : Ghosts X) (a z : Net X) → Stays g a z → told_bound (meant g z) ≡ told_bound (meant g a)
told_stays g a z s = ap (λ t. told_bound (g.meaning (g.plan z.protocol) (model t))) s.0 ∙ ap (λ p. told_bound (g.meaning p (at a))) s.1

-- a declined draw stops
pub stopped : {X D : Type 0} (g : Ghosts X) (e : daemon.Ghosts D) (a b z : Net X) (d c y : D) (vs : List ℕ) (r : Refusal) → Drew g e a d vs b c → Early g b → Does g b (drawing e c y) (Err r) z → y ≡ c → Settles g e a d (Err r) z y
stopped g e a b z d c y vs r w l s q = (vs, b, subst (λ x. Drew g e a d vs b x) (sym q) w, l, subst (λ x. Does g b (drawing e x y) (Err r) z) (sym q) s)
