-- The matching is lawful at every site.
use Rattle.std.proofs.Common.{◌≡◌, ℕ, ◌<◌, List, refl, ◌∙◌, arith, length-set}
use Rattle.std.proofs.ByRecursion.{All-set}
use Rattle.graph.specs.Model.{Model, Drawn, Proper}
use Rattle.protocol.specs.Protocols.{Registers, Laws}
use Rattle.protocol.specs.Matching.{new_register, register, turn, matching, MatchingLaws}
use Rattle.protocol.proofs.MatchingRules.{new_low, rule_fits}
use Rattle.protocol.proofs.MatchingSettles.{rest_still, matching_settles}
use Rattle.protocol.proofs.MatchingRest.{rest_matched, mate_told}
use Rattle.protocol.proofs.MatchingMaximal.{maximal_matching, maximal_matched}

pub turn_keeps : (m : Model) (drawn : Drawn m) (v : ℕ) (xs : List ℕ) → Registers m.nodes xs → Registers m.nodes (turn m v xs)
turn_keeps m drawn v xs h =
    let n = new_low m (register xs) v drawn in
    (length-set xs v (new_register m (register xs) v) ∙ h.0, All-set (λ x. x < 65536) xs v (new_register m (register xs) v) (omega arith) h.1)

pub matching_laws : (m : Model) → Proper m → Laws m (matching m)
matching_laws m proper = record {
  keeps = λ v xs l h. turn_keeps m proper.drawn v xs h;
  near = λ xs v u l h e. absurd (let z : ◌≡◌ {A = ℕ} 0 1 = cc in omega arith);
  still = λ xs h r v l. rest_still m xs r v l;
  right = λ xs h r. rest_matched m proper.drawn xs r;
  settles = λ xs ts h bel k. matching_settles m proper.drawn xs ts h.0 bel k;
  tall = λ xs h r. record { most = λ v l. (0, omega arith, refl); longest = (m.root, proper.drawn.rooted, refl) };
}

pub matching_stands_lem : MatchingLaws
matching_stands_lem = record {
  rules = rule_fits;
  mates = mate_told;
  laws = matching_laws;
  maximal = λ m proper t h. maximal_matching m proper.drawn t h;
  legitimate = λ m proper t h. maximal_matched m proper.drawn t h;
}
