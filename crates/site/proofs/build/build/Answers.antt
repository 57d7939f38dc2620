use Rattle.std.proofs.Common.{arith, ◌≡◌, ℕ, ◌+◌, ◌<◌, List, ◌∷◌, ◌++◌, map, length, get_or, take, drop, sym, ap, ◌∙◌, subst}
use Rattle.std.proofs.lemmas.List.{map_more, map-append, take-append-drop, drop_more, take_all}
use Rattle.std.proofs.lemmas.Grind.{common_steps}
use Rattle.refusal.specs.Checks.{First, Free}
use Rattle.graph.specs.Model.{Model, Reached}
use Rattle.site.specs.declared.link.Link.{Link}
use Rattle.site.specs.Entering.{AllFree, FirstOf, bare, whole, link_checks, with_link}
use Rattle.site.specs.Table.{ends}
use Rattle.site.proofs.Entries.{all_push, first_at}
use Rattle.site.proofs.build.build.Goals as goal

abbrev none : Link
none = record { a = 0; b = 0 }

-- the links before the one at hand, it, and those after it
parted : (ls : List Link) (i : ℕ) → i < length ls → map ends ls ≡ map ends (take i ls) ++ (ends (get_or ls i none) ∷ map ends (drop (i + 1) ls))
parted ls i l = ap (map ends) (sym (take-append-drop i ls)) ∙ map-append ends (take i ls) (drop i ls) ∙ ap (λ (xs : List Link). map ends (take i ls) ++ map ends xs) (drop_more ls i none l)

pub returns-in_err-enter : goal.returns-in_err-enter
returns-in_err-enter c =
    let n = c.args.nodes in
    let r = c.args.root in
    let ls = c.args.links.now in
    let i = c.loop-link.link-index in
    let l = get_or ls i none in
    let e = c.in_err-enter.field-0.0 in
    let inv = c.loop-link.invariant in
    let first : FirstOf (bare n r) (map ends ls) e =
    subst (λ (xs : List (ℕ × ℕ)). FirstOf (bare n r) xs e) (sym (parted ls i c.loop-link-test.true))
    (first_at (bare n r) (map ends (take i ls)) (ends l) (map ends (drop (i + 1) ls)) e inv.2
    (subst (λ (m : Model). First (link_checks m l.a l.b) e) inv.1 c.in_err-enter.ensures.0)) in
    grind (arith, common_steps, first)

pub loop-link-preserved : goal.loop-link-preserved
loop-link-preserved c =
    let n = c.args.nodes in
    let r = c.args.root in
    let ls = c.args.links.now in
    let i = c.loop-link.link-index in
    let l = get_or ls i none in
    let inv = c.loop-link.invariant in
    let h = c.in_ok-enter.ensures in
    let more = sym (map_more ends ls i none c.loop-link-test.true) in
    let free = all_push (bare n r) (map ends (take i ls)) (ends l) inv.2 (subst (λ (m : Model). Free (link_checks m l.a l.b)) inv.1 h.0) in
    (inv.0, h.1 ∙ ap (λ (m : Model). with_link m l.a l.b) inv.1 ∙ ap (whole n r) more, subst (AllFree (bare n r)) more free)

pub returns-in_err-finish : goal.returns-in_err-finish
returns-in_err-finish c =
    let n = c.args.nodes in
    let r = c.args.root in
    let ls = c.args.links.now in
    let inv = c.loop-link.invariant in
    let h = c.in_err-finish.ensures in
    let all = ap (map ends) (take_all c.loop-link.link-index ls c.loop-link-test.false) in
    let far : Reached (whole n r (map ends ls)) → ⊥ = λ g. h.1 (subst Reached (sym (inv.1 ∙ ap (whole n r) all)) g) in
    grind (arith, common_steps, far)
