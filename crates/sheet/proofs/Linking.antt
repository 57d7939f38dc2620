-- A link line entered into a builder is a line entered after those before it.
use Rattle.std.proofs.Common.{◌≡◌, ℕ, List, [], ◌∷◌, ◌++◌, Ok, Err, Result, IfOk, sym, ap, ◌∙◌, subst}
use Rattle.std.proofs.lemmas.List.{map-append}
use Rattle.refusal.specs.declared.Refusal.{Refusal}
use Rattle.refusal.specs.Checks.{First, Free}
use Rattle.graph.specs.Model.{Model, Proper, Reached}
use Rattle.site.specs.Entering.{link_checks, with_link}
use Rattle.site.specs.Entering.{Entered as Linked, Finished}
use Rattle.site.specs.Sites.{draft, model}
use Rattle.site.specs.declared.builder.SiteBuilder.{SiteBuilder}
use Rattle.site.specs.declared.site.Site.{Site}
use Rattle.text.specs.Lines.{link_bytes}
use Rattle.text.specs.Spots.{Spot, spot}
use Rattle.text.specs.declared.reader.Reader.{Reader}
use Rattle.text.specs.declared.records.LinkLine.{LinkLine}
use Rattle.sheet.specs.Entering.{Entered}
use Rattle.sheet.specs.Body.{Body, out, passed, refused}
use Rattle.sheet.specs.Faults.{located}
use Rattle.sheet.specs.Judge.{link_lines}
use Rattle.sheet.specs.Kinds.{ends, link_rules, site_of}
use Rattle.sheet.specs.declared.contents.Contents.{Contents}
use Rattle.sheet.specs.declared.fault.SheetFault.TheVariants.{Refused}
use Rattle.sheet.proofs.Stops.{links_pass, links_unreached}

one_more : (k : ℕ) (before : List LinkLine) (x : LinkLine) → with_link (site_of k before) x.a.value x.b.value ≡ site_of k (before ++ (x ∷ []))
one_more k before x = ap (λ (ls : List (ℕ × ℕ)). record { nodes = k; root = 0; links = ls }) (sym (map-append ends before (x ∷ [])))

pub link_entered :
    (k : ℕ) (before : List LinkLine) (x : LinkLine) (m : Model) (a b : ℕ) (r : Result (Unit {0}) Refusal) (z : SiteBuilder) → m ≡ site_of k before → a ≡ x.a.value → b ≡ x.b.value
    → Linked m a b r (draft z) → Entered (λ (c : SiteBuilder) n ls. draft c ≡ site_of n ls) (link_rules k before x) k before x r z
link_entered k before x m a b (Ok u) z e p q h =
    let same : (m' : Model) (a' b' : ℕ) → Type 0 = λ m' a' b'. Free (link_checks m' a' b') × (draft z ≡ with_link m' a' b') in
    let t = subst (λ (m' : Model). same m' x.a.value x.b.value) e (subst (λ (a' : ℕ). same m a' x.b.value) p (subst (λ (b' : ℕ). same m a b') q h)) in
    (t.0, t.1 ∙ one_more k before x)
link_entered k before x m a b (Err c) z e p q h =
    (subst (λ (m' : Model). First (link_checks m' x.a.value x.b.value) c) e (subst (λ (a' : ℕ). First (link_checks m a' x.b.value) c) p (subst (λ (b' : ℕ). First (link_checks m a b') c) q h.0)), h.1 ∙ e)

-- the link lines read, and what finishing their site says of it
pub links_end :
    (ns : Contents) (p : Spot) (rd : Reader) (ls : List LinkLine) (m : Model) (r : Result Site Refusal) (line : ℕ) → m ≡ site_of ns.nodes.value ls
    → Body link_bytes link_rules ns.nodes.value ns.links.value p (passed ls (spot rd)) → line ≡ (spot rd).line → Finished m r
    → link_lines ns p (out ls rd (located r line)) × IfOk (located r line) (λ (s : Site). model s ≡ site_of ns.nodes.value ls)
links_end ns p rd ls m (Ok s) line held body at fin = (links_pass ns p ls (spot rd) body (subst Proper held fin.1).reached, fin.0 ∙ held)
links_end ns p rd ls m (Err e) line held body at fin =
    let stop = links_unreached ns p ls (spot rd) body (subst (λ (n : Model). Reached n → ⊥) held fin.1) in
    (subst (λ (l : ℕ). link_lines ns p (refused (Refused e l))) (sym at) (subst (λ (f : Refusal). link_lines ns p (refused (Refused f (spot rd).line))) (sym fin.0) stop), tt)
