-- What the calls that build a site answer: the checks in their order, and what each outcome leaves.
use Rattle.std.specs.Prelude.{◌≡◌, ℕ, ◌<◌, ◌≤◌, ◌⊎◌, List, [], ◌∷◌, ◌++◌, length, Ok, Err, Result}
use Rattle.refusal.specs.declared.Refusal.{Refusal}
use Rattle.refusal.specs.declared.Refusal.TheVariants as refusal
use Rattle.refusal.specs.declared.fault.Fault.{Fault}
use Rattle.refusal.specs.declared.fault.Fault.TheVariants.{Refused, Memory}
use Rattle.refusal.specs.Checks.{Checks, First, Free, Judged, Made}
use Rattle.lists.specs.Members.{Among}
use Rattle.graph.specs.Model.{Model, ports, Reached, Proper}
use Rattle.site.specs.declared.builder.SiteBuilder.{SiteBuilder}
use Rattle.site.specs.declared.site.Site.{Site}
use Rattle.site.specs.Sites.{draft, model}

-- a number of nodes and a root, in the order of the checks
abbrev pub size_checks : ℕ → ℕ → Checks
size_checks n r = (refusal.Limit, (1 ≤ n) × (n ≤ 256) → ⊥) ∷ (refusal.Node, n ≤ r) ∷ []

-- a link of a and b after those of the site, in the order of the checks
abbrev pub link_checks : Model → ℕ → ℕ → Checks
link_checks m a b =
    (refusal.Order, (a < b) × (b < m.nodes) → ⊥)
    ∷ (refusal.Repeat, Among (a, b) m.links)
    ∷ (refusal.Full, (8 ≤ length (ports m a)) ⊎ (8 ≤ length (ports m b)))
    ∷ []

-- a site of n nodes and this root, with no links
abbrev pub bare : ℕ → ℕ → Model
bare n r = record { nodes = n; root = r; links = [] }

-- the site with one link more
abbrev pub with_link : Model → ℕ → ℕ → Model
with_link m a b = record { nodes = m.nodes; root = m.root; links = m.links ++ ((a, b) ∷ []) }

-- a builder was made
abbrev pub Begun : ℕ → ℕ → Result SiteBuilder Fault → Type 0
Begun n r = Made (size_checks n r) (λ b. draft b ≡ bare n r)

-- a builder was started in memory that was had before
abbrev pub Started : ℕ → ℕ → Result SiteBuilder Refusal → Type 0
Started n r = Judged (size_checks n r) (λ b. draft b ≡ bare n r)

-- a link was entered, or declined and nothing changed: the draft before, the link, the answer, the draft after
abbrev pub Entered : Model → ℕ → ℕ → Result (Unit {0}) Refusal → Model → Type 0
Entered m a b (Ok u) z = Free (link_checks m a b) × (z ≡ with_link m a b)
Entered m a b (Err e) z = First (link_checks m a b) e × (z ≡ m)

-- the site was finished, or some node is out of reach
abbrev pub Finished : Model → Result Site Refusal → Type 0
Finished m (Ok s) = (model s ≡ m) × Proper m
Finished m (Err e) = (e ≡ refusal.Unreached) × (Reached m → ⊥)

-- every link of the list is free of refusals when it is entered after those before it
abbrev pub AllFree : Model → List (ℕ × ℕ) → Type 0
AllFree m [] = Unit {0}
AllFree m (l ∷ ls) = Free (link_checks m l.0 l.1) × AllFree (with_link m l.0 l.1) ls

-- e is the refusal of the first link of the list that is declined
abbrev pub FirstOf : Model → List (ℕ × ℕ) → Refusal → Type 0
FirstOf m [] e = ⊥
FirstOf m (l ∷ ls) e = First (link_checks m l.0 l.1) e ⊎ (Free (link_checks m l.0 l.1) × FirstOf (with_link m l.0 l.1) ls e)

-- a site of n nodes, this root and these links
abbrev pub whole : ℕ → ℕ → List (ℕ × ℕ) → Model
whole n r ls = record { nodes = n; root = r; links = ls }

-- a site was built of a whole list of links, or the first refusal came, or memory was wanting
abbrev pub Built : ℕ → ℕ → List (ℕ × ℕ) → Result Site Fault → Type 0
Built n r ls (Ok s) = Free (size_checks n r) × AllFree (bare n r) ls × (model s ≡ whole n r ls) × Proper (whole n r ls)
Built n r ls (Err (Refused e)) =
    First (size_checks n r) e
    ⊎ (Free (size_checks n r) × (FirstOf (bare n r) ls e ⊎ (AllFree (bare n r) ls × (e ≡ refusal.Unreached) × (Reached (whole n r ls) → ⊥))))
Built n r ls (Err Memory) = Free (size_checks n r)
