-- The nodes that turn lines name.
use Rattle.std.proofs.Common.{◌≡◌, ℕ, ◌<◌, Bool, not, List, map, length, Decides, nat_eq, sym, ap, ◌∙◌, subst, inl, inr}
use Rattle.std.specs.List.{list_any, range_with_len}
use Rattle.lists.specs.Members.{Among}
use Rattle.lists.proofs.Chains.{any_map, any_same, lacks_decides}
use Rattle.lists.proofs.Decisions.{among_number?, below?, not?}
use Rattle.text.specs.declared.records.TurnLine.{TurnLine}
use Rattle.sheet.specs.Judge.{Named}

-- the nodes of turn lines
abbrev pub nodes_of : List TurnLine → List ℕ
nodes_of ts = map (λ t. t.node.value) ts

-- there are turn lines, and they do not name every node
abbrev pub Missed : ℕ → List TurnLine → Type 0
Missed n ts = (0 < length ts) × (Named n ts → ⊥)

-- where there are turn lines, whether they lack a node
pub missed_decides : (ts : List TurnLine) (n : ℕ) (r : Bool) → r ≡ list_any (λ v. not (list_any (λ t. nat_eq t.node.value v) ts)) (range_with_len 0 n) → 0 < length ts → Decides r (Missed n ts)
missed_decides ts n r is some =
    let same : r ≡ list_any (λ v. not (list_any (λ y. nat_eq y v) (nodes_of ts))) (range_with_len 0 n) = is ∙ any_same _ _ (range_with_len 0 n) (λ v. ap not (any_map (λ t. t.node.value) (λ y. nat_eq y v) ts)) in
    let d = lacks_decides n (nodes_of ts) in (
      (λ e. let t = d.0 (sym same ∙ e) in (some, λ all. t.2 (all t.0 t.1))),
      λ m. same ∙ elim (below? (λ v. Among v (nodes_of ts) → ⊥) (λ v. not? (among_number? v (nodes_of ts))) n) [
        | inl t ↦ d.1 t
        | inr none ↦ absurd (m.1 (λ v l. elim (among_number? v (nodes_of ts)) [ inl a ↦ a | inr out ↦ absurd (none (v, l, out)) ]))
      ],
    )

pub told_missed : (r : Bool) (n m : ℕ) (ts us : List TurnLine) → n ≡ m → ts ≡ us → Decides r (Missed n ts) → Decides r (Missed m us)
told_missed r n m ts us e f h = subst (λ (k : ℕ). Decides r (Missed k us)) e (subst (λ (xs : List TurnLine). Decides r (Missed n xs)) f h)
