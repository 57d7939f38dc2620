-- Faults entered one after the other.
use Rattle.std.proofs.Common.{◌≡◌, ℕ, ◌+◌, ◌<◌, List, [], ◌∷◌, ◌++◌, length, get_or, take, set, Ok, sym, refl, ap, ◌∙◌, subst}
use Rattle.std.proofs.lemmas.List.{take_more}
use Rattle.text.specs.declared.records.FaultLine.{FaultLine}
use Rattle.site.specs.Sites.{model}
use Rattle.silent.specs.declared.Silent.{Ghosts}
use Rattle.promise.specs.Nets.{Fresh, fault}
use Rattle.net.specs.declared.net.Net.{Net}
use Rattle.net.specs.Calls.{Does, state}
use Rattle.report.specs.Runs.{Entered, faulted}

faulted_more : (fs : List FaultLine) (f : FaultLine) (xs : List ℕ) → faulted (fs ++ (f ∷ [])) xs ≡ set (faulted fs xs) f.register.value f.value.value
faulted_more [] f xs = refl
faulted_more (e ∷ fs) f xs = faulted_more fs f (set xs e.register.value e.value.value)

pub enter_more : {X : Type 0} (g : Ghosts X) (a b z : Net X) (fs : List FaultLine) (i : ℕ) (f : FaultLine) (place value : ℕ) (u : Unit {0}) → i < length fs → f ≡ get_or fs i f → place ≡ f.register.value → value ≡ f.value.value → Entered g a (take i fs) b → Does g b (fault place value) (Ok u) z → Entered g a (take (i + 1) fs) z
enter_more g a b z fs i f place value u l e p q w h =
    let more : take (i + 1) fs ≡ take i fs ++ (f ∷ []) = take_more fs i f l ∙ ap (λ x. take i fs ++ (x ∷ [])) (sym e) in
    let one : set (state g b).registers place value ≡ set (state g b).registers f.register.value f.value.value = ap (λ k. set (state g b).registers k value) p ∙ ap (λ x. set (state g b).registers f.register.value x) q in
    record {
      stays = (h.0.0 ∙ w.stays.0, h.0.1 ∙ w.stays.1);
      registers = h.1.1.registers ∙ one ∙ ap (λ xs. set xs f.register.value f.value.value) w.registers ∙ sym (faulted_more (take i fs) f (state g a).registers) ∙ ap (λ x. faulted x (state g a).registers) (sym more);
      fresh = λ _. subst (λ n. Fresh n (state g z)) (sym (ap (λ s. (model s).nodes) h.0.0)) h.1.1.fresh;
    }
