-- The daemon of a sheet: it is made, it gives every node its turns in time, and it names the nodes in order.
use Rattle.std.proofs.Common.{◌≡◌, ℕ, ◌+◌, ◌%◌, ◌<◌, ◌≤◌, List, [], ◌∷◌, length, get_or, Ok, sym, refl, ap, ◌∙◌, inl, inr, ⊎_elim, arith}
use Rattle.std.specs.List.{AllByRecursion}
use Rattle.std.proofs.lemmas.Nat.{mul-le}
use Rattle.std.proofs.lemmas.Bool.{cases_lt}
use Rattle.refusal.specs.Checks.{Free}
use Rattle.lists.specs.Members.{Among}
use Rattle.text.specs.declared.records.TurnLine.{TurnLine}
use Rattle.protocol.specs.Protocols.{told_bound}
use Rattle.silent.specs.declared.Silent.{Ghosts}
use Rattle.daemon.specs.Dues.{Run}
use Rattle.daemon.specs.RoundRobins.{RobinAsked, RobinMade}
use Rattle.daemon.specs.ScriptChecks.{script_checks}
use Rattle.daemon.specs.Scripts.{ScriptAsked, ScriptOwned}
use Rattle.daemon.specs.Scripts as scripts
use Rattle.daemon.specs.declared.robin.RoundRobin.{RoundRobin}
use Rattle.daemon.specs.declared.script.Script.{Script}
use Rattle.daemon.specs.contracts.script.ScriptDaemon.TheImpl as script
use Rattle.daemon.proofs.OrdersLaws.{robin_order, script_order}
use Rattle.promise.specs.Nets.{Fresh}
use Rattle.net.specs.declared.net.Net.{Net}
use Rattle.net.specs.Calls.{at, meant, state}
use Rattle.net.specs.Settling.{Able}
use Rattle.report.specs.Runs.{Ordered, Scripted, named, names_of}

from_first : (i k : ℕ) → i ≡ 0 → i + k ≡ k
from_first i k e = omega arith

-- without turn lines
pub none_named : (ts : List TurnLine) → length ts ≤ 0 → names_of ts ≡ []
none_named [] l = refl
none_named (t ∷ ts) l = absurd (omega arith)

pub robin_ordered : (n : ℕ) (names vs : List ℕ) (d y : RoundRobin) → RobinMade n (Ok d) → names ≡ [] → Run RobinAsked d vs y → Ordered n names vs
robin_ordered n names vs d y made none asked = λ k l.
    robin_order d y vs asked k l ∙ ap (λ i. i % d.nodes) (from_first d.next k made.1.1) ∙ ap (λ m. k % m) made.1.0 ∙ ap (λ ns. named n ns k) (sym none)

-- with turn lines
pub script_free : (n : ℕ) (names : List ℕ) → 0 < length names → Scripted n names → Free (script_checks n names)
script_free n [] l h = absurd (omega arith)
script_free n (x ∷ xs) l h = h

named_script : (n : ℕ) (names : List ℕ) (k : ℕ) → 0 < length names → named n names k ≡ get_or names (k % length names) 0
named_script n [] k l = absurd (omega arith)
named_script n (x ∷ xs) k l = refl

pub script_able : {X : Type 0} (g : Ghosts X) (a : Net X) (n : ℕ) (names : List ℕ) (d : Script) → ScriptOwned n names (Ok d) → n ≡ (at a).nodes → Fresh (at a).nodes (state g a) → told_bound (meant g a) ≤ 768 → Able g script.ghosts a d
script_able g a n names d made same fresh low =
    let few : length names ≤ 1024 = most made.0 in
    let long = ap length made.1.1 in
    let most = mul-le (length (scripts.names_of d)) (told_bound (meant g a)) 1024 768 (omega arith) low in
    record { fresh = fresh; nodes = made.1.0 ∙ same; turns = omega arith }
  where
    most : Free (script_checks n names) → length names ≤ 1024
    most free = ⊎_elim (λ over. absurd (free.0 (λ limits. let l = limits.1 in omega arith))) (λ l. l) (cases_lt 1024 (length names))

pub script_ordered : (n : ℕ) (names vs : List ℕ) (d y : Script) → 0 < length names → ScriptOwned n names (Ok d) → Run ScriptAsked d vs y → Ordered n names vs
script_ordered n names vs d y some made asked = λ k l.
    script_order d y vs asked k l
    ∙ ap (λ i. get_or (scripts.names_of d) (i % length (scripts.names_of d)) 0) (from_first d.at k made.1.2)
    ∙ ap (λ ns. get_or ns (k % length ns) 0) made.1.1
    ∙ sym (named_script n names k some)

-- the nodes of a script's lines have 16 bits
pub few_names : (n : ℕ) (ts : List TurnLine) → ((v : ℕ) → Among v (names_of ts) → v < n) → n ≤ 256 → AllByRecursion (λ t. t.node.value ≤ 65535) ts
few_names n [] h l = tt
few_names n (t ∷ ts) h l = ((let b = h t.node.value (inl refl) in omega arith), few_names n ts (λ v m. h v (inr m)) l)
