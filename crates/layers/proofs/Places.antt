-- Registers of a protocol and then others: reads and writes by place.
use Rattle.std.proofs.Common.{◌≡◌, ℕ, ◌+◌, ◌-◌, ◌<◌, ◌≤◌, List, ◌++◌, length, get_or, set, Ok, Err, Result, sym, ap, ◌∙◌, arith}
use Rattle.std.proofs.lemmas.List.{get_or_append_left, get_or-append_right, set-append_left, set-append_right}
use Rattle.refusal.specs.declared.Refusal.{Refusal}
use Rattle.protocol.specs.Protocols.{Protocol, told_size}
use Rattle.silent.specs.Answers.{Read, Written}

-- the whole w has n registers over those of p, and p tells that it has k
module _ (p w : Protocol) (n : ℕ) (whole : w.size ≡ p.size + n) (b o : List ℕ) (sized : length b ≡ p.size) (k : ℕ) (tells : k ≡ told_size p) where
  -- a place of the first
  module _ (i : ℕ) (before : k ≤ i → ⊥) where
    pub low_read : (r : Result ℕ Refusal) → Read p i b r → Read w i (b ++ o) r
    low_read (Ok x) h = (omega (arith, h.0), h.1 ∙ sym (get_or_append_left b o 0 i (omega (arith, h.0))))
    low_read (Err e) h = absurd (omega (arith, h.0))

    pub low_written : (x : ℕ) (r : Result (Unit {0}) Refusal) (c : List ℕ) → Written p i x b r c → Written w i x (b ++ o) r (c ++ o)
    low_written x (Ok u) c h = (omega (arith, h.0), ap (λ (zs : List ℕ). zs ++ o) h.1 ∙ sym (set-append_left b o i x (omega (arith, h.0))))
    low_written x (Err e) c h = absurd (omega (arith, h.0))

  -- a place past those
  module _ (i j top : ℕ) (ends : top ≡ told_size w) (inside : i < top) (past : (k ≤ i) × (j ≡ i - k)) where
    pub high_low : j < n
    high_low = omega (arith, past.0, past.1)

    pub high_get : (x : ℕ) → x ≡ get_or o j 0 → Read w i (b ++ o) (Ok x)
    high_get x h =
        let e : i - p.size ≡ j = omega (arith, past.0, past.1) in
        (omega arith, h ∙ sym (get_or-append_right b o p.size i 0 sized (omega (arith, past.0)) ∙ ap (λ (k : ℕ). get_or o k 0) e))

    pub high_set : (x : ℕ) (d : List ℕ) → d ≡ set o j x → Written w i x (b ++ o) (Ok tt) (b ++ d)
    high_set x d h =
        let e : j ≡ i - p.size = omega (arith, past.0, past.1) in
        (omega arith, ap (λ (zs : List ℕ). b ++ zs) (h ∙ ap (λ (k : ℕ). set o k x) e) ∙ sym (set-append_right b o p.size i x sized (omega (arith, past.0))))

    -- and so it is one of a second protocol, if they are that one's
    module _ (q : Protocol) (rest : q.size ≡ n) where
      pub high_read : (r : Result ℕ Refusal) → Read q j o r → Read w i (b ++ o) r
      high_read (Ok x) h = high_get x h.1
      high_read (Err e) h = absurd (omega (arith, h.0, past.0, past.1))

      pub high_written : (x : ℕ) (r : Result (Unit {0}) Refusal) (d : List ℕ) → Written q j x o r d → Written w i x (b ++ o) r (b ++ d)
      high_written x (Ok u) d h = high_set x d h.1
      high_written x (Err e) d h = absurd (omega (arith, h.0, past.0, past.1))
