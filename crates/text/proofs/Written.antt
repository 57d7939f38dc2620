-- Lines written one after the other.
use Rattle.std.proofs.Common.{◌≡◌, ℕ, zero, suc, ◌+◌, ◌<◌, ◌≤◌, List, [], ◌∷◌, ◌++◌, length, get_or, take, set, Option, Some, None, MatchOption, sym, refl, ap, ◌∙◌, subst, append_assoc, arith, length-append}
use Rattle.std.specs.Iterator.{AlwaysYields, Yields}
use Rattle.std.specs.List.{FoldsTo}
use Rattle.std.proofs.lemmas.List.{flat_map_more, take_more}
use Rattle.text.specs.Page.{put}
use Rattle.text.specs.Written.{Within, lines_of}
use Rattle.text.proofs.Pages.{put_end, put_put}

module _ {X : Type 0} (bytes : X → List ℕ) where
  length_lines : (y : X) (l : List X) → length (lines_of bytes (y ∷ l)) ≡ length (bytes y) + 1 + length (lines_of bytes l)
  length_lines y l =
      length-append (bytes y ++ (10 ∷ [])) (lines_of bytes l) ∙ ap (λ (k : ℕ). k + length (lines_of bytes l)) (length-append (bytes y) (10 ∷ []))

  -- a line of a list has room after those before it
  pub piece : (l : List X) (i : ℕ) (x : X) → i < length l → x ≡ get_or l i x → length (lines_of bytes (take i l)) + length (bytes x) + 1 ≤ length (lines_of bytes l)
  piece [] i x lt e = absurd (omega arith)
  piece (y ∷ l) zero x lt e = let n = length_lines y l in let m = ap (λ (z : X). length (bytes z)) e in omega arith
  piece (y ∷ l) (suc i) x lt e =
      let n = length_lines y l in
      let m = length_lines y (take i l) in
      let r = piece l i x (omega arith) e in
      omega arith

  -- the first line of a list, and what follows it
  pub lines_head : (x : X) (l : List X) (r : List ℕ) → lines_of bytes (x ∷ l) ++ r ≡ bytes x ++ (10 ∷ (lines_of bytes l ++ r))
  lines_head x l r = append_assoc (bytes x ++ (10 ∷ [])) (lines_of bytes l) r ∙ append_assoc (bytes x) (10 ∷ []) (lines_of bytes l ++ r)

  pub lines_append : (l m : List X) → lines_of bytes (l ++ m) ≡ lines_of bytes l ++ lines_of bytes m
  lines_append [] m = refl
  lines_append (x ∷ l) m =
      ap (λ (r : List ℕ). (bytes x ++ (10 ∷ [])) ++ r) (lines_append l m) ∙ sym (append_assoc (bytes x ++ (10 ∷ [])) (lines_of bytes l) (lines_of bytes m))

  -- one line more
  pub lines_push : (l : List X) (x : X) → lines_of bytes (l ++ (x ∷ [])) ≡ lines_of bytes l ++ (bytes x ++ (10 ∷ []))
  lines_push l x = sym (flat_map_more (λ y. bytes y ++ (10 ∷ [])) [] l x)

  pub lines_more : (l : List X) (i : ℕ) (x : X) → i < length l → x ≡ get_or l i x → lines_of bytes (take (i + 1) l) ≡ lines_of bytes (take i l) ++ (bytes x ++ (10 ∷ []))
  lines_more l i x lt e =
      ap (lines_of bytes) (take_more l i x lt ∙ ap (λ (z : X). take i l ++ (z ∷ [])) (sym e)) ∙ lines_push (take i l) x

  pub length_more : (l : List X) (i : ℕ) (x : X) → i < length l → x ≡ get_or l i x → length (lines_of bytes (take (i + 1) l)) ≡ length (lines_of bytes (take i l)) + (length (bytes x) + 1)
  length_more l i x lt e =
      ap length (lines_more l i x lt e) ∙ length-append (lines_of bytes (take i l)) (bytes x ++ (10 ∷ [])) ∙ ap (λ (k : ℕ). length (lines_of bytes (take i l)) + k) (length-append (bytes x) (10 ∷ []))

-- lines counted one after the other until they are too many
module _ {S A F X : Type 0} (bytes : X → List ℕ) (steps : S → Option A → S → Type 0) (v : A → X) (call : F → ℕ → A → Option ℕ → F → Type 0) (most : ℕ) (f : F)
    (turn : (n : ℕ) (x : A) (r : Option ℕ) (g : F) → call f n x r g → (g ≡ f) × Within (n + length (bytes (v x)) + 1) most r) where
  pub counted :
      (E : Type 0) (all : List X) (s : S) → AlwaysYields steps v s all → (n : ℕ) → n ≤ most → (r : Option ℕ) (u : S) (xs : List A) (o : Option A) (g : F) (a : ℕ) (t : S)
      → Yields steps s xs t → steps t o u → FoldsTo {P = F × ℕ} (λ p x q. (w : Option ℕ) × call p.0 p.1 x w q.0 × (w ≡ Some q.1)) (f, n) xs (g, a)
      → MatchOption o (r ≡ Some a) (λ x. (w : Option ℕ) × (h : F) × E × call g a x w h × (w ≡ None) × (r ≡ None))
      → Within (n + length (lines_of bytes all)) most r
  counted E [] s all n le r u [] None g a t y z fold is = let e : n ≡ a = ap (λ (p : F × ℕ). p.1) fold in rw is (omega arith, omega arith)
  counted E [] s all n le r u [] (Some x) g a t y z fold is = absurd (all x u (subst (λ (k : S). steps k (Some x) u) (sym y) z))
  counted E [] s all n le r u (x ∷ xs) o g a t y z fold is = absurd (all x y.0 y.1)
  counted E (l ∷ ls) s all n le r u [] None g a t y z fold is = absurd (all.0 u (subst (λ (k : S). steps k None u) (sym y) z))
  counted E (l ∷ ls) s all n le r u [] (Some x) g a t y z fold is =
      let here = (all.1 x u (subst (λ (k : S). steps k (Some x) u) (sym y) z)).0 in
      let called : call f n x is.0 is.1 = subst (λ (p : F × ℕ). call p.0 p.1 x is.0 is.1) (sym fold) is.3 in
      let over : most < n + length (bytes (v x)) + 1 = subst (Within (n + length (bytes (v x)) + 1) most) is.4 (turn n x is.0 is.1 called).1 in
      let k = length_lines bytes l ls in
      let m = ap (λ (w : X). length (bytes w)) here in
      rw is.5 (omega arith)
  counted E (l ∷ ls) s all n le r u (x ∷ xs) o g a t y z fold is =
      let next = all.1 x y.0 y.1 in
      let p = fold.0 in
      let done = turn n x fold.1.0 p.0 fold.1.1 in
      let more : (p.1 ≡ n + length (bytes (v x)) + 1) × (p.1 ≤ most) = subst (Within (n + length (bytes (v x)) + 1) most) fold.1.2 done.1 in
      let k = length_lines bytes l ls in
      let m = ap (λ (w : X). length (bytes w)) next.0 in
      let rest = counted E ls y.0 next.1 p.1 more.1 r u xs o g a t y.2 z (subst (λ (j : F). FoldsTo {P = F × ℕ} (λ p x q. (w : Option ℕ) × call p.0 p.1 x w q.0 × (w ≡ Some q.1)) (j, p.1) xs (g, a)) done.0 fold.2) is in
      subst (λ (j : ℕ). Within j most r) (omega arith) rest

-- a line and its line feed put after what stands already
pub line_put : (at end last : ℕ) (ws bs none one two : List ℕ) → end ≡ at + length ws → one ≡ put at ws none → two ≡ put end bs one → last ≡ end + length bs → at + length ws + length bs + 1 ≤ length none
    → set two last 10 ≡ put at (ws ++ (bs ++ (10 ∷ []))) none
line_put at end last ws bs none one two e p q f fits =
    let a : length (ws ++ bs) ≡ length ws + length bs = length-append ws bs in
    let t : two ≡ put at (ws ++ bs) none = q ∙ ap (λ (r : List ℕ). put end bs r) p ∙ put_put at end ws bs none e (omega arith) in
    put_end at last 10 (ws ++ bs) none two (omega arith) (omega arith) t ∙ ap (λ (r : List ℕ). put at r none) (append_assoc ws bs (10 ∷ []))
