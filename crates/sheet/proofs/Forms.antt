-- Each kind of line has no line feed, and is read in one way.
use Rattle.std.proofs.Common.{◌≡◌, ℕ, List}
use Rattle.text.specs.Lines.{contents_bytes, fault_bytes, link_bytes, turn_bytes}
use Rattle.text.specs.Page.{Lacks}
use Rattle.text.specs.LineKinds.{contents_plain, fault_plain, link_plain, same_contents, same_fault, same_link, same_turn, turn_plain}

-- a kind of line whose written form has no line feed and is that of one value
pub record Kind {X : Type 0} (bytes : X → List ℕ) : Type 0 where
  pub plain : (x : X) → Lacks 10 (bytes x)
  pub once : (x y : X) → bytes x ≡ bytes y → x ≡ y

pub contents_kind : Kind contents_bytes
contents_kind = record { plain = contents_plain; once = same_contents }

pub link_kind : Kind link_bytes
link_kind = record { plain = link_plain; once = same_link }

pub fault_kind : Kind fault_bytes
fault_kind = record { plain = fault_plain; once = same_fault }

pub turn_kind : Kind turn_bytes
turn_kind = record { plain = turn_plain; once = same_turn }
