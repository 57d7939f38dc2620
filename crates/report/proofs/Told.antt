-- The answer stands on the page, whichever way reading went.
use Rattle.std.proofs.Common.{ℕ, ◌<◌, List, Ok, Err, Option, Result, subst}
use Rattle.refusal.specs.declared.Refusal.{Refusal}
use Rattle.site.specs.declared.site.Site.{Site}
use Rattle.sheet.specs.Judge.{Lists}
use Rattle.report.specs.declared.fault.ProgramFault.{ProgramFault}
use Rattle.report.specs.declared.fault.ProgramFault.TheVariants.{Sheet}
use Rattle.report.specs.Answers.{Answered, Bounded, Put, bound_line}
use Rattle.report.specs.Faults.{program_line}
use Rattle.report.proofs.LineLow.{line_low}

module _ (bytes : List ℕ) (l : Lists) (a : Option Site) (m : Lists) (z : Option Site) where
  pub program_low : (e : ProgramFault) → Bounded bytes l a (Err e) m z → program_line e < 100000
  program_low (Sheet e) h = line_low bytes l a e m z h

  module _ (page after : List ℕ) (r : Result ℕ Refusal) where
    pub told_bound : (b : ℕ) → Bounded bytes l a (Ok b) m z → Put (bound_line b) page r after → Answered bytes l a page r m z after
    told_bound b h p = (Ok h.0, h.1, subst (λ (k : ℕ). Put (bound_line k) page r after) h.2 p)
