-- The refusal that the program's fault stands for, and its line.
use Rattle.std.specs.Prelude.{ℕ}
use Rattle.refusal.specs.declared.Refusal.{Refusal}
use Rattle.sheet.specs.Faults.{cause_of, line_of}
use Rattle.report.specs.declared.fault.ProgramFault.{ProgramFault}
use Rattle.report.specs.declared.fault.ProgramFault.TheVariants.{Sheet}

abbrev pub program_cause : ProgramFault → Refusal
program_cause (Sheet e) = cause_of e

abbrev pub program_line : ProgramFault → ℕ
program_line (Sheet e) = line_of e
