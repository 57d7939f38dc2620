-- The line of what a reader finds wrong.
use Rattle.std.specs.Prelude.{ℕ}
use Rattle.text.specs.declared.fault.ScanFault.{ScanFault}
use Rattle.text.specs.declared.fault.ScanFault.TheVariants.{Form, Lacking, Trailing}

-- the line, from 1
abbrev pub line_of_fault : ScanFault → ℕ
line_of_fault (Form l) = l
line_of_fault (Lacking l) = l
line_of_fault (Trailing l) = l
