use Rattle.std.proofs.Common.{◌≡◌, ◌+◌, length, take}
use Rattle.text.specs.Page.{put}
use Rattle.text.specs.Written.{lines_of}
use Rattle.text.proofs.lines.put_lines.Given as goal

abbrev pub invariant-loop-line : goal.invariant-loop-line
invariant-loop-line g l =
    (l.end ≡ l.at + length (lines_of g.L.WriteLine.bytes (take l.line-index l.lines)))
    × (l.page ≡ put l.at (lines_of g.L.WriteLine.bytes (take l.line-index l.lines)) l.initial.page)
