use Rattle.std.proofs.Common.{◌≡◌, map, take}
use Rattle.refusal.specs.Checks.{Free}
use Rattle.site.specs.Entering.{AllFree, bare, size_checks, whole}
use Rattle.site.specs.Sites.{draft}
use Rattle.site.specs.Table.{ends}
use Rattle.site.proofs.build.build.Given as goal

abbrev pub invariant-loop-link : goal.invariant-loop-link
invariant-loop-link l =
    Free (size_checks l.nodes l.root)
    × (draft l.builder ≡ whole l.nodes l.root (map ends (take l.link-index l.links)))
    × AllFree (bare l.nodes l.root) (map ends (take l.link-index l.links))
