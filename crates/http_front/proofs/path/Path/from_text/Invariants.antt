use Rattle.std.proofs.Common.{◌≡◌, ◌≤◌}
use Rattle.http_front.specs.declared.path.Path.{Path}
use Rattle.http_front.specs.Paths.{row_of}
use Rattle.http_front.proofs.path.Path.from_text.Given as goal

-- a path of this text stands no earlier
abbrev pub invariant-loop-path : goal.invariant-loop-path
invariant-loop-path l = (p : Path) → (row_of p).text ≡ l.text → l.path-index ≤ (row_of p).number
