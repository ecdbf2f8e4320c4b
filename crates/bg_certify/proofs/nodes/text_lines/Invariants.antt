use Rattle.std.proofs.Common.{◌≡◌, map, take}
use Rattle.bg_certify.specs.Spelled.{spelled_line}
use Rattle.bg_certify.proofs.nodes.text_lines.Given as goal

abbrev pub invariant-loop-line : goal.invariant-loop-line
invariant-loop-line l = l.made.items ≡ map spelled_line (take l.line-index l.lines)
