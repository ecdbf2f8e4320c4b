use Rattle.std.proofs.Common.{◌≡◌, ◌≤◌, ◌+◌, drop}
use Rattle.bg_text.specs.Text.{after_bytes}
use Rattle.bg_lex.proofs.place.after_bytes.Given as goal

abbrev pub invariant-loop-b : goal.invariant-loop-b
invariant-loop-b l = record {
  so_far : after_bytes (drop l.b-index l.bytes) l.at ≡ after_bytes l.bytes l.fn.start;
  line : l.at.line ≤ l.fn.start.line + l.b-index;
  column : l.at.column ≤ l.fn.start.column + l.b-index;
}
