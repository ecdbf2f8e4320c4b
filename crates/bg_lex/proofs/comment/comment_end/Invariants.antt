use Rattle.std.proofs.Common.{◌≡◌, ◌≤◌, drop}
use Rattle.bg_lex.specs.Ends.{comment_end}
use Rattle.bg_lex.specs.declared.comment.Half.TheVariants as halves
use Rattle.bg_lex.proofs.comment.comment_end.Given as goal

abbrev pub invariant-loop-i : goal.invariant-loop-i
invariant-loop-i l = record {
  so_far : comment_end l.i l.inside (drop l.i l.bytes) ≡ comment_end 0 (record { depth = 0; half = halves.Nothing }) l.bytes;
  deep : l.inside.depth ≤ l.i;
}
