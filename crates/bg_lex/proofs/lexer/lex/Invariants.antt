use Rattle.std.proofs.Common.{◌≤◌, ◌+◌, length}
use Rattle.bg_text.specs.Tokens.{views}
use Rattle.bg_lex.proofs.Steps.{SoFar}
use Rattle.bg_lex.proofs.lexer.lex.Given as goal

abbrev pub invariant-loop-rest : goal.invariant-loop-rest
invariant-loop-rest l = record {
  so_far : SoFar l.bytes l.rest (views l.list.items) l.at;
  line : l.at.line + length l.rest ≤ length l.bytes + 1;
  column : l.at.column + length l.rest ≤ length l.bytes + 1;
}

abbrev pub decreases-loop-rest : goal.decreases-loop-rest
decreases-loop-rest l = length l.rest
