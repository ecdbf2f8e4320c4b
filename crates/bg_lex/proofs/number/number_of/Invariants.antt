use Rattle.std.proofs.Common.{◌≡◌, ◌≤◌, ◌+◌, ◌^◌, drop}
use Rattle.bg_text.specs.Pieces.{value_from}
use Rattle.bg_lex.proofs.number.number_of.Given as goal

abbrev pub invariant-loop-digit : goal.invariant-loop-digit
invariant-loop-digit l = record {
  so_far : value_from l.value (drop l.digit-index l.digits) ≡ value_from 0 l.digits;
  small : l.value ≤ 2 ^ 127 + 300;
}
