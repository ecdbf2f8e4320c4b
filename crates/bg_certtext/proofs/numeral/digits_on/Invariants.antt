use Rattle.std.proofs.Common.{◌≡◌, ◌≤◌, drop}
use Rattle.bg_certtext.specs.Words.{digits_on}
use Rattle.bg_certtext.proofs.numeral.digits_on.Given as goal

abbrev pub invariant-loop-b : goal.invariant-loop-b
invariant-loop-b l = record {
  so_far : digits_on l.largest l.value (drop l.b-index l.digits) ≡ digits_on l.largest l.first l.digits;
  small : l.value ≤ l.largest;
}
