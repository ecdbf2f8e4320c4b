use Rattle.std.proofs.Common.{◌≡◌, ◌+◌, ◌≤◌, ℕ, List, length, drop, map}
use Rattle.bg_text.specs.Views.{id_of}
use Rattle.bg_accept.specs.Names.{number_in}
use Rattle.bg_accept.specs.Numbers.{found, or_else}
use Rattle.bg_accept.proofs.numbers.first_numbers.Given as goal

abbrev pub invariant-loop-number : goal.invariant-loop-number
invariant-loop-number l = record {
  within : l.number ≤ length l.candidates;
  firsts : (name : List ℕ) → or_else (length l.candidates) (found name l.table.entries) ≡ l.number + number_in (map id_of (drop l.number l.candidates)) name;
}

abbrev pub decreases-loop-number : goal.decreases-loop-number
decreases-loop-number l = l.number
