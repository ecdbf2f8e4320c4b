use Rattle.std.proofs.Common.{◌≡◌, ◌++◌, ◌≤◌, length, drop, map}
use Rattle.bg_text.specs.Views.{id_of}
use Rattle.bg_accept.specs.Names.{marks, unplaced}
use Rattle.bg_accept.specs.Retained.{texts}
use Rattle.bg_accept.proofs.retained.retained_names.Given as goal

abbrev pub invariant-loop-candidate : goal.invariant-loop-candidate
invariant-loop-candidate l = record {
  within : l.number ≤ length l.names;
  marked : l.made.items ++ marks (map id_of (drop l.candidate-index l.candidates)) (drop l.number (texts l.names)) ≡ marks (map id_of l.candidates) (texts l.names);
  unplaced : unplaced (map id_of (drop l.candidate-index l.candidates)) (drop l.number (texts l.names)) ≡ unplaced (map id_of l.candidates) (texts l.names);
}
