use Rattle.std.proofs.Common.{◌+◌, ◌≤◌, length}
use Rattle.bg_certtext.specs.Machine.{HasRoom, Stands, draft_of}
use Rattle.bg_certtext.proofs.reader.read_lines.Given as goal

abbrev pub invariant-loop-line : goal.invariant-loop-line
invariant-loop-line l = record {
  stands : Stands l.bytes l.number (draft_of l.draft) l.rest;
  room : HasRoom (draft_of l.draft);
  line : l.number + length l.rest ≤ length l.bytes + 1;
}

abbrev pub decreases-loop-line : goal.decreases-loop-line
decreases-loop-line l = length l.rest
