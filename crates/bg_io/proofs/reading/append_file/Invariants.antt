-- The text so far, with what is left of the file, is what it was with all that was left.
use Rattle.std.proofs.Common.{◌≡◌, ◌≤◌, ◌-◌, vec_len, IsTrue}
use Rattle.bg_io.specs.Reading.{with_rest}
use Rattle.bg_io.proofs.reading.append_file.Given as goal

abbrev pub invariant-loop-e : goal.invariant-loop-e
invariant-loop-e g l = record {
  so_far : with_rest l.text.items (g.F.Files.left l.files) ≡ with_rest l.fn.text.items (g.F.Files.left l.fn.files);
  within : vec_len l.text ≤ l.limit;
  same : g.F.Files.contents l.files ≡ g.F.Files.contents l.fn.files;
  started : IsTrue (g.F.Files.started l.files);
  starts : g.F.Files.starts l.files ≡ g.F.Files.starts l.fn.files;
  later : g.F.Files.faults l.fn.files ≤ g.F.Files.faults l.files;
}

abbrev pub decreases-loop-e : goal.decreases-loop-e
decreases-loop-e g l = l.limit - vec_len l.text
