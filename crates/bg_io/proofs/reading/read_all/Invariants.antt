-- The text so far, with what the files from here on add, is the joined text.
use Rattle.std.proofs.Common.{◌≡◌, ◌≤◌, ◌++◌, map, drop, vec_len, string_bytes, IfSome}
use Rattle.bg_io.specs.Causes.{counted, joined_text}
use Rattle.bg_io.proofs.Texts.{pieces_from}
use Rattle.bg_io.proofs.reading.read_all.Given as goal

abbrev pub invariant-loop-file : goal.invariant-loop-file
invariant-loop-file g l = record {
  so_far : IfSome (g.F.Files.contents l.fn.files) (λ held. l.text.items ++ pieces_from l.file (map held (drop l.file (map string_bytes l.names))) ≡ joined_text held (map string_bytes l.names));
  within : vec_len l.text ≤ l.limit;
  same : g.F.Files.contents l.files ≡ g.F.Files.contents l.fn.files;
  starts : g.F.Files.starts l.files ≡ counted (g.F.Files.starts l.fn.files) l.file;
  later : g.F.Files.faults l.fn.files ≤ g.F.Files.faults l.files;
}
