use Rattle.std.proofs.Common.{◌≡◌, ◌++◌, map, drop}
use Rattle.std.specs.Prelude.{string_bytes}
use Rattle.bg_tool.proofs.driver.names_of.Given as goal

abbrev pub invariant-loop-file : goal.invariant-loop-file
invariant-loop-file l = map string_bytes l.names.items ++ map (λ file. file.now) (drop l.file-index l.files) ≡ map (λ file. file.now) l.files
