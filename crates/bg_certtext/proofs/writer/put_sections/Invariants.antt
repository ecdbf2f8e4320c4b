use Rattle.std.proofs.Common.{◌≡◌, ◌++◌, map, drop, flat_map}
use Rattle.bg_certtext.specs.Lines.{line}
use Rattle.bg_certtext.specs.Texts.{section_lines}
use Rattle.bg_certtext.specs.Views.{section_of}
use Rattle.bg_certtext.proofs.writer.put_sections.Given as goal

abbrev pub invariant-loop-section : goal.invariant-loop-section
invariant-loop-section l = l.out.items ++ flat_map line (flat_map section_lines (map section_of (drop l.section-index l.sections))) ≡ l.initial.out.items ++ flat_map line (flat_map section_lines (map section_of l.sections))
