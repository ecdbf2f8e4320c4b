use Rattle.std.proofs.Common.{◌≡◌, map, flat_map, drop}
use Rattle.bg_text.specs.Views as v
use Rattle.bg_ast.specs.Views.{program_of}
use Rattle.bg_names.specs.Faults.{better}
use Rattle.bg_resolve.specs.Program.{decl_faults}
use Rattle.bg_names.specs.Views.{first_of}
use Rattle.bg_spaces.specs.SpaceViews.{spaces_in}
use Rattle.bg_resolve.specs.Parts.{joined, parts_from}
use Rattle.bg_resolve.proofs.program.program.Given as goal

abbrev pub invariant-loop-d : goal.invariant-loop-d
invariant-loop-d l =
    record {
      made : joined (program_of l.out) (parts_from (spaces_in l.g) l.next (map v.decl_of (drop l.d-index l.decls))) ≡ parts_from (spaces_in l.g) 0 (map v.decl_of l.decls);
      first : better (first_of l.notes) (flat_map (decl_faults (spaces_in l.g)) (map v.decl_of (drop l.d-index l.decls))) ≡ better (first_of l.fn.notes) (flat_map (decl_faults (spaces_in l.g)) (map v.decl_of l.decls));
    }
