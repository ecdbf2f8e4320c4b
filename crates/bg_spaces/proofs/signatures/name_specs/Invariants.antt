use Rattle.std.proofs.Common.{◌≡◌, ◌+◌, ◌++◌, map, flat_map, drop}
use Rattle.bg_text.specs.Views as v
use Rattle.bg_names.specs.Faults.{better}
use Rattle.bg_names.specs.Views.{first_of, scope_of}
use Rattle.bg_spaces.specs.SpaceViews.{spaces_in}
use Rattle.bg_spaces.specs.Pieces.{spec_faults_in}
use Rattle.bg_ast.specs.Views.{clause_of}
use Rattle.bg_spaces.specs.Declarations.{named_requires, named_ensures, specs_count}
use Rattle.bg_spaces.proofs.signatures.name_specs.Given as goal

abbrev pub invariant-loop-spec : goal.invariant-loop-spec
invariant-loop-spec l =
    record {
      before : map clause_of l.made.requires_.items ++ named_requires (scope_of l.sees.before) l.next (map v.spec_of (drop l.spec-index l.specs)) ≡ named_requires (scope_of l.sees.before) l.fn.next (map v.spec_of l.specs);
      after : map clause_of l.made.ensures_.items ++ named_ensures (scope_of l.sees.after) l.next (map v.spec_of (drop l.spec-index l.specs)) ≡ named_ensures (scope_of l.sees.after) l.fn.next (map v.spec_of l.specs);
      next : l.next + specs_count (map v.spec_of (drop l.spec-index l.specs)) ≡ l.fn.next + specs_count (map v.spec_of l.specs);
      first : better (first_of l.notes) (flat_map (spec_faults_in (spaces_in l.sees.spaces.now) (scope_of l.sees.before) (scope_of l.sees.after)) (map v.spec_of (drop l.spec-index l.specs))) ≡ better (first_of l.fn.notes) (flat_map (spec_faults_in (spaces_in l.sees.spaces.now) (scope_of l.sees.before) (scope_of l.sees.after)) (map v.spec_of l.specs));
    }
