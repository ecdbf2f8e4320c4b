use Rattle.std.proofs.Common.{◌≡◌, true, map, take}
use Rattle.bg_ast.specs.Meaning.{meaning_of}
use Rattle.bg_ast.specs.Views.{program_of}
use Rattle.bg_cert.specs.Walks.{has}
use Rattle.bg_places.specs.Views.{placed_in}
use Rattle.bg_check.specs.Verdicts.{placed_at, AreRightAt, have_all}
use Rattle.bg_check.proofs.implementation.judge_places.Given as goal

abbrev pub invariant-loop-place : goal.invariant-loop-place
invariant-loop-place l = record {
  places : map placed_at l.made.items ≡ placed_in (take l.place-index l.places);
  right : AreRightAt l.effort.budget (meaning_of (program_of l.program)) (has l.set) l.made.items;
  whole : l.effort.keeps ≡ true → have_all l.made.items ≡ true;
}
