use Rattle.std.proofs.Common.{◌≡◌, ◌++◌, map, drop}
use Rattle.bg_ast.specs.Views.{ex_of}
use Rattle.bg_opened.specs.Unique.{pairs}
use Rattle.bg_opened.specs.Written.{apart}
use Rattle.bg_opening.specs.Constants.{unique_of}
use Rattle.bg_opening.proofs.uniques.push_pairs.Given as goal

abbrev pub invariant-loop-place : goal.invariant-loop-place
invariant-loop-place l =
    map ex_of l.out.items ++ map apart (pairs (map unique_of (drop l.place l.told))) ≡ map ex_of l.fn.out.items ++ map apart (pairs (map unique_of l.told))
