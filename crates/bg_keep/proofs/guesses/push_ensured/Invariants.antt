use Rattle.std.proofs.Common.{◌≡◌, ◌++◌, drop, map}
use Rattle.bg_text.specs.Trees as t
use Rattle.bg_text.specs.Views as v
use Rattle.bg_ast.specs.Views.{clause_of}
use Rattle.bg_keep.specs.Guesses.{names_of, kept_guesses}
use Rattle.bg_keep.proofs.guesses.push_ensured.Given as goal

abbrev pub invariant-loop-c : goal.invariant-loop-c
invariant-loop-c l =
    map v.spec_of l.out.items ++ map t.Ensures (kept_guesses l.set (names_of l.f) (map clause_of (drop l.c-index l.guesses)))
    ≡ map v.spec_of l.fn.out.items ++ map t.Ensures (kept_guesses l.set (names_of l.f) (map clause_of l.guesses))
