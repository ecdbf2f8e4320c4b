use Rattle.std.proofs.Common.{◌<◌, List, [], length, subst, inl, inr}
use Rattle.std.specs.Prelude.{MatchOption}
use Rattle.bg_ast.specs.Syntax.{Fun}
use Rattle.bg_term_table.specs.Views.{terms_in}
use Rattle.bg_wanted.proofs.way.select_before.Goals as goal

pub returns-in_ok-r-in-None-clause-comes : goal.returns-in_ok-r-in-None-clause-comes
returns-in_ok-r-in-None-clause-comes c =
    λ fs incs fits way.
    let told = c.in_ok-r-in-None.ensures.told incs (terms_in fs c.args.sight.terms.now) [] fits way.1 in
    inr (told.1.0, (told.1.1, (way.0, told.0)))

pub returns-in-Some-clause-comes : goal.returns-in-Some-clause-comes
returns-in-Some-clause-comes c =
    λ fs incs fits way.
    inl (subst (λ o. MatchOption o (Unit {0}) (λ r. (fs : List Fun) → r < length (terms_in fs c.args.sight.terms.now))) c.in-Some.is c.in_ok-found.ensures fs, way)
