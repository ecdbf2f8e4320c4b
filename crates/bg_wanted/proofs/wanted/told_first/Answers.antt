use Rattle.std.proofs.Common.{◌≡◌, true, List, subst}
use Rattle.std.specs.Prelude.{MatchOption}
use Rattle.std.proofs.lemmas.Result.{IfOk-weaker}
use Rattle.bg_ast.specs.Values.{Val}
use Rattle.bg_ast.specs.Syntax.{Fun}
use Rattle.bg_terms.specs.Typed.{types_with}
use Rattle.bg_numbered.specs.Indexed.{are_indexed}
use Rattle.bg_term_table.specs.Lines.{lines_of}
use Rattle.bg_term_table.specs.Views.{GiveThese, incs_of, terms_in}
use Rattle.bg_wanted.specs.Scalars.{scalars_in}
use Rattle.bg_wanted.specs.Wanting.{WantsUnlessFinished}
use Rattle.bg_wanted.proofs.wanted.told_first.Goals as goal

pub returns-in-Some : goal.returns-in-Some
returns-in-Some c =
    let incs = incs_of c.args.around in
    λ fs give indexed si wanting.
    subst (λ o. MatchOption o (Unit {0}) (λ made. (fs : List Fun) (s : List Val) → GiveThese fs c.args.around → are_indexed (types_with incs (terms_in fs c.args.sight.terms.now)) ≡ true → WantsUnlessFinished incs (terms_in fs c.args.sight.terms.now) s (lines_of made.items))) c.in-Some.is c.in_ok-first.ensures fs (scalars_in c.args.sight.values.now) give indexed wanting.unfinished

pub returns-in-None : goal.returns-in-None
returns-in-None c =
    IfOk-weaker c.chased.result _ _ (λ made h. λ fs give indexed si wanting. h fs (incs_of c.args.around) si wanting) c.chased.ensures
