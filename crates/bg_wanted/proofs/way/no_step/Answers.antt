use Rattle.std.proofs.Common.{sym, subst}
use Rattle.bg_term_table.specs.Views.{term_of, terms_in}
use Rattle.bg_wanted.specs.Chased.{AreLost}
use Rattle.bg_wanted.proofs.Rowed.{mapped_length}
use Rattle.bg_wanted.proofs.way.no_step.Goals as goal

pub returns : goal.returns
returns c =
    λ fs incs.
    (subst (AreLost fs incs c.args.sight) (sym c.new.ensures.items) tt, c.in_ok-wants.ensures.told incs (terms_in fs c.args.sight.terms.now) (sym (mapped_length (term_of fs) c.args.sight.terms.now)))
