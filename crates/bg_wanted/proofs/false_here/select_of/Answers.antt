use Rattle.std.proofs.Common.{sym, subst}
use Rattle.std.specs.Prelude.{MatchOption}
use Rattle.bg_wanted.specs.declared.class.Class.TheVariants as class
use Rattle.bg_wanted.specs.Chased.{IsSelect}
use Rattle.bg_wanted.proofs.false_here.select_of.Goals as goal

pub returns-in-Select : goal.returns-in-Select
returns-in-Select c =
    let r = c.args.row.now in
    subst (λ k. MatchOption c.select_with.result (Unit {0}) (λ x. IsSelect c.args.number k r.args.items r.value x)) (sym c.in-Select.is)
    (subst (λ l. MatchOption c.select_with.result (Unit {0}) (λ x. IsSelect c.args.number (class.Select c.in-Select.maps) l r.value x)) c.deref.ensures.value c.select_with.ensures)
