use Rattle.std.proofs.Common.{◌≡◌, true, sym, ap, subst, inl, refl}
use Rattle.std.specs.Prelude.{MatchOption}
use Rattle.bg_term_table.specs.Views.{term_of}
use Rattle.bg_scalar.specs.Worths.{Are, Leave, NoValues}
use Rattle.bg_scalar.specs.Lists.{listed}
use Rattle.bg_scalar.specs.Views.{vals_in}
use Rattle.bg_wanted.specs.Scalars.{scalars_in, has_table}
use Rattle.bg_wanted.specs.Rows.{IsOne}
use Rattle.bg_wanted.proofs.Rowed.{args_are, none_made, one_made}
use Rattle.bg_wanted.proofs.rows.row.Goals as goal

pub returns-in-Leave : goal.returns-in-Leave
returns-in-Leave c =
    λ fs values frame.
    args_are values fs c.args.term.now _ (vals_in c.args.frame.now) (listed c.in_ok-made.made) (Leave c.in-Leave.o) frame c.deref.ensures.value c.in_ok-made.ensures (ap listed c.in-Leave.is)

pub returns-in_ok-scalars-in-Are : goal.returns-in_ok-scalars-in-Are
returns-in_ok-scalars-in-Are c =
    let d = c.in-Are in
    λ fs values frame.
    subst (IsOne values (term_of fs c.args.term.now) c.args.class c.args.value) (sym c.valued.ensures)
    (one_made values fs c.args.term.now c.args.class c.in_ok-scalars-in-Are.scalars c.args.value (vals_in d.args.items)
    (args_are values fs c.args.term.now _ (vals_in c.args.frame.now) (listed c.in_ok-made.made) (Are (vals_in d.args.items)) frame c.deref.ensures.value c.in_ok-made.ensures (ap listed d.is))
    (subst (λ vs. MatchOption c.in_ok-scalars-in-Are.scalars (has_table (vals_in vs) ≡ true) (λ ss. scalars_in ss.items ≡ vals_in vs)) c.deref-in-Are.ensures.value c.in_ok-scalars-in-Are.ensures))

pub returns-in-NoValues : goal.returns-in-NoValues
returns-in-NoValues c =
    λ fs values frame.
    inl (none_made values (term_of fs c.args.term.now) NoValues (args_are values fs c.args.term.now _ (vals_in c.args.frame.now) (listed c.in_ok-made.made) NoValues frame c.deref.ensures.value c.in_ok-made.ensures (ap listed c.in-NoValues.is)) refl)
