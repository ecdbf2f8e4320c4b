use Rattle.std.proofs.Common.{ap, ◌∙◌}
use Rattle.std.proofs.lemmas.Result.{IfOk-weaker}
use Rattle.bg_term_table.specs.Views.{meanings, head_of}
use Rattle.bg_scalar.specs.Views.{vals_in}
use Rattle.bg_wanted.specs.Scalars.{scalars_in}
use Rattle.bg_sense.specs.Eval.{value_at}
use Rattle.bg_finish.specs.Filled.{all_held, args_in, entries_at}
use Rattle.bg_finish.proofs.Held.{put_one, put_none}
use Rattle.bg_finish.proofs.tables.put_term.Goals as goal

pub returns-in_ok-value-in-Function : goal.returns-in_ok-value-in-Function
returns-in_ok-value-in-Function c =
    IfOk-weaker c.put_row.result _ _
    (λ x h. put_one c.in-Function.f (head_of c.args.term.now.head) c.in_ok-args-in-Function.args.items c.in_ok-value-in-Function.value (args_in (vals_in c.args.values.now) (meanings c.args.term.now.args.items) (scalars_in c.args.scalars.now)) (value_at (vals_in c.args.values.now) c.args.number) (all_held c.args.tables.now.items) (all_held c.put_row.new.tables.items) (ap head_of c.in-Function.is) (c.in_ok-args-in-Function.ensures ∙ ap (λ es. args_in (vals_in c.args.values.now) (meanings es) (scalars_in c.args.scalars.now)) c.deref.ensures.value) c.in_ok-value-in-Function.ensures h)
    c.put_row.ensures

pub returns-in-Selects : goal.returns-in-Selects
returns-in-Selects c =
    let k = args_in (vals_in c.args.values.now) (meanings c.args.term.now.args.items) (scalars_in c.args.scalars.now) in
    let v = value_at (vals_in c.args.values.now) c.args.number in
    put_none (head_of c.args.term.now.head) k v (all_held c.args.tables.now.items) (λ g. ap (λ h. entries_at g (head_of h) k v) c.in-Selects.is)

pub returns-in-Updates : goal.returns-in-Updates
returns-in-Updates c =
    let k = args_in (vals_in c.args.values.now) (meanings c.args.term.now.args.items) (scalars_in c.args.scalars.now) in
    let v = value_at (vals_in c.args.values.now) c.args.number in
    put_none (head_of c.args.term.now.head) k v (all_held c.args.tables.now.items) (λ g. ap (λ h. entries_at g (head_of h) k v) c.in-Updates.is)

pub returns-in-Differs : goal.returns-in-Differs
returns-in-Differs c =
    let k = args_in (vals_in c.args.values.now) (meanings c.args.term.now.args.items) (scalars_in c.args.scalars.now) in
    let v = value_at (vals_in c.args.values.now) c.args.number in
    put_none (head_of c.args.term.now.head) k v (all_held c.args.tables.now.items) (λ g. ap (λ h. entries_at g (head_of h) k v) c.in-Differs.is)
