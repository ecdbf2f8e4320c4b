use Rattle.bg_terms.specs.Typed.{types_with}
use Rattle.bg_term_table.specs.Views.{terms_in, incs_of}
use Rattle.bg_wanted.specs.Scalars.{scalars_in}
use Rattle.bg_wanted.proofs.Grouping.{no_groups, all_more, all_whole, value_item}
use Rattle.bg_wanted.proofs.names.groups.Goals as goal

pub loop-j-init : goal.loop-j-init
loop-j-init c =
    λ fs give.
    no_groups (scalars_in c.args.values.now) (types_with (incs_of c.args.around) (terms_in fs c.args.terms.now)) c.new-made.result.items c.new-made.ensures.items

pub loop-j-preserved : goal.loop-j-preserved
loop-j-preserved c =
    let s = scalars_in c.args.values.now in
    λ fs give.
    let tys = types_with (incs_of c.args.around) (terms_in fs c.args.terms.now) in
    let all = c.loop-j.invariant fs give in
    all_more s tys c.loop-j.made.items c.put_value.new.groups.items c.loop-j.j c.in_ok-place.place c.in_ok-place.ensures all
    (c.in_ok-put_value.ensures fs s give (value_item c.args.values.now c.loop-j.j c.in_ok-place.place _ c.loop-j-test.true c.in_ok-place.ensures) all.groups)

pub returns : goal.returns
returns c =
    λ fs give.
    all_whole (scalars_in c.args.values.now) (types_with (incs_of c.args.around) (terms_in fs c.args.terms.now)) c.loop-j.made.items c.loop-j.j _ c.loop-j-test.false (c.loop-j.invariant fs give)
