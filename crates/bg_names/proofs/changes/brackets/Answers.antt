use Rattle.std.proofs.Common.{map, flat_map, sym, ap, ◌∙◌}
use Rattle.std.proofs.lemmas.List.{take_all, at_drop_all}
use Rattle.bg_text.specs.Views as v
use Rattle.bg_ast.specs.Views.{bracket_of}
use Rattle.bg_names.specs.Inside.{named_index, index_faults}
use Rattle.bg_names.specs.Faults.{better}
use Rattle.bg_names.specs.Views.{inside_of, first_of}
use Rattle.bg_names.proofs.Firsts.{better_step, made_step}
use Rattle.bg_names.proofs.changes.brackets.Goals as goal

pub loop-b-preserved : goal.loop-b-preserved
loop-b-preserved c =
    let s = inside_of c.args.inside.now in
    (made_step bracket_of (λ x. named_index s (v.bracket_of x)) _ _ c.args.bs.now c.loop-b.b-index c.b-item.result c.in_ok-x.x c.loop-b-test.true c.b-item.is c.loop-b.invariant.0 c.in_ok-x.ensures.made c.in_ok-push.ensures.items, better_step (λ x. index_faults s (v.bracket_of x)) _ _ c.args.bs.now c.loop-b.b-index c.b-item.result _ c.loop-b-test.true c.b-item.is c.loop-b.invariant.1 c.in_ok-x.ensures.first)

pub returns-clause-made : goal.returns-clause-made
returns-clause-made c =
    let s = inside_of c.args.inside.now in
    c.loop-b.invariant.0 ∙ ap (map (λ x. named_index s (v.bracket_of x))) (take_all c.loop-b.b-index c.args.bs.now c.loop-b-test.false)

pub returns-clause-first : goal.returns-clause-first
returns-clause-first c =
    let s = inside_of c.args.inside.now in
    sym (at_drop_all (λ l. better (first_of c.loop-b.notes) (flat_map (λ x. index_faults s (v.bracket_of x)) l)) c.args.bs.now c.loop-b.b-index c.loop-b-test.false) ∙ c.loop-b.invariant.1
