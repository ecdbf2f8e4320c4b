use Rattle.std.proofs.Common.{◌+◌, arith, length, subst, sym}
use Rattle.bg_terms.specs.Typed.{types_with}
use Rattle.bg_term_table.specs.Views.{terms_in, incs_of}
use Rattle.bg_wanted.specs.Scalars.{scalars_in}
use Rattle.bg_wanted.proofs.Grouping.{there_at, IsBest, best_more, best_all}
use Rattle.bg_wanted.proofs.names.alike.Goals as goal

pub loop-i-init : goal.loop-i-init
loop-i-init c = λ fs looked k h lt e. absurd (omega (arith, lt))

pub loop-i-preserved : goal.loop-i-preserved
loop-i-preserved c =
    let s = scalars_in c.args.values.now in
    let incs = incs_of c.args.around in
    let gs = c.in_ok-groups.groups.items in
    let g = c.index.result.now in
    λ fs looked.
    let ts = terms_in fs c.args.looked.terms.now in
    subst (IsBest s (length incs) ts gs (c.loop-i.i + 1)) (sym c.inner-next.ensures)
    (best_more s (length incs) ts gs c.loop-i.i g c.loop-i.best c.in_ok-found.found (there_at gs c.loop-i.i g (let test = c.loop-i-test.true in let len = c.len.ensures in let ok = c.in_ok-groups.groups.ok.0 in omega (arith, test, len, ok)) c.index.ensures) (c.loop-i.invariant fs looked) (c.in_ok-found.ensures fs incs looked))

pub returns : goal.returns
returns c =
    let s = scalars_in c.args.values.now in
    let incs = incs_of c.args.around in
    λ fs give looked size.
    let ts = terms_in fs c.args.looked.terms.now in
    best_all s (length incs) ts (types_with incs ts) c.in_ok-groups.groups.items (length c.args.values.now) c.loop-i.i c.loop-i.best (c.in_ok-groups.ensures fs give) size (let test = c.loop-i-test.false in let len = c.len.ensures in let ok = c.in_ok-groups.groups.ok.0 in omega (arith, test, len, ok)) (c.loop-i.invariant fs looked)
