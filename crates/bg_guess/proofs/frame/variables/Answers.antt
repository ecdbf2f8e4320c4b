use Rattle.std.proofs.Common.{sym, ap, ◌∙◌, append-nil, map, drop, ◌++◌, ◌+◌, append_assoc}
use Rattle.std.proofs.lemmas.List.{at_drop_all, at_drop_more}
use Rattle.bg_ast.specs.declared.resolved.Variable.TheVariants as variable
use Rattle.bg_guess.proofs.frame.variables.Goals as goal

pub loop-g-preserved : goal.loop-g-preserved
loop-g-preserved c =
    let old = c.loop-g.made.items in
    let rest = map variable.Global (drop (c.loop-g.g-index + 1) c.args.globals.now) in
    ap (λ l. l ++ rest) c.in_ok-push.ensures.items
    ∙ append_assoc old _ rest
    ∙ sym (at_drop_more (λ l. old ++ map variable.Global l) c.args.globals.now c.loop-g.g-index _ c.loop-g-test.true)
    ∙ c.loop-g.invariant

pub loop-x-init : goal.loop-x-init
loop-x-init c =
    let made = c.loop-g.made.items in
    let all = sym (append-nil made) ∙ sym (at_drop_all (λ l. made ++ map variable.Global l) c.args.globals.now c.loop-g.g-index c.loop-g-test.false) ∙ c.loop-g.invariant in
    ap (λ l. l ++ map variable.Local c.args.locals.now) all

pub loop-x-preserved : goal.loop-x-preserved
loop-x-preserved c =
    let old = c.loop-x.made.items in
    let rest = map variable.Local (drop (c.loop-x.x-index + 1) c.args.locals.now) in
    ap (λ l. l ++ rest) c.in_ok-push-2.ensures.items
    ∙ append_assoc old _ rest
    ∙ sym (at_drop_more (λ l. old ++ map variable.Local l) c.args.locals.now c.loop-x.x-index _ c.loop-x-test.true)
    ∙ c.loop-x.invariant

pub returns : goal.returns
returns c =
    let made = c.loop-x.made.items in
    sym (append-nil made) ∙ sym (at_drop_all (λ l. made ++ map variable.Local l) c.args.locals.now c.loop-x.x-index c.loop-x-test.false) ∙ c.loop-x.invariant
