use Rattle.std.proofs.Common.{[], ◌++◌, map, flat_map, sym, ap, ◌∙◌}
use Rattle.std.proofs.lemmas.List.{take_all, at_drop_all}
use Rattle.bg_ast.specs.Resolved as r
use Rattle.bg_ast.specs.Views.{ex_of, exs_of, bracket_view, link_view}
use Rattle.bg_text.specs.Views.{id_of}
use Rattle.bg_names.specs.declared.error.FaultKind.TheVariants as kinds
use Rattle.bg_names.specs.Faults.{better, unless, fault}
use Rattle.bg_names.specs.Spaces.{use_faults}
use Rattle.bg_names.specs.Views.{scope_of, first_of, expr_faults, named_expr, bracket_faults, named_bracket, named_link, link_faults}
use Rattle.bg_names.proofs.Firsts.{after, better_append, better_step, made_step}
use Rattle.bg_names.proofs.Forms.{both, expr-Chain, faults-Chain, faults-Postfix, expr-Apply, faults-Apply, expr-Postfix, bracket-Select, bracket-Update, faults-Select, faults-Update}
use Rattle.bg_names.proofs.exprs.+name_expr.Goals as goal

pub bracket-returns-in_ok-indices-in-Select-clause-made : goal.bracket-returns-in_ok-indices-in-Select-clause-made
bracket-returns-in_ok-indices-in-Select-clause-made t c =
    let s = scope_of c.args.scope.now in
    bracket-Select s c.in-Select.pos c.in-Select.indices c.in_ok-indices-in-Select.indices (c.in_ok-indices-in-Select.ensures.made ∙ ap (map (named_expr s)) c.deref.ensures.value)
    ∙ ap (named_bracket s) (sym c.in-Select.is)

pub bracket-returns-in_ok-indices-in-Select-clause-first : goal.bracket-returns-in_ok-indices-in-Select-clause-first
bracket-returns-in_ok-indices-in-Select-clause-first t c =
    let s = scope_of c.args.scope.now in
    c.in_ok-indices-in-Select.ensures.first
    ∙ ap (better (first_of c.args.notes.now)) (ap (flat_map (expr_faults s)) c.deref.ensures.value ∙ sym (faults-Select s c.in-Select.pos c.in-Select.indices) ∙ ap (bracket_faults s) (sym c.in-Select.is))

pub bracket-returns-in_ok-value-in-Update-clause-made : goal.bracket-returns-in_ok-value-in-Update-clause-made
bracket-returns-in_ok-value-in-Update-clause-made t c =
    let s = scope_of c.args.scope.now in
    bracket-Update s c.in-Update.pos c.in-Update.indices c.in-Update.value c.in_ok-indices-in-Update.indices c.in_ok-value-in-Update.value (c.in_ok-indices-in-Update.ensures.made ∙ ap (map (named_expr s)) c.deref-in-Update.ensures.value) c.in_ok-value-in-Update.ensures.made
    ∙ ap (named_bracket s) (sym c.in-Update.is)

pub bracket-returns-in_ok-value-in-Update-clause-first : goal.bracket-returns-in_ok-value-in-Update-clause-first
bracket-returns-in_ok-value-in-Update-clause-first t c =
    let s = scope_of c.args.scope.now in
    c.in_ok-value-in-Update.ensures.first
    ∙ ap (λ b. better b (expr_faults s c.in-Update.value)) c.in_ok-indices-in-Update.ensures.first
    ∙ sym (better_append (first_of c.args.notes.now) (flat_map (expr_faults s) c.deref-in-Update.result.now) (expr_faults s c.in-Update.value))
    ∙ ap (better (first_of c.args.notes.now)) (ap (λ l. flat_map (expr_faults s) l ++ expr_faults s c.in-Update.value) c.deref-in-Update.ensures.value ∙ sym (faults-Update s c.in-Update.pos c.in-Update.indices c.in-Update.value) ∙ ap (bracket_faults s) (sym c.in-Update.is))

pub brackets_behind-loop-b-preserved : goal.brackets_behind-loop-b-preserved
brackets_behind-loop-b-preserved t c =
    let s = scope_of c.args.scope.now in
    (made_step bracket_view (named_bracket s) _ _ c.args.brackets.now c.loop-b.b-index c.b-item.result c.in_ok-b.b c.loop-b-test.true c.b-item.is c.loop-b.invariant.0 c.in_ok-b.ensures.made c.in_ok-push.ensures.items, better_step (bracket_faults s) _ _ c.args.brackets.now c.loop-b.b-index c.b-item.result _ c.loop-b-test.true c.b-item.is c.loop-b.invariant.1 c.in_ok-b.ensures.first)

pub expr-returns-in-Apply-clause-made : goal.expr-returns-in-Apply-clause-made
expr-returns-in-Apply-clause-made t c = rw (c.in-Apply.is, expr-Apply (scope_of c.args.scope.now) c.in-Apply.name c.in-Apply.args, sym c.deref.ensures.value) c.apply.ensures.made

pub expr-returns-in-Apply-clause-first : goal.expr-returns-in-Apply-clause-first
expr-returns-in-Apply-clause-first t c = rw (c.in-Apply.is, faults-Apply (scope_of c.args.scope.now) c.in-Apply.name c.in-Apply.args, sym c.deref.ensures.value) c.apply.ensures.first

pub expr-returns-in_ok-behind-in-Postfix-clause-made : goal.expr-returns-in_ok-behind-in-Postfix-clause-made
expr-returns-in_ok-behind-in-Postfix-clause-made t c =
    let s = scope_of c.args.scope.now in
    expr-Postfix s c.in-Postfix.e c.in-Postfix.brackets c.in_ok-made-in-Postfix.made c.in_ok-behind-in-Postfix.behind (c.in_ok-made-in-Postfix.ensures.made ∙ ap (named_expr s) c.deref-in-Postfix.ensures) (c.in_ok-behind-in-Postfix.ensures.made ∙ ap (map (named_bracket s)) c.deref-in-Postfix-2.ensures.value)
    ∙ ap (named_expr s) (sym c.in-Postfix.is)

pub expr-returns-in_ok-behind-in-Postfix-clause-first : goal.expr-returns-in_ok-behind-in-Postfix-clause-first
expr-returns-in_ok-behind-in-Postfix-clause-first t c =
    let s = scope_of c.args.scope.now in
    c.in_ok-behind-in-Postfix.ensures.first
    ∙ both better (c.in_ok-made-in-Postfix.ensures.first ∙ ap (λ e. better (first_of c.args.notes.now) (expr_faults s e)) c.deref-in-Postfix.ensures) (ap (flat_map (bracket_faults s)) c.deref-in-Postfix-2.ensures.value)
    ∙ sym (better_append (first_of c.args.notes.now) (expr_faults s c.in-Postfix.e.value) (flat_map (bracket_faults s) c.in-Postfix.brackets.items))
    ∙ ap (better (first_of c.args.notes.now)) (sym (faults-Postfix s c.in-Postfix.e c.in-Postfix.brackets) ∙ ap (expr_faults s) (sym c.in-Postfix.is))

pub expr-returns-in_ok-behind-in-Chain-clause-made : goal.expr-returns-in_ok-behind-in-Chain-clause-made
expr-returns-in_ok-behind-in-Chain-clause-made t c =
    let s = scope_of c.args.scope.now in
    expr-Chain s c.in-Chain.e c.in-Chain.links c.in_ok-made-in-Chain.made c.in_ok-behind-in-Chain.behind (c.in_ok-made-in-Chain.ensures.made ∙ ap (named_expr s) c.deref-in-Chain.ensures) (c.in_ok-behind-in-Chain.ensures.made ∙ ap (map (named_link s)) c.deref-in-Chain-2.ensures.value)
    ∙ ap (named_expr s) (sym c.in-Chain.is)

pub expr-returns-in_ok-behind-in-Chain-clause-first : goal.expr-returns-in_ok-behind-in-Chain-clause-first
expr-returns-in_ok-behind-in-Chain-clause-first t c =
    let s = scope_of c.args.scope.now in
    c.in_ok-behind-in-Chain.ensures.first
    ∙ both better (c.in_ok-made-in-Chain.ensures.first ∙ ap (λ e. better (first_of c.args.notes.now) (expr_faults s e)) c.deref-in-Chain.ensures) (ap (flat_map (link_faults s)) c.deref-in-Chain-2.ensures.value)
    ∙ sym (better_append (first_of c.args.notes.now) (expr_faults s c.in-Chain.e.value) (flat_map (link_faults s) c.in-Chain.links.items))
    ∙ ap (better (first_of c.args.notes.now)) (sym (faults-Chain s c.in-Chain.e c.in-Chain.links) ∙ ap (expr_faults s) (sym c.in-Chain.is))

pub exprs-loop-e-preserved : goal.exprs-loop-e-preserved
exprs-loop-e-preserved t c =
    let s = scope_of c.args.scope.now in
    (made_step ex_of (named_expr s) _ _ c.args.es.now c.loop-e.e-index c.e-item.result c.in_ok-e.e c.loop-e-test.true c.e-item.is c.loop-e.invariant.0 c.in_ok-e.ensures.made c.in_ok-push.ensures.items, better_step (expr_faults s) _ _ c.args.es.now c.loop-e.e-index c.e-item.result _ c.loop-e-test.true c.e-item.is c.loop-e.invariant.1 c.in_ok-e.ensures.first)

pub links_behind-loop-l-preserved : goal.links_behind-loop-l-preserved
links_behind-loop-l-preserved t c =
    let s = scope_of c.args.scope.now in
    (made_step link_view (named_link s) _ _ c.args.links.now c.loop-l.l-index c.l-item.result c.in_ok-l.l c.loop-l-test.true c.l-item.is c.loop-l.invariant.0 c.in_ok-l.ensures.made c.in_ok-push.ensures.items, better_step (link_faults s) _ _ c.args.links.now c.loop-l.l-index c.l-item.result _ c.loop-l-test.true c.l-item.is c.loop-l.invariant.1 c.in_ok-l.ensures.first)

pub expr-returns-in-Named-clause-made : goal.expr-returns-in-Named-clause-made
expr-returns-in-Named-clause-made t c = rw c.in-Named.is c.read.ensures.made

pub expr-returns-in-Named-clause-first : goal.expr-returns-in-Named-clause-first
expr-returns-in-Named-clause-first t c = rw c.in-Named.is c.read.ensures.first

pub expr-returns-in_ok-made-in-Old-clause-made : goal.expr-returns-in_ok-made-in-Old-clause-made
expr-returns-in_ok-made-in-Old-clause-made t c =
    let s = scope_of c.args.scope.now in
    ap (r.Old c.in-Old.pos) (c.in_ok-made-in-Old.ensures.made ∙ ap (named_expr s) c.deref-in-Old.ensures) ∙ ap (named_expr s) (sym c.in-Old.is)

pub expr-returns-in_ok-made-in-Old-clause-first : goal.expr-returns-in_ok-made-in-Old-clause-first
expr-returns-in_ok-made-in-Old-clause-first t c =
    let s = scope_of c.args.scope.now in
    let best = first_of c.args.notes.now in
    after best (first_of c.note_unless.new.notes) _ (unless s.has_old (fault kinds.BadOld c.in-Old.pos [])) (expr_faults s c.in-Old.e.value) c.note_unless.ensures (c.in_ok-made-in-Old.ensures.first ∙ ap (λ e. better (first_of c.note_unless.new.notes) (expr_faults s e)) c.deref-in-Old.ensures)
    ∙ ap (λ e. better best (expr_faults s e)) (sym c.in-Old.is)

pub expr-returns-in_ok-made-in-Parens-clause-made : goal.expr-returns-in_ok-made-in-Parens-clause-made
expr-returns-in_ok-made-in-Parens-clause-made t c =
    let s = scope_of c.args.scope.now in
    ap (r.Parens c.in-Parens.pos) (c.in_ok-made-in-Parens.ensures.made ∙ ap (named_expr s) c.deref-in-Parens.ensures) ∙ ap (named_expr s) (sym c.in-Parens.is)

pub expr-returns-in_ok-made-in-Parens-clause-first : goal.expr-returns-in_ok-made-in-Parens-clause-first
expr-returns-in_ok-made-in-Parens-clause-first t c =
    let s = scope_of c.args.scope.now in
    c.in_ok-made-in-Parens.ensures.first ∙ ap (λ e. better (first_of c.args.notes.now) (expr_faults s e)) c.deref-in-Parens.ensures ∙ ap (λ e. better (first_of c.args.notes.now) (expr_faults s e)) (sym c.in-Parens.is)

pub expr-returns-in_ok-made-in-Prefix-clause-first : goal.expr-returns-in_ok-made-in-Prefix-clause-first
expr-returns-in_ok-made-in-Prefix-clause-first t c =
    let s = scope_of c.args.scope.now in
    c.in_ok-made-in-Prefix.ensures.first ∙ ap (λ e. better (first_of c.args.notes.now) (expr_faults s e)) c.deref-in-Prefix-2.ensures ∙ ap (λ e. better (first_of c.args.notes.now) (expr_faults s e)) (sym c.in-Prefix.is)

pub boxed-returns-clause-made : goal.boxed-returns-clause-made
boxed-returns-clause-made t c = ap ex_of c.in_ok-new.ensures.ok ∙ c.in_ok-made.ensures.made

pub boxed-returns-clause-first : goal.boxed-returns-clause-first
boxed-returns-clause-first t c = c.in_ok-made.ensures.first

pub apply-returns-clause-made : goal.apply-returns-clause-made
apply-returns-clause-made t c = c.apply_node.ensures ∙ both (r.Apply c.args.name.now.pos) c.in_ok-function.ensures.ok (ap exs_of c.in_ok-args.ensures.made)

pub apply-returns-clause-first : goal.apply-returns-clause-first
apply-returns-clause-first t c =
    let s = scope_of c.args.scope.now in
    after (first_of c.args.notes.now) (first_of c.note_use.new.notes) _ (use_faults s.functions (id_of c.args.name.now)) (flat_map (expr_faults s) c.args.args.now) c.note_use.ensures c.in_ok-args.ensures.first

pub link-returns-clause-made : goal.link-returns-clause-made
link-returns-clause-made t c = ap (λ x. (c.args.link.now.pos, c.args.link.now.sign, x)) c.in_ok-operand.ensures.made

pub link-returns-clause-first : goal.link-returns-clause-first
link-returns-clause-first t c = c.in_ok-operand.ensures.first

pub exprs-returns-clause-made : goal.exprs-returns-clause-made
exprs-returns-clause-made t c =
    let s = scope_of c.args.scope.now in
    c.loop-e.invariant.0 ∙ ap (map (named_expr s)) (take_all c.loop-e.e-index c.args.es.now c.loop-e-test.false)

pub exprs-returns-clause-first : goal.exprs-returns-clause-first
exprs-returns-clause-first t c =
    let s = scope_of c.args.scope.now in
    sym (at_drop_all (λ l. better (first_of c.loop-e.notes) (flat_map (expr_faults s) l)) c.args.es.now c.loop-e.e-index c.loop-e-test.false) ∙ c.loop-e.invariant.1

pub brackets_behind-returns-clause-made : goal.brackets_behind-returns-clause-made
brackets_behind-returns-clause-made t c =
    let s = scope_of c.args.scope.now in
    c.loop-b.invariant.0 ∙ ap (map (named_bracket s)) (take_all c.loop-b.b-index c.args.brackets.now c.loop-b-test.false)

pub brackets_behind-returns-clause-first : goal.brackets_behind-returns-clause-first
brackets_behind-returns-clause-first t c =
    let s = scope_of c.args.scope.now in
    sym (at_drop_all (λ l. better (first_of c.loop-b.notes) (flat_map (bracket_faults s) l)) c.args.brackets.now c.loop-b.b-index c.loop-b-test.false) ∙ c.loop-b.invariant.1

pub links_behind-returns-clause-made : goal.links_behind-returns-clause-made
links_behind-returns-clause-made t c =
    let s = scope_of c.args.scope.now in
    c.loop-l.invariant.0 ∙ ap (map (named_link s)) (take_all c.loop-l.l-index c.args.links.now c.loop-l-test.false)

pub links_behind-returns-clause-first : goal.links_behind-returns-clause-first
links_behind-returns-clause-first t c =
    let s = scope_of c.args.scope.now in
    sym (at_drop_all (λ l. better (first_of c.loop-l.notes) (flat_map (link_faults s) l)) c.args.links.now c.loop-l.l-index c.loop-l-test.false) ∙ c.loop-l.invariant.1
