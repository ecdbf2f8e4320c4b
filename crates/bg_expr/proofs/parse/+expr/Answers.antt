use Rattle.std.proofs.Common.{◌≡◌, ◌∙◌, ◌+◌, ◌-◌, suc, sym, refl, arith, drop, ap, map}
use Rattle.std.proofs.lemmas.List.{map-append}
use Rattle.std.proofs.lemmas.Result.{err_from_is_err_and}
use Rattle.bg_text.specs.Tokens.{views}
use Rattle.bg_reader.specs.Reading.{Got}
use Rattle.bg_expr.specs.Exprs.{inner_of, inner_of}
use Rattle.bg_text.specs.Views.{bracket_view}
use Rattle.bg_reader.proofs.Loops.{many_more, many_stop, many_bad, many_deep}
use Rattle.bg_expr.proofs.Rungs.{ladder_none, ladder_bad, ladder_deep, ladder_links_bad, ladder_links_deep, ladder_got, refuses_on, brackets_zero_none, brackets_zero_some, brackets_got, brackets_bad, brackets_deep, bracket_none, bracket_some, call_got, call_bad, call_deep, call_sunk, old_sunk, old_got, old_bad, old_deep, parens_sunk, parens_got, parens_bad, parens_deep}
use Rattle.bg_expr.proofs.Builds.{apply_is}
use Rattle.bg_text.proofs.Lists.{bracket_view-Select, bracket_view-Update}
use Rattle.bg_expr.proofs.parse.+expr.Goals as goal

pub ladder-returns-then-rungs-eq0 : goal.ladder-returns-then-rungs-eq0
ladder-returns-then-rungs-eq0 t c = rw (ladder_none c.args.limit (inner_of c.args.limit c.args.depth) c.args.rungs (views (drop c.args.at c.args.tokens.now)) c.if-rungs-eq0.true) c.prefixed.ensures

pub ladder-returns-in_err-e : goal.ladder-returns-in_err-e
ladder-returns-in_err-e t c =
    let p = err_from_is_err_and c.from_residual.result c.from_residual.ensures.1 in
    let m : c.args.rungs ≡ suc (c.args.rungs - 1) = omega (arith, c.if-rungs-eq0.false) in
    rw (p.1, p.2) (refuses_on _ _ _ _ (ladder_bad _ _ _ _ _ m) (ladder_deep _ _ _ _ _ m) c.in_err-e.ensures)

pub ladder-returns-in_err-links : goal.ladder-returns-in_err-links
ladder-returns-in_err-links t c =
    let p = err_from_is_err_and c.from_residual-in_err-links.result c.from_residual-in_err-links.ensures.1 in
    let m : c.args.rungs ≡ suc (c.args.rungs - 1) = omega (arith, c.if-rungs-eq0.false) in
    rw (p.1, p.2) (refuses_on _ _ _ _ (λ y h. ladder_links_bad _ _ _ _ _ m _ _ y c.in_ok-e.ensures h) (λ y h. ladder_links_deep _ _ _ _ _ m _ _ y c.in_ok-e.ensures h) c.in_err-links.ensures)

pub ladder-returns : goal.ladder-returns
ladder-returns t c =
    let m : c.args.rungs ≡ suc (c.args.rungs - 1) = omega (arith, c.if-rungs-eq0.false) in
    ladder_got _ _ _ _ _ m _ _ _ _ _ c.in_ok-e.ensures c.in_ok-links.ensures c.in_ok-chained.ensures.ok

pub more_links-returns-in_default : goal.more_links-returns-in_default
more_links-returns-in_default t c = sym c.loop.invariant ∙ many_stop _ _ _ _ (c.args.level.limit - c.loop.counter) (sym c.in_default.ensures)

pub more_links-returns-in_err-operand : goal.more_links-returns-in_err-operand
more_links-returns-in_err-operand t c =
    let p = err_from_is_err_and c.from_residual.result c.from_residual.ensures.1 in
    let m : c.args.level.limit - c.loop.counter ≡ suc (c.args.level.limit - (c.loop.counter + 1)) = omega arith in
    rw (p.1, p.2) (refuses_on _ _ _ _ (λ y h. sym c.loop.invariant ∙ many_bad _ _ _ _ _ _ _ _ y m (sym c.in-Some.ensures) (rw h refl)) (λ y h. sym c.loop.invariant ∙ many_deep _ _ _ _ _ _ _ _ y m (sym c.in-Some.ensures) (rw h refl)) c.in_err-operand.ensures)

pub more_links-loop-preserved : goal.more_links-loop-preserved
more_links-loop-preserved t c =
    let m : c.args.level.limit - c.loop.counter ≡ suc (c.args.level.limit - (c.loop.counter + 1)) = omega arith in
    rw (c.in_ok-push.ensures.items, map-append) (sym (many_more _ _ _ _ _ _ _ _ _ _ m (sym c.in-Some.ensures) (rw c.in_ok-operand.ensures refl)) ∙ c.loop.invariant)

pub more_exprs-returns-in_default : goal.more_exprs-returns-in_default
more_exprs-returns-in_default t c = sym c.loop.invariant ∙ many_stop _ _ _ _ (c.args.limit - c.loop.counter) (sym c.in_default.ensures)

pub more_exprs-returns-in_err-e : goal.more_exprs-returns-in_err-e
more_exprs-returns-in_err-e t c =
    let p = err_from_is_err_and c.from_residual.result c.from_residual.ensures.1 in
    let m : c.args.limit - c.loop.counter ≡ suc (c.args.limit - (c.loop.counter + 1)) = omega arith in
    rw (p.1, p.2) (refuses_on _ _ _ _ (λ y h. sym c.loop.invariant ∙ many_bad _ _ _ _ _ _ _ _ y m (sym c.in-Some.ensures) h) (λ y h. sym c.loop.invariant ∙ many_deep _ _ _ _ _ _ _ _ y m (sym c.in-Some.ensures) h) c.in_err-e.ensures)

pub more_exprs-loop-preserved : goal.more_exprs-loop-preserved
more_exprs-loop-preserved t c =
    let m : c.args.limit - c.loop.counter ≡ suc (c.args.limit - (c.loop.counter + 1)) = omega arith in
    rw (c.in_ok-push.ensures.items, map-append) (sym (many_more _ _ _ _ _ _ _ _ _ _ m (sym c.in-Some.ensures) c.in_ok-e.ensures) ∙ c.loop.invariant)

pub bracket-returns-in_ok-after-in-None : goal.bracket-returns-in_ok-after-in-None
bracket-returns-in_ok-after-in-None t c = bracket_none _ _ _ _ _ _ c.in_ok-indices.ensures _ _ (sym c.in-None.ensures) c.in_ok-after-in-None.ensures ∙ ap (λ v. Got v (views (drop c.in_ok-after-in-None.after c.args.tokens.now))) (sym (bracket_view-Select c.args.pos c.in_ok-indices.indices))

pub bracket-returns-in_ok-after-in-Some : goal.bracket-returns-in_ok-after-in-Some
bracket-returns-in_ok-after-in-Some t c = bracket_some _ _ _ _ _ _ c.in_ok-indices.ensures _ _ _ _ _ (sym c.in-Some.ensures) c.in_ok-value-in-Some.ensures c.in_ok-after-in-Some.ensures ∙ ap (λ v. Got v (views (drop c.in_ok-after-in-Some.after c.args.tokens.now))) (sym (bracket_view-Update c.args.pos c.in_ok-indices.indices c.in_ok-value-in-Some.value))

pub brackets-returns-in-None : goal.brackets-returns-in-None
brackets-returns-in-None t c = brackets_zero_none _ _ _ _ c.if-depth-eq0.true (sym c.in-None.ensures) (ap (map bracket_view) c.new-made.ensures.items)

pub brackets-returns-in-Some : goal.brackets-returns-in-Some
brackets-returns-in-Some t c = brackets_zero_some _ _ _ _ c.if-depth-eq0.true (sym c.in-Some.ensures)

pub brackets-returns-in_default : goal.brackets-returns-in_default
brackets-returns-in_default t c =
    let e : c.args.depth ≡ suc (c.args.depth - 1) = omega (arith, c.if-depth-eq0.false) in
    brackets_got _ _ _ _ e _ _ (sym c.loop.invariant ∙ many_stop _ _ _ _ (c.args.limit - c.loop.counter) (sym c.in_default.ensures))

pub brackets-returns-in-None-after_kind : goal.brackets-returns-in-None-after_kind
brackets-returns-in-None-after_kind t c =
    let e : c.args.depth ≡ suc (c.args.depth - 1) = omega (arith, c.if-depth-eq0.false) in
    brackets_got _ _ _ _ e _ _ (sym c.loop.invariant ∙ many_stop _ _ _ _ (c.args.limit - c.loop.counter) (sym c.in-None-after_kind.ensures))

pub brackets-returns-in_err-bracket : goal.brackets-returns-in_err-bracket
brackets-returns-in_err-bracket t c =
    let p = err_from_is_err_and c.from_residual.result c.from_residual.ensures.1 in
    let e : c.args.depth ≡ suc (c.args.depth - 1) = omega (arith, c.if-depth-eq0.false) in
    let m : c.args.limit - c.loop.counter ≡ suc (c.args.limit - (c.loop.counter + 1)) = omega arith in
    rw (p.1, p.2) (refuses_on _ _ _ _ (λ y h. brackets_bad _ _ _ _ e y (sym c.loop.invariant ∙ many_bad _ _ _ _ _ _ _ _ y m (sym c.in-Some-after_kind.ensures) h)) (λ y h. brackets_deep _ _ _ _ e y (sym c.loop.invariant ∙ many_deep _ _ _ _ _ _ _ _ y m (sym c.in-Some-after_kind.ensures) h)) c.in_err-bracket.ensures)

pub brackets-loop-preserved : goal.brackets-loop-preserved
brackets-loop-preserved t c =
    let m : c.args.limit - c.loop.counter ≡ suc (c.args.limit - (c.loop.counter + 1)) = omega arith in
    rw (c.in_ok-push.ensures.items, map-append) (sym (many_more _ _ _ _ _ _ _ _ _ _ m (sym c.in-Some-after_kind.ensures) c.in_ok-bracket.ensures) ∙ c.loop.invariant)

pub atom-returns-then-depth-eq0 : goal.atom-returns-then-depth-eq0
atom-returns-then-depth-eq0 t c = old_sunk _ _ _ (sym c.in_default.ensures) _ (sym c.in-Some-after_kind.ensures) _ (sym c.in-Some-after_kind-2.ensures) c.if-depth-eq0.true

pub atom-returns-in_err-e-in-Some-after_kind-2 : goal.atom-returns-in_err-e-in-Some-after_kind-2
atom-returns-in_err-e-in-Some-after_kind-2 t c =
    let p = err_from_is_err_and c.from_residual.result c.from_residual.ensures.1 in
    let e : c.args.depth ≡ suc (c.args.depth - 1) = omega (arith, c.if-depth-eq0.false) in
    rw (p.1, p.2) (refuses_on _ _ _ _ (old_bad _ _ _ (sym c.in_default.ensures) _ (sym c.in-Some-after_kind.ensures) _ (sym c.in-Some-after_kind-2.ensures) _ e) (old_deep _ _ _ (sym c.in_default.ensures) _ (sym c.in-Some-after_kind.ensures) _ (sym c.in-Some-after_kind-2.ensures) _ e) c.in_err-e-in-Some-after_kind-2.ensures)

pub atom-returns-in_ok-e-in-Some-after_kind-2 : goal.atom-returns-in_ok-e-in-Some-after_kind-2
atom-returns-in_ok-e-in-Some-after_kind-2 t c =
    let e : c.args.depth ≡ suc (c.args.depth - 1) = omega (arith, c.if-depth-eq0.false) in
    old_got _ _ _ (sym c.in_default.ensures) _ (sym c.in-Some-after_kind.ensures) _ (sym c.in-Some-after_kind-2.ensures) _ e _ _ c.in_ok-e-in-Some-after_kind-2.ensures

pub atom-returns-then-depth-eq0-2 : goal.atom-returns-then-depth-eq0-2
atom-returns-then-depth-eq0-2 t c = parens_sunk _ _ _ (sym c.in_default.ensures) (sym c.in_default-after_kind.ensures) _ (sym c.in-Some-after_kind-3.ensures) c.if-depth-eq0-2.true

pub atom-returns-in_err-e-in-Some-after_kind-3 : goal.atom-returns-in_err-e-in-Some-after_kind-3
atom-returns-in_err-e-in-Some-after_kind-3 t c =
    let p = err_from_is_err_and c.from_residual-in_err-e-in-Some-after_kind-3.result c.from_residual-in_err-e-in-Some-after_kind-3.ensures.1 in
    let e : c.args.depth ≡ suc (c.args.depth - 1) = omega (arith, c.if-depth-eq0-2.false) in
    rw (p.1, p.2) (refuses_on _ _ _ _ (parens_bad _ _ _ (sym c.in_default.ensures) (sym c.in_default-after_kind.ensures) _ (sym c.in-Some-after_kind-3.ensures) _ e) (parens_deep _ _ _ (sym c.in_default.ensures) (sym c.in_default-after_kind.ensures) _ (sym c.in-Some-after_kind-3.ensures) _ e) c.in_err-e-in-Some-after_kind-3.ensures)

pub atom-returns-in_ok-e-in-Some-after_kind-3 : goal.atom-returns-in_ok-e-in-Some-after_kind-3
atom-returns-in_ok-e-in-Some-after_kind-3 t c =
    let e : c.args.depth ≡ suc (c.args.depth - 1) = omega (arith, c.if-depth-eq0-2.false) in
    parens_got _ _ _ (sym c.in_default.ensures) (sym c.in_default-after_kind.ensures) _ (sym c.in-Some-after_kind-3.ensures) _ e _ _ c.in_ok-e-in-Some-after_kind-3.ensures

pub call-returns-then-depth-eq0 : goal.call-returns-then-depth-eq0
call-returns-then-depth-eq0 t c = call_sunk _ _ _ _ _ c.if-depth-eq0.true (sym c.in-Some.ensures)

pub call-returns-in_err-args-in-Some : goal.call-returns-in_err-args-in-Some
call-returns-in_err-args-in-Some t c =
    let p = err_from_is_err_and c.from_residual-in_err-args-in-Some.result c.from_residual-in_err-args-in-Some.ensures.1 in
    let e : c.args.depth ≡ suc (c.args.depth - 1) = omega (arith, c.if-depth-eq0.false) in
    rw (p.1, p.2) (refuses_on _ _ _ _ (λ y h. call_bad _ _ _ _ e _ _ y (sym c.in-Some.ensures) h) (λ y h. call_deep _ _ _ _ e _ _ y (sym c.in-Some.ensures) h) c.in_err-args-in-Some.ensures)

pub call-returns-in_ok-args-in-Some : goal.call-returns-in_ok-args-in-Some
call-returns-in_ok-args-in-Some t c =
    let e : c.args.depth ≡ suc (c.args.depth - 1) = omega (arith, c.if-depth-eq0.false) in
    call_got _ _ _ _ e (c.args.name.0, c.args.name.1.now) _ _ _ (sym c.in-Some.ensures) c.in_ok-args-in-Some.ensures ∙ ap (λ v. Got v (views (drop c.in_ok-args-in-Some.after c.args.tokens.now))) (apply_is c.in_ok-name.name c.in_ok-args-in-Some.args c.args.name.0 c.args.name.1.now c.in_ok-name.ensures.ok.0 c.in_ok-name.ensures.ok.1)
