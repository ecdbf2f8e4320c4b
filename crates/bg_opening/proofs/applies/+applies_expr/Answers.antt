use Rattle.std.proofs.Common.{◌≡◌, false, ◌||◌, is_some, map, sym, ap, ◌∙◌}
use Rattle.std.specs.List.{list_any}
use Rattle.bg_ast.specs.Views.{ex_of, link_view, bracket_view, fun_of}
use Rattle.bg_opened.specs.Changed.{bodies_in}
use Rattle.bg_opening.specs.Applied.{applies_some, applies_within, applies_at}
use Rattle.bg_opening.proofs.Applied.{applied-Apply, applied-Chain, applied-Postfix, applied-Select, applied-Update}
use Rattle.bg_opening.proofs.applies.+applies_expr.Goals as goal

pub applies-returns-else-has_body : goal.applies-returns-else-has_body
applies-returns-else-has_body t c =
    let fs = map fun_of c.args.functions.now in
    let among = list_any (applies_some fs) (map ex_of c.in-Apply.args.items) in
    let none : is_some (bodies_in fs c.in-Apply.f) ≡ false = sym c.has_body.ensures ∙ c.if-has_body.false in
    c.any_applies.ensures
    ∙ ap (λ l. list_any (applies_some fs) (map ex_of l)) c.deref.ensures.value
    ∙ ap (λ b. b || among) (sym none)
    ∙ sym (applied-Apply fs c.in-Apply.field-0 c.in-Apply.f c.in-Apply.args)
    ∙ ap (λ e. applies_some fs (ex_of e)) (sym c.in-Apply.is)

pub applies-returns-else-applies : goal.applies-returns-else-applies
applies-returns-else-applies t c =
    let fs = map fun_of c.args.functions.now in
    let behind = list_any (applies_within fs) (map bracket_view c.in-Postfix.brackets.items) in
    let none : applies_some fs (ex_of c.in-Postfix.e.value) ≡ false = sym (c.applies-in-Postfix.ensures ∙ ap (λ e. applies_some fs (ex_of e)) c.deref-in-Postfix.ensures) ∙ c.if-applies.false in
    c.any_bracket_applies.ensures
    ∙ ap (λ l. list_any (applies_within fs) (map bracket_view l)) c.deref-else-applies.ensures.value
    ∙ ap (λ b. b || behind) (sym none)
    ∙ sym (applied-Postfix fs c.in-Postfix.e c.in-Postfix.brackets)
    ∙ ap (λ e. applies_some fs (ex_of e)) (sym c.in-Postfix.is)

pub applies-returns-else-applies-2 : goal.applies-returns-else-applies-2
applies-returns-else-applies-2 t c =
    let fs = map fun_of c.args.functions.now in
    let along = list_any (applies_at fs) (map link_view c.in-Chain.links.items) in
    let none : applies_some fs (ex_of c.in-Chain.e.value) ≡ false = sym (c.applies-in-Chain.ensures ∙ ap (λ e. applies_some fs (ex_of e)) c.deref-in-Chain.ensures) ∙ c.if-applies-2.false in
    c.any_link_applies.ensures
    ∙ ap (λ l. list_any (applies_at fs) (map link_view l)) c.deref-else-applies-2.ensures.value
    ∙ ap (λ b. b || along) (sym none)
    ∙ sym (applied-Chain fs c.in-Chain.e c.in-Chain.links)
    ∙ ap (λ e. applies_some fs (ex_of e)) (sym c.in-Chain.is)

pub bracket_applies-returns-in-Select : goal.bracket_applies-returns-in-Select
bracket_applies-returns-in-Select t c =
    let fs = map fun_of c.args.functions.now in
    c.any_applies.ensures
    ∙ ap (λ l. list_any (applies_some fs) (map ex_of l)) c.deref.ensures.value
    ∙ sym (applied-Select fs c.in-Select.field-0 c.in-Select.indices)
    ∙ ap (λ b. applies_within fs (bracket_view b)) (sym c.in-Select.is)

pub bracket_applies-returns-then-any_applies : goal.bracket_applies-returns-then-any_applies
bracket_applies-returns-then-any_applies t c =
    let fs = map fun_of c.args.functions.now in
    let is = c.any_applies-in-Update.ensures ∙ ap (λ l. list_any (applies_some fs) (map ex_of l)) c.deref-in-Update.ensures.value in
    c.if-any_applies.true
    ∙ ap (λ b. b || applies_some fs (ex_of c.in-Update.value)) (sym c.if-any_applies.true ∙ is)
    ∙ sym (applied-Update fs c.in-Update.field-0 c.in-Update.indices c.in-Update.value)
    ∙ ap (λ b. applies_within fs (bracket_view b)) (sym c.in-Update.is)

pub bracket_applies-returns-else-any_applies : goal.bracket_applies-returns-else-any_applies
bracket_applies-returns-else-any_applies t c =
    let fs = map fun_of c.args.functions.now in
    let is = c.any_applies-in-Update.ensures ∙ ap (λ l. list_any (applies_some fs) (map ex_of l)) c.deref-in-Update.ensures.value in
    c.applies.ensures
    ∙ ap (λ b. b || applies_some fs (ex_of c.in-Update.value)) (sym c.if-any_applies.false ∙ is)
    ∙ sym (applied-Update fs c.in-Update.field-0 c.in-Update.indices c.in-Update.value)
    ∙ ap (λ b. applies_within fs (bracket_view b)) (sym c.in-Update.is)
