use Rattle.std.proofs.Common.{map, flat_map, sym, ap, ◌∙◌}
use Rattle.std.proofs.lemmas.List.{take_all, at_drop_all}
use Rattle.bg_ast.specs.Resolved as r
use Rattle.bg_ast.specs.Views.{type_of, tys_of, index_view}
use Rattle.bg_names.specs.Faults.{better}
use Rattle.bg_names.specs.Views.{listed, first_of, type_faults, named_type, bracket_type_faults, named_type_bracket}
use Rattle.bg_names.proofs.Firsts.{better_append, better_step, made_step}
use Rattle.bg_names.proofs.Forms.{both}
use Rattle.bg_names.proofs.TypeForms.{named_tys-of, tys_faults-of, type-Map, faults-Map}
use Rattle.bg_names.proofs.types.+name_type.Goals as goal

pub tys-loop-e-preserved : goal.tys-loop-e-preserved
tys-loop-e-preserved t c =
    let s = listed c.args.types.now in
    (made_step type_of (named_type s) _ _ c.args.es.now c.loop-e.e-index c.e-item.result c.in_ok-e.e c.loop-e-test.true c.e-item.is c.loop-e.invariant.0 c.in_ok-e.ensures.made c.in_ok-push.ensures.items, better_step (type_faults s) _ _ c.args.es.now c.loop-e.e-index c.e-item.result _ c.loop-e-test.true c.e-item.is c.loop-e.invariant.1 c.in_ok-e.ensures.first)

pub indices-loop-b-preserved : goal.indices-loop-b-preserved
indices-loop-b-preserved t c =
    let s = listed c.args.types.now in
    (made_step index_view (named_type_bracket s) _ _ c.args.brackets.now c.loop-b.b-index c.b-item.result c.in_ok-b.b c.loop-b-test.true c.b-item.is c.loop-b.invariant.0 c.in_ok-b.ensures.made c.in_ok-push.ensures.items, better_step (bracket_type_faults s) _ _ c.args.brackets.now c.loop-b.b-index c.b-item.result _ c.loop-b-test.true c.b-item.is c.loop-b.invariant.1 c.in_ok-b.ensures.first)

pub ty-returns-in_ok-new-in-Map-clause-made : goal.ty-returns-in_ok-new-in-Map-clause-made
ty-returns-in_ok-new-in-Map-clause-made t c =
    let s = listed c.args.types.now in
    type-Map s c.in-Map.brackets c.in-Map.e c.in_ok-brackets-in-Map.brackets c.in_ok-new-in-Map.field-0 (c.in_ok-brackets-in-Map.ensures.made ∙ ap (map (named_type_bracket s)) c.deref-in-Map.ensures.value) (ap type_of c.in_ok-new-in-Map.ensures.ok ∙ c.in_ok-made-in-Map.ensures.made ∙ ap (named_type s) c.deref-in-Map-2.ensures)
    ∙ ap (named_type s) (sym c.in-Map.is)

pub ty-returns-in_ok-new-in-Map-clause-first : goal.ty-returns-in_ok-new-in-Map-clause-first
ty-returns-in_ok-new-in-Map-clause-first t c =
    let s = listed c.args.types.now in
    c.in_ok-made-in-Map.ensures.first
    ∙ both better (c.in_ok-brackets-in-Map.ensures.first ∙ ap (λ l. better (first_of c.args.notes.now) (flat_map (bracket_type_faults s) l)) c.deref-in-Map.ensures.value) (ap (type_faults s) c.deref-in-Map-2.ensures)
    ∙ sym (better_append (first_of c.args.notes.now) (flat_map (bracket_type_faults s) c.in-Map.brackets.items) (type_faults s c.in-Map.e.value))
    ∙ ap (better (first_of c.args.notes.now)) (sym (faults-Map s c.in-Map.brackets c.in-Map.e) ∙ ap (type_faults s) (sym c.in-Map.is))

pub ty-returns-in-Named-clause-made : goal.ty-returns-in-Named-clause-made
ty-returns-in-Named-clause-made t c = rw c.in-Named.is c.declared.ensures.made

pub ty-returns-in-Named-clause-first : goal.ty-returns-in-Named-clause-first
ty-returns-in-Named-clause-first t c = rw c.in-Named.is c.declared.ensures.first

pub ty-returns-in_ok-new-in-Parens-clause-made : goal.ty-returns-in_ok-new-in-Parens-clause-made
ty-returns-in_ok-new-in-Parens-clause-made t c =
    let s = listed c.args.types.now in
    ap (r.InParens c.in-Parens.pos) (ap type_of c.in_ok-new-in-Parens.ensures.ok ∙ c.in_ok-made-in-Parens.ensures.made ∙ ap (named_type s) c.deref.ensures) ∙ ap (named_type s) (sym c.in-Parens.is)

pub ty-returns-in_ok-new-in-Parens-clause-first : goal.ty-returns-in_ok-new-in-Parens-clause-first
ty-returns-in_ok-new-in-Parens-clause-first t c =
    let s = listed c.args.types.now in
    c.in_ok-made-in-Parens.ensures.first ∙ ap (λ e. better (first_of c.args.notes.now) (type_faults s e)) c.deref.ensures ∙ ap (λ e. better (first_of c.args.notes.now) (type_faults s e)) (sym c.in-Parens.is)

pub index-returns-clause-made : goal.index-returns-clause-made
index-returns-clause-made t c =
    let s = listed c.args.types.now in
    let b = c.args.bracket.now in
    ap (λ l. (b.pos, l)) (ap tys_of (c.in_ok-indices.ensures.made ∙ ap (map (named_type s)) c.deref.ensures.value) ∙ sym (named_tys-of s b.indices.items))

pub index-returns-clause-first : goal.index-returns-clause-first
index-returns-clause-first t c =
    let s = listed c.args.types.now in
    c.in_ok-indices.ensures.first ∙ ap (better (first_of c.args.notes.now)) (ap (flat_map (type_faults s)) c.deref.ensures.value ∙ sym (tys_faults-of s c.args.bracket.now.indices.items))

pub tys-returns-clause-made : goal.tys-returns-clause-made
tys-returns-clause-made t c =
    let s = listed c.args.types.now in
    c.loop-e.invariant.0 ∙ ap (map (named_type s)) (take_all c.loop-e.e-index c.args.es.now c.loop-e-test.false)

pub tys-returns-clause-first : goal.tys-returns-clause-first
tys-returns-clause-first t c =
    let s = listed c.args.types.now in
    sym (at_drop_all (λ l. better (first_of c.loop-e.notes) (flat_map (type_faults s) l)) c.args.es.now c.loop-e.e-index c.loop-e-test.false) ∙ c.loop-e.invariant.1

pub indices-returns-clause-made : goal.indices-returns-clause-made
indices-returns-clause-made t c =
    let s = listed c.args.types.now in
    c.loop-b.invariant.0 ∙ ap (map (named_type_bracket s)) (take_all c.loop-b.b-index c.args.brackets.now c.loop-b-test.false)

pub indices-returns-clause-first : goal.indices-returns-clause-first
indices-returns-clause-first t c =
    let s = listed c.args.types.now in
    sym (at_drop_all (λ l. better (first_of c.loop-b.notes) (flat_map (bracket_type_faults s) l)) c.args.brackets.now c.loop-b.b-index c.loop-b-test.false) ∙ c.loop-b.invariant.1
