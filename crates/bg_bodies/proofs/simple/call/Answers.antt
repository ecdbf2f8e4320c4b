use Rattle.std.proofs.Common.{◌++◌, [], map, flat_map, sym, ap, ◌∙◌}
use Rattle.bg_text.specs.Views as v
use Rattle.bg_ast.specs.Views.{exs_of}
use Rattle.bg_names.specs.Faults.{better}
use Rattle.bg_names.specs.Spaces.{repeats, use_faults}
use Rattle.bg_names.specs.Exprs.{exs_faults}
use Rattle.bg_names.specs.Inside.{placed, id_faults}
use Rattle.bg_bodies.specs.Bodies.{callee_faults}
use Rattle.bg_names.specs.Views.{inside_of, first_of, named_expr, expr_faults}
use Rattle.bg_names.proofs.Firsts.{after, fuse_map, fuse_flat}
use Rattle.bg_names.proofs.Forms.{named_exs-of, exs_faults-of, same_call}
use Rattle.bg_bodies.proofs.simple.call.Goals as goal

pub returns-clause-made : goal.returns-clause-made
returns-clause-made c =
    let s = inside_of c.args.inside.now in
    same_call _ _ _ _ _ _ _ _ _
    c.in_ok-procedure.ensures.ok
    (ap exs_of (c.in_ok-args.ensures.made ∙ ap (map (named_expr s.scope)) c.deref-3.ensures.value) ∙ sym (named_exs-of s.scope c.args.c.now.args.items))
    (c.in_ok-takes.ensures.made ∙ ap (map (λ x. placed s (v.id_of x))) c.deref-2.ensures.value ∙ sym (fuse_map (placed s) v.id_of c.args.c.now.takes.items))

pub returns-clause-first : goal.returns-clause-first
returns-clause-first c =
    let s = inside_of c.args.inside.now in
    let k = c.args.c.now in
    let xs = map v.id_of k.takes.items in
    let rs = repeats [] xs in
    let fs = flat_map (id_faults s) xs in
    let us = use_faults s.procedures (v.id_of k.procedure) in
    let cs = callee_faults s (v.id_of k.procedure) in
    after (first_of c.args.notes.now) _ _ (rs ++ fs ++ us ++ cs) (exs_faults s.scope (v.exs_in k.args.items))
    (after (first_of c.args.notes.now) _ _ (rs ++ fs ++ us) cs
    (after (first_of c.args.notes.now) _ _ (rs ++ fs) us
    (after (first_of c.args.notes.now) _ _ rs fs
    (c.in_ok-note_repeats.ensures.first ∙ ap (λ l. better (first_of c.args.notes.now) (repeats [] (map v.id_of l))) c.deref.ensures.value)
    (c.in_ok-takes.ensures.first ∙ ap (better (first_of c.note_repeats.new.notes)) (ap (flat_map (λ x. id_faults s (v.id_of x))) c.deref-2.ensures.value ∙ sym (fuse_flat (id_faults s) v.id_of k.takes.items))))
    c.note_use.ensures)
    c.note_callee.ensures)
    (c.in_ok-args.ensures.first ∙ ap (better (first_of c.note_callee.new.notes)) (ap (flat_map (expr_faults s.scope)) c.deref-3.ensures.value ∙ sym (exs_faults-of s.scope k.args.items)))
