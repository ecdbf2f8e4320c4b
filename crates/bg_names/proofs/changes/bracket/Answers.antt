use Rattle.std.proofs.Common.{map, flat_map, sym, ap, ◌∙◌}
use Rattle.bg_ast.specs.Views.{exs_of}
use Rattle.bg_names.specs.Faults.{better}
use Rattle.bg_names.specs.Views.{scope_of, first_of, named_expr, expr_faults}
use Rattle.bg_names.proofs.Forms.{named_exs-of, exs_faults-of}
use Rattle.bg_names.proofs.changes.bracket.Goals as goal

pub returns-clause-made : goal.returns-clause-made
returns-clause-made c =
    let s = scope_of c.args.inside.now.scope in
    ap (λ l. (c.args.bracket.now.pos, l)) (ap exs_of (c.in_ok-indices.ensures.made ∙ ap (map (named_expr s)) c.deref.ensures.value) ∙ sym (named_exs-of s c.args.bracket.now.indices.items))

pub returns-clause-first : goal.returns-clause-first
returns-clause-first c =
    let s = scope_of c.args.inside.now.scope in
    c.in_ok-indices.ensures.first
    ∙ ap (λ l. better (first_of c.args.notes.now) (flat_map (expr_faults s) l)) c.deref.ensures.value
    ∙ ap (better (first_of c.args.notes.now)) (sym (exs_faults-of s c.args.bracket.now.indices.items))
