use Rattle.std.proofs.Common.{sym, ap, ◌∙◌, flat_map, arith}
use Rattle.bg_ast.specs.Views.{ex_of}
use Rattle.bg_names.specs.Faults.{better}
use Rattle.bg_names.specs.Views.{scope_of, first_of, link_faults, expr_faults}
use Rattle.bg_names.proofs.Firsts.{better_append}
use Rattle.bg_names.proofs.Forms.{chained-made, chained-first}
use Rattle.bg_names.proofs.clauses.chain.Goals as goal

pub returns-clause-made : goal.returns-clause-made
returns-clause-made c =
    chained-made (scope_of c.args.scope.now) c.args.operand.now c.args.rest.now c.in_ok-new.field-0 c.in_ok-links.links (omega arith) (ap ex_of c.in_ok-new.ensures.ok ∙ c.in_ok-made.ensures.made) c.in_ok-links.ensures.made

pub returns-clause-first : goal.returns-clause-first
returns-clause-first c =
    let s = scope_of c.args.scope.now in
    c.in_ok-links.ensures.first
    ∙ ap (λ b. better b (flat_map (link_faults s) c.args.rest.now)) c.in_ok-made.ensures.first
    ∙ sym (better_append (first_of c.args.notes.now) (expr_faults s c.args.operand.now) (flat_map (link_faults s) c.args.rest.now))
    ∙ ap (better (first_of c.args.notes.now)) (sym (chained-first s c.args.operand.now c.args.rest.now (omega arith)))
