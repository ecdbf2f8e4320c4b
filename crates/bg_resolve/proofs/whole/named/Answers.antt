use Rattle.std.proofs.Common.{map, flat_map, ap, subst, ◌∙◌}
use Rattle.std.proofs.lemmas.Result.{err_from_is_err_and}
use Rattle.bg_text.specs.Views as v
use Rattle.bg_names.specs.Spaces.{names_of}
use Rattle.bg_spaces.specs.Declarations.{function_ids, repeated, spaces_of}
use Rattle.bg_resolve.specs.Program.{decl_faults, named_in}
use Rattle.bg_resolve.specs.Calls.{WithRecursion}
use Rattle.bg_names.specs.Faults.{better}
use Rattle.bg_names.specs.Views.{first_of}
use Rattle.bg_names.proofs.Firsts.{after}
use Rattle.bg_resolve.proofs.whole.named.Goals as goal

pub returns-in_err-made-clause-err : goal.returns-in_err-made-clause-err
returns-in_err-made-clause-err c =
    let p = err_from_is_err_and c.from_residual-in_err-made.result c.from_residual-in_err-made.ensures.1 in
    rw (p.1, p.2) c.in_err-made.ensures.err

pub returns-in_err-note_recursion-clause-err : goal.returns-in_err-note_recursion-clause-err
returns-in_err-note_recursion-clause-err c =
    let p = err_from_is_err_and c.from_residual-in_err-note_recursion.result c.from_residual-in_err-note_recursion.ensures.1 in
    rw (p.1, p.2) c.in_err-note_recursion.ensures.err

pub returns-clause-made : goal.returns-clause-made
returns-clause-made c = c.in_ok-made.ensures.made ∙ ap (λ g. named_in g (map v.decl_of c.args.decls.now)) c.in_ok-g.ensures.made

pub returns-clause-first : goal.returns-clause-first
returns-clause-first c =
    let ds = map v.decl_of c.args.decls.now in
    let all = flat_map (decl_faults (spaces_of ds)) ds in
    subst (λ b. WithRecursion (names_of (function_ids ds)) ds b (first_of c.note_recursion.new.notes)) (after (first_of c.args.notes.now) (first_of c.declare_all.new.notes) (first_of c.program.new.notes) (repeated ds) all c.in_ok-g.ensures.first (c.in_ok-made.ensures.first ∙ ap (λ g. better (first_of c.declare_all.new.notes) (flat_map (decl_faults g) ds)) c.in_ok-g.ensures.made)) c.in_ok-note_recursion.ensures.ok
