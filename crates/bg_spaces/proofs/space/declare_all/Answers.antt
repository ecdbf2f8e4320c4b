-- The proof takes some four seconds: six calls may fail, and each of these exits has three clauses.
use Rattle.std.proofs.Common.{◌≡◌, map, length, sym, ◌∙◌, arith}
use Rattle.std.proofs.lemmas.List.{length-map}
use Rattle.std.proofs.lemmas.Result.{err_from_is_err_and}
use Rattle.bg_text.specs.Views as v
use Rattle.bg_spaces.specs.Declarations.{global_ids}
use Rattle.bg_spaces.proofs.SpaceForms.{spaces-are, as_many}
use Rattle.bg_spaces.proofs.space.declare_all.Goals as goal

pub returns-in_err-globals-clause-err : goal.returns-in_err-globals-clause-err
returns-in_err-globals-clause-err c =
    let p = err_from_is_err_and c.from_residual-in_err-globals.result c.from_residual-in_err-globals.ensures.1 in
    rw (p.1, p.2) c.in_err-globals.ensures.err

pub returns-in_err-changes-clause-err : goal.returns-in_err-changes-clause-err
returns-in_err-changes-clause-err c =
    let p = err_from_is_err_and c.from_residual-in_err-changes.result c.from_residual-in_err-changes.ensures.1 in
    rw (p.1, p.2) c.in_err-changes.ensures.err

pub returns-clause-made : goal.returns-clause-made
returns-clause-made c =
    let ds = map v.decl_of c.args.decls.now in
    let many = sym (length-map c.in_ok-globals.globals.items _) ∙ as_many _ (global_ids ds) c.in_ok-globals.ensures.ok in
    let n : c.len.result ≡ length (global_ids ds) = omega (arith, c.len.ensures, c.in_ok-globals.globals.ok.0, many) in
    spaces-are ds _ _ _ _ _ _ _ c.len.result c.in_ok-types.ensures.made c.in_ok-values.ensures.names c.in_ok-values.ensures.meanings c.in_ok-functions.ensures.made c.in_ok-procedures.ensures.made c.in_ok-globals.ensures.ok n c.in_ok-changes.ensures.ok
