use Rattle.std.proofs.Common.{sym, ap, drop}
use Rattle.bg_text.specs.declared.token.Kind.TheVariants as kinds
use Rattle.bg_text.specs.Tokens.{views}
use Rattle.std.proofs.lemmas.Result.{err_from_is_err_and}
use Rattle.bg_grammar.specs.Rules.{room}
use Rattle.bg_parse.specs.Declarations.{fun_arg_at}
use Rattle.bg_parse.proofs.Inside.{inside_refused}
use Rattle.bg_parse.proofs.functions.enclosed_result.Goals as goal

pub returns-in_err-after-2 : goal.returns-in_err-after-2
returns-in_err-after-2 c =
    let p = err_from_is_err_and c.from_residual-in_err-after-2.result c.from_residual-in_err-after-2.ensures.1 in
    rw (p.1, p.2) (inside_refused kinds.Open kinds.Close _ (fun_arg_at c.args.limit c.in-Some.deeper) (views (drop c.args.at c.args.tokens.now)) _ _ _ _ _ _ (ap (room (fun_arg_at c.args.limit)) (sym c.in-Some.ensures.is)) c.in_ok-after.ensures c.in_ok-made.ensures c.in_err-after-2.ensures)
