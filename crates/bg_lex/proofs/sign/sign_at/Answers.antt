use Rattle.std.proofs.Common.{sym, subst, arith, Option, Some, length, ◌≤◌, IfSome}
use Rattle.bg_text.specs.declared.token.Kind.TheVariants as kinds
use Rattle.bg_lex.specs.declared.sign.Sign.{Sign}
use Rattle.bg_lex.specs.Signs.{one, less_signs}
use Rattle.bg_lex.proofs.Signs.{fits}
use Rattle.bg_lex.proofs.sign.sign_at.Goals as goal

pub returns-in-60-clause-within : goal.returns-in-60-clause-within
returns-in-60-clause-within c =
    subst (λ (o : Option Sign). IfSome o (λ s. s.len ≤ length c.args.bytes.now)) (sym c.less.ensures) (fits less_signs (one (Some kinds.Less)) c.args.bytes.now (omega arith))
