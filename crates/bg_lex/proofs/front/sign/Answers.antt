use Rattle.std.proofs.Common.{sym, subst, ◌∙◌}
use Rattle.bg_lex.proofs.Signs.{SignAt, SignIs}
use Rattle.bg_lex.proofs.SignTables.{sign_right}
use Rattle.bg_lex.proofs.front.sign.Goals as goal

pub returns-in_default : goal.returns-in_default
unfolding SignAt
returns-in_default c =
    subst (SignAt c.args.bytes.now) (sym c.sign_at.ensures.sign ∙ c.in_default.is) (sign_right c.args.bytes.now c.requires.some c.requires.space c.requires.digit c.requires.ident c.requires.quote c.requires.slash)

pub returns-in-Some-kind : goal.returns-in-Some-kind
unfolding SignAt SignIs
returns-in-Some-kind c =
    let at = subst (SignAt c.args.bytes.now) (sym c.sign_at.ensures.sign ∙ c.in-Some.is) (sign_right c.args.bytes.now c.requires.some c.requires.space c.requires.digit c.requires.ident c.requires.quote c.requires.slash) in
    subst (λ o. SignIs c.args.bytes.now o c.in-Some.found.len) c.in-Some-kind.is at

pub returns-in-None : goal.returns-in-None
unfolding SignAt SignIs
returns-in-None c =
    let at = subst (SignAt c.args.bytes.now) (sym c.sign_at.ensures.sign ∙ c.in-Some.is) (sign_right c.args.bytes.now c.requires.some c.requires.space c.requires.digit c.requires.ident c.requires.quote c.requires.slash) in
    subst (λ o. SignIs c.args.bytes.now o c.in-Some.found.len) c.in-None.is at
