use Rattle.std.proofs.Common.{sym, subst, refl}
use Rattle.bg_text.specs.Tokens.{views}
use Rattle.bg_lex.specs.Fronts.{Adds}
use Rattle.bg_lex.proofs.Whole.{token_more}
use Rattle.bg_lex.proofs.lexer.add.Goals as goal

pub returns-in-Ok-clause-ok : goal.returns-in-Ok-clause-ok
returns-in-Ok-clause-ok c =
    subst (λ o. Adds o c.args.pos c.args.text.now (views c.args.list.now.items) (views c.push.new.self.items)) (sym c.in-Some.is)
    (token_more c.args.list.now.items c.push.new.self.items _ c.in-Some.kind c.args.text.now c.args.pos c.in-Ok.ensures.items refl refl refl)
