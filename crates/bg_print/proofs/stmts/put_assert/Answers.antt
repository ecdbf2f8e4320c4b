use Rattle.std.proofs.Common.{refl}
use Rattle.bg_text.specs.declared.token.Kind.TheVariants as kinds
use Rattle.bg_print.proofs.stmts.put_assert.Goals as goal

pub returns : goal.returns
returns c = c.put_clause.ensures kinds.Assert refl
