use Rattle.std.proofs.Common.{sym, ◌∙◌}
use Rattle.bg_lex.proofs.Runs.{space_found}
use Rattle.bg_lex.proofs.front.front_of.Goals as goal

pub returns-then-is_space : goal.returns-then-is_space
returns-then-is_space c = space_found c.args.bytes.now c.requires (sym c.is_space.ensures ∙ c.if-is_space.true)
