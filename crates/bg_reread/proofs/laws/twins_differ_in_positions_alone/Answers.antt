use Rattle.bg_reread.proofs.Twins.{twins}
use Rattle.bg_reread.proofs.laws.twins_differ_in_positions_alone.Goals as goal

pub returns : goal.returns
returns c = twins c.tokens_spell_one_program.ensures.one
