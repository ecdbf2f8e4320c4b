use Rattle.std.proofs.Common.{◌∙◌}
use Rattle.bg_fits.proofs.Synonyms.{key_is}
use Rattle.bg_fits.proofs.written.index_within.Goals as goal

pub returns : goal.returns
returns c = c.key_by.ensures ∙ key_is _ _ c.base_within.ensures
