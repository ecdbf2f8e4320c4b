use Rattle.bg_ast.specs.Meaning.{meaning_of}
use Rattle.bg_houdini.proofs.Means.{same_retained}
use Rattle.bg_houdini.proofs.laws.outcomes_agree.Goals as goal

pub returns : goal.returns
returns c = λ keeps keeping budget other p o q typed over resolved h g known known'.
    same_retained keeps keeping budget other p o q (λ set above t es cert k u. c.proved_places_do_not_fail.ensures (meaning_of p) set above t es cert typed over k u) resolved h g known known'
