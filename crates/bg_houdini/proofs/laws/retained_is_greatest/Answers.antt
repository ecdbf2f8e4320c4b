use Rattle.bg_ast.specs.Meaning.{meaning_of}
use Rattle.bg_houdini.proofs.Means.{places_greatest}
use Rattle.bg_houdini.proofs.laws.retained_is_greatest.Goals as goal

pub returns : goal.returns
returns c = λ keeps budget p o typed over resolved truth known.
    places_greatest keeps budget p o (λ set other t es cert h u. c.proved_places_do_not_fail.ensures (meaning_of p) set other t es cert typed over h u) truth resolved known
