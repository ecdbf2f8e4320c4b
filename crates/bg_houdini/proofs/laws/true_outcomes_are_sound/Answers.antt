use Rattle.bg_ast.specs.Meaning.{meaning_of}
use Rattle.bg_words.specs.Sets.{has}
use Rattle.bg_check.specs.Verdicts.{judged}
use Rattle.bg_houdini.proofs.Members.{CertificatesHold}
use Rattle.bg_houdini.proofs.Means.{places_inductive}
use Rattle.bg_houdini.proofs.Telling.{sound}
use Rattle.bg_houdini.proofs.laws.true_outcomes_are_sound.Goals as goal

pub returns : goal.returns
returns c = λ keeps budget p o words typed over resolved truth.
    let hold : CertificatesHold (meaning_of p) = λ set other t es cert h u. c.proved_places_do_not_fail.ensures (meaning_of p) set other t es cert typed over h u in
    sound keeps budget p o hold resolved truth words (c.right_verdicts_are_true.ensures p (has o.inferred.retained) budget (judged o.verdicts.items) words typed over (places_inductive keeps budget p o hold truth) truth.ordinary)
