use Rattle.std.proofs.Common.{rules, sym, ◌∙◌}
use borrow.Author.Tests.{tests}
use Rattle.std.proofs.lemmas.Iterator.{YieldsList-from_slice}
use Rattle.std.proofs.lemmas.Iterator.Search.{all_from_yields_List}
use Rattle.std.proofs.lemmas.List.Folds.{list_all-map}
use Rattle.bg_certtext.specs.Views.{part_of}
use Rattle.bg_certtext.specs.Spellable.{is_part}
use Rattle.bg_certtext.proofs.spells.are_parts.Goals as goal

pub returns : goal.returns
returns c =
    all_from_yields_List (λ x. is_part (part_of x)) _ _ c.all.result c.all.ensures.ran (YieldsList-from_slice c.args.parts.now cc) (λ x b q k. search (rules, tests)) ∙ sym (list_all-map is_part part_of c.args.parts.now)
