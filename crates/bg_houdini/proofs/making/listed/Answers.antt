use Rattle.std.proofs.Common.{map, ap, ◌∙◌}
use Rattle.std.specs.Prelude.{filter}
use Rattle.bg_ast.specs.Views.{program_of}
use Rattle.bg_houdini.specs.Tasks.{has_candidate}
use Rattle.bg_houdini.proofs.Once.{if_ok}
use Rattle.bg_places.specs.Placed.{place_in}
use Rattle.bg_places.specs.Views.{placed_in}
use Rattle.bg_houdini.proofs.making.listed.Goals as goal

pub returns : goal.returns
returns c =
    if_ok c.with_candidate.result
    (λ made e. e ∙ ap (filter has_candidate) (ap (λ ps. map place_in (placed_in ps)) c.deref.ensures.value ∙ (ap (map place_in) c.in_ok-all.ensures ∙ c.placed_are_places.ensures (program_of c.args.program.now))))
    c.with_candidate.ensures
