use Rattle.std.proofs.Common.{map, drop, take, ap, ◌∙◌}
use Rattle.bg_ast.specs.Views.{declared_of}
use Rattle.bg_told.proofs.Sheet.{map_drop, map_take, tail_taken}
use Rattle.bg_told.proofs.declared.declared_in.Goals as goal

pub returns-then-outcome-all-clause-constants : goal.returns-then-outcome-all-clause-constants
returns-then-outcome-all-clause-constants c =
    let g = c.args.outcome.now.globals in
    ap (map declared_of) (tail_taken g c.as_slice-all.result.now) ∙ map_drop declared_of g c.as_slice-all.result.now ∙ ap (λ l. drop g (map declared_of l)) c.as_slice-all.ensures.value

pub returns-then-outcome-all-clause-globals : goal.returns-then-outcome-all-clause-globals
returns-then-outcome-all-clause-globals c =
    let g = c.args.outcome.now.globals in
    map_take declared_of g c.as_slice-all.result.now ∙ ap (λ l. take g (map declared_of l)) c.as_slice-all.ensures.value
