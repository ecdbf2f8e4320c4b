use Rattle.std.proofs.Common.{[], map, ap, ◌∙◌}
use Rattle.bg_ast.specs.Meaning.{meaning_of}
use Rattle.bg_ast.specs.Views.{program_of}
use Rattle.bg_kinds.specs.Views.{ref_in}
use Rattle.bg_term_table.specs.Views.{terms_in}
use Rattle.bg_task.proofs.Preparing.{incs_front, terms_lined}
use Rattle.bg_task.proofs.growing.begun.Goals as goal

pub returns : goal.returns
returns c number h =
    let p = program_of c.args.program.now in
    let fs = (meaning_of p).functions in
    let w = c.args.prepared.now in
    let tys = map ref_in c.front-incarnations.result.now in
    let incs = incs_front p number w h c.front-incarnations.result.now c.deref.result.now c.deref.ensures.value c.front-incarnations.ensures in
    let gives = ap (map ref_in) c.deref-2.ensures.value ∙ c.in_ok-results.ensures in
    record {
      incarnations = incs;
      results = c.in_ok-results.ensures;
      terms = terms_lined p number w h [] tys c.deref-3.result.now (terms_in fs c.in_ok-terms.terms.items) incs c.deref-3.ensures.value (c.in_ok-terms.ensures fs gives);
    }
