use Rattle.std.proofs.Common.{map, ap, ◌∙◌}
use Rattle.bg_ast.specs.Meaning.{meaning_of}
use Rattle.bg_ast.specs.Views.{program_of}
use Rattle.bg_kinds.specs.Views.{ref_in}
use Rattle.bg_term_table.specs.Views.{terms_in}
use Rattle.bg_term_table.specs.Lines.{lines_of}
use Rattle.bg_task.proofs.Preparing.{incs_front, terms_lined, sorts_lined}
use Rattle.bg_task.proofs.lining.with_lines.Goals as goal

pub returns : goal.returns
returns c number h =
    let p = program_of c.args.program.now in
    let fs = (meaning_of p).functions in
    let w = c.args.prepared.now in
    let ls = lines_of c.args.lines.now in
    let tys = map ref_in c.front-incarnations.result.now in
    let incs = incs_front p number w h c.front-incarnations.result.now c.deref.result.now c.deref.ensures.value c.front-incarnations.ensures in
    let gives = ap (map ref_in) c.deref-2.ensures.value ∙ c.in_ok-results.ensures in
    let terms = terms_lined p number w h ls tys c.deref-3.result.now (terms_in fs c.in_ok-terms.terms.items) incs c.deref-3.ensures.value (c.in_ok-terms.ensures fs gives) in
    let seen = ap (terms_in fs) c.deref-4.ensures.value ∙ terms in
    record {
      incarnations = incs;
      results = c.in_ok-results.ensures;
      terms = terms;
      sorts = sorts_lined p number w h ls tys (terms_in fs c.deref-4.result.now) c.in_ok-sorts.sorts.items incs seen (c.in_ok-sorts.ensures fs gives);
    }
