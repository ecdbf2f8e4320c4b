use Rattle.std.proofs.Common.{◌+◌, map, flat_map, drop, ap, sym, ◌∙◌}
use Rattle.std.proofs.lemmas.List.{at_drop_all}
use Rattle.bg_text.specs.Views as v
use Rattle.bg_ast.specs.Views.{program_of}
use Rattle.bg_names.specs.Faults.{better}
use Rattle.bg_names.specs.Views.{first_of}
use Rattle.bg_resolve.specs.Program.{decl_faults}
use Rattle.bg_spaces.specs.SpaceViews.{spaces_in}
use Rattle.bg_resolve.specs.Parts.{joined, parts_from}
use Rattle.bg_names.proofs.Firsts.{drop_item}
use Rattle.bg_spaces.proofs.Noted.{noted_step}
use Rattle.bg_resolve.proofs.Programs.{joined_step, joined_nothing, parts-are}
use Rattle.bg_resolve.proofs.program.program.Goals as goal

pub loop-d-preserved : goal.loop-d-preserved
loop-d-preserved c =
    let g = spaces_in c.args.g.now in
    let p = program_of c.loop-d.out in
    let here = drop_item c.args.decls.now c.loop-d.d-index c.d-item.result c.loop-d-test.true c.d-item.is in
    let known = ap (λ l. joined p (parts_from g c.loop-d.next (map v.decl_of l))) (sym here) ∙ c.loop-d.invariant.made in
    record {
      made = joined_step p (program_of c.push_decl.new.out) g c.loop-d.next c.push_decl.new.next (v.decl_of c.d-item.result) (map v.decl_of (drop (c.loop-d.d-index + 1) c.args.decls.now)) (parts_from g 0 (map v.decl_of c.args.decls.now)) known c.in_ok-push_decl.ensures.made c.in_ok-push_decl.ensures.next;
      first = noted_step (decl_faults g) v.decl_of _ _ c.args.decls.now c.loop-d.d-index c.d-item.result _ c.loop-d-test.true c.d-item.is c.loop-d.invariant.first c.in_ok-push_decl.ensures.first;
    }

pub returns-clause-made : goal.returns-clause-made
returns-clause-made c =
    let g = spaces_in c.args.g.now in
    let p = program_of c.loop-d.out in
    let ds = map v.decl_of c.args.decls.now in
    sym (joined_nothing p)
    ∙ sym (at_drop_all (λ l. joined p (parts_from g c.loop-d.next (map v.decl_of l))) c.args.decls.now c.loop-d.d-index c.loop-d-test.false)
    ∙ c.loop-d.invariant.made
    ∙ parts-are g 0 ds

pub returns-clause-first : goal.returns-clause-first
returns-clause-first c =
    sym (at_drop_all (λ l. better (first_of c.loop-d.notes) (flat_map (decl_faults (spaces_in c.args.g.now)) (map v.decl_of l))) c.args.decls.now c.loop-d.d-index c.loop-d-test.false) ∙ c.loop-d.invariant.first
