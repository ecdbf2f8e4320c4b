use Rattle.std.proofs.Common.{◌+◌, map, drop, refl, ◌∙◌, sym}
use Rattle.std.proofs.lemmas.List.{at_drop_all}
use Rattle.bg_kinds.specs.FaultViews.{best_of}
use Rattle.bg_kinds.specs.Faults.{first_of}
use Rattle.bg_ast.specs.Views.{type_name_of}
use Rattle.bg_kinds.specs.Kinds.{named_by}
use Rattle.bg_types.specs.Programs.{synonym_faults, synonyms_faults}
use Rattle.bg_kinds.specs.KindViews.{kinds_in}
use Rattle.bg_kinds.proofs.Loops.{dropped, step_best}
use Rattle.bg_types.proofs.tables.note_synonyms.Goals as goal

pub loop-d-preserved : goal.loop-d-preserved
loop-d-preserved c =
    let named = named_by (kinds_in c.args.named.now) in
    let x = c.d-item.result in
    let rest = drop (c.loop-d.d-index + 1) c.args.ds.now in
    let at = dropped c.args.ds.now c.loop-d.d-index x c.loop-d-test.true c.d-item.is in
    record {
      best = step_best (λ l. synonyms_faults named (map type_name_of l)) (synonym_faults named (type_name_of x).synonym) _ rest x _ _ at refl c.in_ok-note_synonym.ensures ∙ c.loop-d.invariant.best;
    }

pub returns : goal.returns
returns c =
    sym (at_drop_all (λ l. first_of (best_of c.loop-d.best) (synonyms_faults (named_by (kinds_in c.args.named.now)) (map type_name_of l))) c.args.ds.now c.loop-d.d-index c.loop-d-test.false) ∙ c.loop-d.invariant.best
