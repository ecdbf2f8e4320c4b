use Rattle.std.proofs.Common.{map, ap, ◌∙◌}
use Rattle.bg_ast.specs.Views.{program_of, type_name_of, const_of, declared_of, fun_of, proc_of, impl_of}
use Rattle.bg_kinds.specs.Faults.{first_of}
use Rattle.bg_kinds.specs.Kinds.{named_by}
use Rattle.bg_kinds.specs.FaultViews.{best_of}
use Rattle.bg_kinds.specs.KindViews.{kinds_in}
use Rattle.bg_types.specs.Programs.{synonyms_faults, consts_faults, declared_faults, functions_faults, procedures_faults, implementations_faults, const_kind, declared_kinds, function_shape, procedure_shape, procedure_frame, implementation_frame}
use Rattle.bg_types.proofs.Same.{types_best}
use Rattle.bg_types.proofs.tables.tables_of.Goals as goal

pub returns-clause-best : goal.returns-clause-best
returns-clause-best c =
    let named = named_by (kinds_in c.args.named.now) in
    let one = c.in_ok-note_synonyms.ensures ∙ ap (λ l. first_of (best_of c.args.best.now) (synonyms_faults named (map type_name_of l))) c.deref.ensures.value in
    let two = c.in_ok-constants.ensures.best ∙ ap (λ l. first_of (best_of c.note_synonyms.new.best) (consts_faults named (map const_of l))) c.deref-2.ensures.value in
    let three = c.in_ok-globals.ensures.best ∙ ap (λ l. first_of (best_of c.constants.new.best) (declared_faults named (map declared_of l))) c.deref-3.ensures.value in
    let four = c.in_ok-functions.ensures.best ∙ ap (λ l. first_of (best_of c.declared.new.best) (functions_faults named (map fun_of l))) c.deref-4.ensures.value in
    let five = c.in_ok-procedures.ensures.best ∙ ap (λ l. first_of (best_of c.functions.new.best) (procedures_faults named (map proc_of l))) c.deref-5.ensures.value in
    let six = c.in_ok-implementation_frames.ensures.best ∙ ap (λ l. first_of (best_of c.procedures.new.best) (implementations_faults named (map impl_of l))) c.deref-6.ensures.value in
    types_best named (program_of c.args.p.now) _ _ _ _ _ _ _ one two three four five six

pub returns-clause-tables : goal.returns-clause-tables
returns-clause-tables c =
    let named = named_by (kinds_in c.args.named.now) in
    record {
      constants = c.in_ok-constants.ensures.kinds ∙ ap (λ l. map (const_kind named) (map const_of l)) c.deref-2.ensures.value;
      globals = c.in_ok-globals.ensures.kinds ∙ ap (λ l. declared_kinds named (map declared_of l)) c.deref-3.ensures.value;
      functions = c.in_ok-functions.ensures.shapes ∙ ap (λ l. map (function_shape named) (map fun_of l)) c.deref-4.ensures.value;
      procedures = c.in_ok-procedures.ensures.shapes ∙ ap (λ l. map (procedure_shape named) (map proc_of l)) c.deref-5.ensures.value;
      specifications = c.in_ok-procedure_frames.ensures ∙ ap (λ l. map (procedure_frame named) (map proc_of l)) c.deref-7.ensures.value;
      implementations = c.in_ok-implementation_frames.ensures.frames ∙ ap (λ l. map (implementation_frame named) (map impl_of l)) c.deref-6.ensures.value;
    }
