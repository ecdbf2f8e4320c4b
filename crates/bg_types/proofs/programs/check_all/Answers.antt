use Rattle.std.proofs.Common.{[], map, slice_get, ap, sym, ◌∙◌}
use Rattle.bg_ast.specs.Views.{program_of, ex_of, fun_of, proc_of, impl_of}
use Rattle.bg_kinds.specs.Faults.{first_of}
use Rattle.bg_kinds.specs.Kinds.{named_by}
use Rattle.bg_typing.specs.Stmts.{truths_faults}
use Rattle.bg_types.specs.Programs.{scope_in, without_globals, function_shape, procedure_shape, procedure_frame, implementation_frame}
use Rattle.bg_types.specs.Checks.{bodies_by, specifications_by, implementations_by}
use Rattle.bg_kinds.specs.FaultViews.{best_of}
use Rattle.bg_kinds.specs.KindViews.{kinds_in}
use Rattle.bg_typing.specs.SideViews.{scope_of, shape_of}
use Rattle.bg_types.specs.Tables.{frame_of}
use Rattle.bg_types.proofs.Same.{same_scope, all_best, wide, as_long}
use Rattle.bg_types.proofs.programs.check_all.Goals as goal

pub check_implementations-requires-clause-wide : goal.check_implementations-requires-clause-wide
check_implementations-requires-clause-wide c =
    λ i f m hf hm.
    wide (named_by (kinds_in c.args._named.now)) c.args.t.now.implementation_frames.items c.args.p.now.implementations.items c.requires.implementations i f m
    (ap (λ l. slice_get l i) (sym c.deref-7.ensures.value) ∙ hf)
    (ap (λ l. slice_get l i) (sym c.deref-8.ensures.value) ∙ hm)

pub returns : goal.returns
returns c =
    let named = named_by (kinds_in c.args._named.now) in
    let p = program_of c.args.p.now in
    let g = scope_of c.scope-g.result in
    let scopes = same_scope g (scope_in named p) (c.scope-g.ensures.constants ∙ c.requires.constants) (c.scope-g.ensures.globals ∙ c.requires.globals) c.scope-g.ensures.frame (c.scope-g.ensures.functions ∙ c.requires.functions) (c.scope-g.ensures.procedures ∙ c.requires.procedures) in
    let functions = ap (map shape_of) c.deref.ensures.value ∙ c.requires.functions in
    let procedures = ap (map shape_of) c.deref-4.ensures.value ∙ c.requires.procedures in
    let specifications = ap (map frame_of) c.deref-5.ensures.value ∙ c.requires.specifications in
    let implementations = ap (map frame_of) c.deref-7.ensures.value ∙ c.requires.implementations in
    let one = c.in_ok-check_bodies.ensures ∙ ap (λ l. first_of (best_of c.args.best.now) (bodies_by g (map shape_of c.deref.result.now) (map fun_of l))) c.deref-2.ensures.value in
    let two = c.in_ok-check_axioms.ensures ∙ ap (λ l. first_of (best_of c.check_bodies.new.best) (truths_faults (without_globals g []) (map ex_of l))) c.deref-3.ensures.value in
    let three = c.in_ok-check_specifications.ensures ∙ ap (λ l. first_of (best_of c.check_axioms.new.best) (specifications_by g (map shape_of c.deref-4.result.now) (map frame_of c.deref-5.result.now) (map proc_of l))) c.deref-6.ensures.value in
    let four = c.in_ok-check_implementations.ensures ∙ ap (λ l. first_of (best_of c.check_specifications.new.best) (implementations_by g (map frame_of c.deref-7.result.now) (map impl_of l))) c.deref-8.ensures.value in
    all_best named p g _ _ _ _ _ _ _ _ _ scopes functions procedures specifications implementations one two three four

pub check_bodies-requires : goal.check_bodies-requires
check_bodies-requires c =
    as_long shape_of (function_shape (named_by (kinds_in c.args._named.now))) fun_of _ _ _ _ c.deref.ensures.value c.deref-2.ensures.value c.requires.functions

pub check_specifications-requires-clause-shapes : goal.check_specifications-requires-clause-shapes
check_specifications-requires-clause-shapes c =
    as_long shape_of (procedure_shape (named_by (kinds_in c.args._named.now))) proc_of _ _ _ _ c.deref-4.ensures.value c.deref-6.ensures.value c.requires.procedures

pub check_specifications-requires-clause-frames : goal.check_specifications-requires-clause-frames
check_specifications-requires-clause-frames c =
    as_long frame_of (procedure_frame (named_by (kinds_in c.args._named.now))) proc_of _ _ _ _ c.deref-5.ensures.value c.deref-6.ensures.value c.requires.specifications

pub check_implementations-requires-clause-frames : goal.check_implementations-requires-clause-frames
check_implementations-requires-clause-frames c =
    as_long frame_of (implementation_frame (named_by (kinds_in c.args._named.now))) impl_of _ _ _ _ c.deref-7.ensures.value c.deref-8.ensures.value c.requires.implementations
