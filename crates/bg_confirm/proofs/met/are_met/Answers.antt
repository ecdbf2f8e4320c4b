use Rattle.std.proofs.Common.{◌≡◌, true, sym, ap, ◌∙◌, List, [], map}
use Rattle.std.specs.List.{list_all}
use Rattle.bg_ast.specs.Values.{Val, Table, Ty}
use Rattle.bg_ast.specs.Syntax.{Prog}
use Rattle.bg_ast.specs.Meaning.{meaning_of}
use Rattle.bg_ast.specs.Views.{program_of, fun_of, type_name_of}
use Rattle.bg_ast.specs.declared.resolved.Function as ast
use Rattle.bg_ast.specs.declared.resolved.TypeName.{TypeName}
use Rattle.bg_sense.specs.Types.{types_of}
use Rattle.bg_sense.proofs.Bools.{and_left, and_right}
use Rattle.bg_kinds.specs.Views.{ref_in}
use Rattle.bg_scalar.specs.Views.{tables_in, vals_in}
use Rattle.bg_replay.specs.Views.{set_of, said_by}
use Rattle.bg_expanded.specs.Chains.{most_bodies}
use Rattle.bg_certtext.specs.declared.text.Given.{Given}
use Rattle.bg_certtext.specs.declared.text.Function.{Function}
use Rattle.bg_certtext.specs.Views.{given_of, function_of, interp_of}
use Rattle.bg_certtext.specs.Spellable.{is_given, is_function}
use Rattle.bg_confirm.specs.Met.{vals_for, tables_by, run_in, constant_types, values_in, IsMet}
use Rattle.bg_confirm.specs.Typed.{functions_fit}
use Rattle.bg_confirm.specs.Pairs.{each_fits}
use Rattle.bg_confirm.specs.Named.{same_name}
use Rattle.bg_confirm.proofs.Candidates.{A, M, Q}
use Rattle.bg_confirm.proofs.Fitting.{are_held, given_values, fit_typed}
use Rattle.bg_confirm.proofs.Matching.{true_false, not_so, named_by, unnamed_by, typed_by}
use Rattle.bg_confirm.proofs.Running.{said_is, met, fails}
use Rattle.bg_confirm.proofs.met.are_met.Goals as goal

pub tables_by-requires : goal.tables_by-requires
tables_by-requires c =
    let i = interp_of c.args.interp.now in
    record { spelled = ap (λ (l : List Function). list_all is_function (map function_of l)) c.deref-6.ensures.value ∙ and_right (list_all is_given i.constants) (list_all is_function i.functions) c.requires.spelled }

pub returns-then-not-are_for : goal.returns-then-not-are_for
returns-then-not-are_for c =
    let p = program_of c.args.program.now in
    let x = c.args.interp.now in
    let said : c.are_for.result ≡ each_fits same_name c.deref.result.now x.constants.items = c.are_for.ensures ∙ ap (λ (l : List Given). each_fits same_name c.deref.result.now l) c.deref-2.ensures.value in
    not_so (IsMet p (interp_of x))
    (λ h. unnamed_by c.args.program.now.constants.items c.deref.result.now x.constants.items c.are_for.result c.deref.ensures.value said c.if-not-are_for.true h.named)

pub returns-then-not-branch : goal.returns-then-not-branch
returns-then-not-branch c =
    let p = program_of c.args.program.now in
    let i = interp_of c.args.interp.now in
    let fit : functions_fit p.types p.functions i.functions ≡ c.in_ok-functions_fit.field-0 =
    sym (c.in_ok-functions_fit.ensures
    ∙ (ap (λ (l : List TypeName). functions_fit (map type_name_of l) (map fun_of c.deref-4.result.now) (map function_of c.deref-5.result.now)) c.deref-3.ensures.value
    ∙ (ap (λ (l : List ast.Function). functions_fit p.types (map fun_of l) (map function_of c.deref-5.result.now)) c.deref-4.ensures.value
    ∙ ap (λ (l : List Function). functions_fit p.types p.functions (map function_of l)) c.deref-5.ensures.value))) in
    not_so (IsMet p i) (λ h. true_false (sym h.functions ∙ (fit ∙ c.if-not-branch.true)))

pub returns-then-not-are_given : goal.returns-then-not-are_given
returns-then-not-are_given c =
    let p = program_of c.args.program.now in
    let x = c.args.interp.now in
    let means = ap meaning_of c.in_ok-axioms.ensures ∙ c.written_axiom_programs_are_those_of_the_meaning.ensures most_bodies p in
    let holds = c.in_ok-kinds.ensures ∙ ap (λ (x : Prog). types_of x.globals) means in
    let types =
    typed_by (map type_name_of c.deref-7.result.now) p.types (map ref_in c.deref-8.result.now) (constant_types p) c.deref-9.result.now x.constants.items c.are_given.result
    (ap (map type_name_of) c.deref-7.ensures.value) (ap (map ref_in) c.deref-8.ensures.value ∙ holds) c.deref-9.ensures.value c.are_given.ensures in
    not_so (IsMet p (interp_of x)) (λ h. true_false (sym h.typed ∙ (sym types ∙ c.if-not-are_given.true)))

pub returns : goal.returns
returns c =
    let p = program_of c.args.program.now in
    let x = c.args.interp.now in
    let i = interp_of x in
    let P = meaning_of p in
    let means = ap meaning_of c.in_ok-axioms.ensures ∙ c.written_axiom_programs_are_those_of_the_meaning.ensures most_bodies p in
    let holds = c.in_ok-kinds.ensures ∙ ap (λ (x : Prog). types_of x.globals) means in
    let types =
    typed_by (map type_name_of c.deref-7.result.now) p.types (map ref_in c.deref-8.result.now) (constant_types p) c.deref-9.result.now x.constants.items c.are_given.result
    (ap (map type_name_of) c.deref-7.ensures.value) (ap (map ref_in) c.deref-8.ensures.value ∙ holds) c.deref-9.ensures.value c.are_given.ensures in
    let values =
    c.in_ok-values.ensures
    ∙ (ap (λ (l : List Ty). vals_for l (map (λ g. g.value) (map given_of c.deref-11.result.now))) (ap (map ref_in) c.deref-10.ensures.value ∙ holds)
    ∙ ap (λ (l : List Given). vals_for (constant_types p) (map (λ g. g.value) (map given_of l))) c.deref-11.ensures.value) in
    let alike : c.are_for.result ≡ each_fits same_name c.deref.result.now x.constants.items = c.are_for.ensures ∙ ap (λ (l : List Given). each_fits same_name c.deref.result.now l) c.deref-2.ensures.value in
    let names = named_by c.args.program.now.constants.items c.deref.result.now x.constants.items c.are_for.result c.deref.ensures.value alike c.if-not-are_for.false in
    let spelled = and_right (list_all is_given i.constants) (list_all is_function i.functions) c.requires.spelled in
    let normal = given_values i.constants (and_left (list_all is_given i.constants) (list_all is_function i.functions) c.requires.spelled) in
    let fit : functions_fit p.types p.functions i.functions ≡ true =
    sym (c.in_ok-functions_fit.ensures
    ∙ (ap (λ (l : List TypeName). functions_fit (map type_name_of l) (map fun_of c.deref-4.result.now) (map function_of c.deref-5.result.now)) c.deref-3.ensures.value
    ∙ (ap (λ (l : List ast.Function). functions_fit p.types (map fun_of l) (map function_of c.deref-5.result.now)) c.deref-4.ensures.value
    ∙ ap (λ (l : List Function). functions_fit p.types p.functions (map function_of l)) c.deref-5.ensures.value)))
    ∙ c.if-not-branch.false in
    let tables : tables_in c.deref-12.result.now ≡ tables_by P.functions i.functions =
    ap tables_in c.deref-12.ensures.value ∙ (c.in_ok-tables.ensures ∙ ap (λ (l : List Function). tables_by P.functions (map function_of l)) c.deref-6.ensures.value) in
    let said = said_by c.in_ok-ending.ending in
    let is = said_is most_bodies P (program_of c.in_ok-axioms.axioms) said (tables_in c.deref-12.result.now) (vals_in c.deref-13.result.now) means c.in_ok-ending.ensures
    ∙ (ap (λ (ts : List Table). run_in (A most_bodies P) (set_of []) 0 (M most_bodies P) (Q most_bodies P) ts (vals_in c.deref-13.result.now)) tables
    ∙ ap (λ (xs : List Val). run_in (A most_bodies P) (set_of []) 0 (M most_bodies P) (Q most_bodies P) (tables_by P.functions i.functions) xs) (ap vals_in c.deref-13.ensures.value ∙ values)) in (
      λ y. met p i said is names (sym types ∙ c.if-not-are_given.false) (are_held p.types (constant_types p) (values_in i) normal (sym types ∙ c.if-not-are_given.false)) fit (fit_typed p.types p.functions i.functions spelled fit) (c.is_failure.ensures.0 y),
      λ h. c.is_failure.ensures.1 (fails p i said is c.requires.openable h),
    )
