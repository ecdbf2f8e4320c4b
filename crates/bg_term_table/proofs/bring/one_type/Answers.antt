use Rattle.std.proofs.Common.{sym, ap, ◌∙◌}
use Rattle.std.specs.Prelude.{slice_get}
use Rattle.bg_ast.specs.Values.{result_of}
use Rattle.bg_kinds.specs.Views.{keys_of, ref_in}
use Rattle.bg_terms.specs.Typed.{types_with}
use Rattle.bg_numbered.specs.Put.{keys_in}
use Rattle.bg_numbered.specs.Lines.{names_at, if_fit}
use Rattle.bg_term_table.specs.Views.{terms_in, incs_of}
use Rattle.bg_term_table.proofs.Bringing.{one_named}
use Rattle.bg_term_table.proofs.bring.one_type.Goals as goal

pub returns-then-are_one : goal.returns-then-are_one
returns-then-are_one c =
    let a = c.in_ok-a.a in
    let b = c.in_ok-b.b in
    λ fs g n.
    let tys = types_with (incs_of c.args.around) (terms_in fs c.args.terms.now) in
    let one = c.read_type.ensures fs g in
    let other = c.read_type-2.ensures fs g in
    let both = one_named a b (slice_get tys c.args.m) (slice_get tys c.args.o) n c.args.m c.args.o (c.in_ok-a.ensures.keys ∙ ap keys_in one) (c.in_ok-a.ensures.gives ∙ ap result_of one) (c.in_ok-b.ensures.keys ∙ ap keys_in other) (c.in_ok-b.ensures.gives ∙ ap result_of other) in
    sym (both ∙ ap (λ q. if_fit q (names_at (keys_of a.keys) (ref_in a.gives) n c.args.m c.args.o)) (sym c.are_one.ensures ∙ c.if-are_one.true))

pub returns-else-are_one : goal.returns-else-are_one
returns-else-are_one c =
    let a = c.in_ok-a.a in
    let b = c.in_ok-b.b in
    λ fs g n.
    let tys = types_with (incs_of c.args.around) (terms_in fs c.args.terms.now) in
    let one = c.read_type.ensures fs g in
    let other = c.read_type-2.ensures fs g in
    let both = one_named a b (slice_get tys c.args.m) (slice_get tys c.args.o) n c.args.m c.args.o (c.in_ok-a.ensures.keys ∙ ap keys_in one) (c.in_ok-a.ensures.gives ∙ ap result_of one) (c.in_ok-b.ensures.keys ∙ ap keys_in other) (c.in_ok-b.ensures.gives ∙ ap result_of other) in
    sym (both ∙ ap (λ q. if_fit q (names_at (keys_of a.keys) (ref_in a.gives) n c.args.m c.args.o)) (sym c.are_one.ensures ∙ c.if-are_one.false))
