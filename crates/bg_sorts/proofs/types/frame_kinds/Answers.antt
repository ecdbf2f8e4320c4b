use Rattle.std.proofs.Common.{map, refl, ◌∙◌}
use Rattle.bg_ast.specs.Meaning.{named_of}
use Rattle.bg_ast.specs.Views.{type_name_of, declared_of}
use Rattle.bg_kinds.specs.Views.{ref_in}
use Rattle.bg_sorts.proofs.Declared.{in_a_row}
use Rattle.bg_sorts.proofs.types.frame_kinds.Goals as goal

pub returns : goal.returns
returns c =
    in_a_row (named_of (map type_name_of c.args.types.now)) (map declared_of c.args.q.now.params.items) (map declared_of c.args.q.now.results.items) (map declared_of c.args.m.now.locals.items)
    (map ref_in c.in_ok-made.made.items) (map ref_in c.push_kinds.new.made.items) (map ref_in c.push_kinds-2.new.made.items)
    (c.in_ok-made.ensures ∙ rw c.deref.ensures.value refl)
    (c.in_ok-push_kinds.ensures ∙ rw c.deref-2.ensures.value refl)
    (c.in_ok-push_kinds-2.ensures ∙ rw c.deref-3.ensures.value refl)
