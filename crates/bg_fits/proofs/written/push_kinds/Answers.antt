use Rattle.std.proofs.Common.{◌+◌, ◌++◌, map, drop, refl, sym, ◌∙◌, append-nil}
use Rattle.std.proofs.lemmas.List.{at_drop_all}
use Rattle.bg_ast.specs.Meaning.{type_in, named_of, decl_of}
use Rattle.bg_ast.specs.Views.{type_of, type_name_of, declared_of}
use Rattle.bg_sense.specs.Types.{types_of}
use Rattle.bg_kinds.specs.Views.{ref_in}
use Rattle.bg_kinds.proofs.Loops.{dropped, step_made}
use Rattle.bg_fits.proofs.written.push_kinds.Goals as goal

pub loop-d-preserved : goal.loop-d-preserved
loop-d-preserved c =
    let named = named_of (map type_name_of c.args.types.now) in
    let x = c.d-item.result in
    let rest = drop (c.loop-d.d-index + 1) c.args.declared.now in
    let at = dropped c.args.declared.now c.loop-d.d-index x c.loop-d-test.true c.d-item.is in
    step_made (λ l. types_of (map (decl_of named) (map declared_of l))) ref_in (type_in named (type_of x.ty)) c.loop-d.made.items _ _ _ rest x at refl c.in_ok-push.ensures.items c.in_ok-written_kind.ensures ∙ c.loop-d.invariant

pub returns : goal.returns
returns c =
    let made = map ref_in c.loop-d.made.items in
    sym (append-nil made)
    ∙ sym (at_drop_all (λ l. made ++ types_of (map (decl_of (named_of (map type_name_of c.args.types.now))) (map declared_of l))) c.args.declared.now c.loop-d.d-index c.loop-d-test.false)
    ∙ c.loop-d.invariant
