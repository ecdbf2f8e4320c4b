use Rattle.std.proofs.Common.{◌+◌, ◌++◌, map, drop, refl, sym, ◌∙◌, append-nil}
use Rattle.std.proofs.lemmas.List.{at_drop_all}
use Rattle.bg_ast.specs.Meaning.{type_in, named_of}
use Rattle.bg_ast.specs.Views.{type_of, type_name_of}
use Rattle.bg_kinds.specs.Views.{ref_in}
use Rattle.bg_kinds.proofs.Loops.{dropped, step_made}
use Rattle.bg_fits.proofs.written.written_kinds.Goals as goal

pub loop-ty-preserved : goal.loop-ty-preserved
loop-ty-preserved c =
    let named = named_of (map type_name_of c.args.types.now) in
    let x = c.ty-item.result in
    let rest = drop (c.loop-ty.ty-index + 1) c.args.written.now in
    let at = dropped c.args.written.now c.loop-ty.ty-index x c.loop-ty-test.true c.ty-item.is in
    step_made (λ l. map (type_in named) (map type_of l)) ref_in (type_in named (type_of x)) c.loop-ty.made.items _ _ _ rest x at refl c.in_ok-push.ensures.items c.in_ok-written_kind.ensures ∙ c.loop-ty.invariant

pub returns : goal.returns
returns c =
    let made = map ref_in c.loop-ty.made.items in
    sym (append-nil made)
    ∙ sym (at_drop_all (λ l. made ++ map (type_in (named_of (map type_name_of c.args.types.now))) (map type_of l)) c.args.written.now c.loop-ty.ty-index c.loop-ty-test.false)
    ∙ c.loop-ty.invariant
