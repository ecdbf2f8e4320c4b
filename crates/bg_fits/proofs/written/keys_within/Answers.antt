use Rattle.std.proofs.Common.{◌+◌, ◌++◌, map, drop, refl, sym, ◌∙◌, append-nil}
use Rattle.std.proofs.lemmas.List.{at_drop_all}
use Rattle.bg_ast.specs.Meaning as m
use Rattle.bg_ast.specs.Meaning.{keys_in, type_in, named_within}
use Rattle.bg_ast.specs.Views.{type_of, tys_of, type_name_of}
use Rattle.bg_kinds.specs.Views.{key_of}
use Rattle.bg_kinds.proofs.Loops.{dropped, step_made}
use Rattle.bg_fits.proofs.written.keys_within.Goals as goal

pub loop-t-preserved : goal.loop-t-preserved
loop-t-preserved c =
    let named = named_within c.args.left (map type_name_of c.args.types.now) in
    let x = c.t-item.result in
    let rest = drop (c.loop-t.t-index + 1) c.args.ts.now in
    let at = dropped c.args.ts.now c.loop-t.t-index x c.loop-t-test.true c.t-item.is in
    step_made (λ l. keys_in named (tys_of (map type_of l))) key_of (m.key_of (type_in named (type_of x))) c.loop-t.keys.items _ _ _ rest x at refl c.in_ok-push.ensures.items c.index_within.ensures ∙ c.loop-t.invariant

pub returns : goal.returns
returns c =
    let made = map key_of c.loop-t.keys.items in
    sym (append-nil made)
    ∙ sym (at_drop_all (λ l. made ++ keys_in (named_within c.args.left (map type_name_of c.args.types.now)) (tys_of (map type_of l))) c.args.ts.now c.loop-t.t-index c.loop-t-test.false)
    ∙ c.loop-t.invariant
