use Rattle.std.proofs.Common.{sym, ◌∙◌, refl, append-nil, map, drop, ◌++◌, ◌+◌}
use Rattle.std.proofs.lemmas.List.{at_drop_all}
use Rattle.bg_kinds.specs.Texts.{keys_text, maps_text}
use Rattle.bg_kinds.specs.Views.{keys_of}
use Rattle.bg_ast.specs.Views.{type_name_of}
use Rattle.bg_kinds.proofs.Loops.{dropped, step_more}
use Rattle.bg_kinds.proofs.texts.push_maps.Goals as goal

pub returns : goal.returns
returns c =
    let made = c.loop-keys.out.items in
    sym (append-nil made) ∙ sym (at_drop_all (λ l. made ++ maps_text (map type_name_of c.args.types.now) (map keys_of l)) c.args.maps.now c.loop-keys.keys-index c.loop-keys-test.false) ∙ c.loop-keys.invariant

pub loop-keys-preserved : goal.loop-keys-preserved
loop-keys-preserved c =
    let types = map type_name_of c.args.types.now in
    let x = c.keys-item.result in
    let rest = drop (c.loop-keys.keys-index + 1) c.args.maps.now in
    let at = dropped c.args.maps.now c.loop-keys.keys-index x c.loop-keys-test.true c.keys-item.is in
    step_more (λ l. maps_text types (map keys_of l)) (λ l. maps_text types (map keys_of l)) (keys_text types (keys_of x)) _ rest x c.loop-keys.out.items _ at refl c.in_ok-push_bracket.ensures ∙ c.loop-keys.invariant
