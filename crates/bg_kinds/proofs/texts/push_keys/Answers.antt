use Rattle.std.proofs.Common.{sym, ◌∙◌, append-nil, map, ◌++◌}
use Rattle.std.proofs.lemmas.List.{at_drop_all}
use Rattle.bg_kinds.specs.Texts.{keys_from}
use Rattle.bg_kinds.specs.Views.{key_of}
use Rattle.bg_ast.specs.Views.{type_name_of}
use Rattle.bg_kinds.proofs.texts.push_keys.Goals as goal

pub returns : goal.returns
returns c =
    let made = c.loop-key.out.items in
    sym (append-nil made) ∙ sym (at_drop_all (λ l. made ++ keys_from (map type_name_of c.args.types.now) c.loop-key.behind (map key_of l)) c.args.keys.now c.loop-key.key-index c.loop-key-test.false) ∙ c.loop-key.invariant
