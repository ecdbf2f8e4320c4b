use Rattle.std.proofs.Common.{◌++◌, ap, ◌∙◌}
use Rattle.std.proofs.lemmas.Result.{on_ok_weaker}
use Rattle.bg_scalar.specs.Values.{value_of}
use Rattle.bg_told.specs.ValueTexts.{value_text}
use Rattle.bg_told.specs.Entries.{types_in}
use Rattle.bg_told.proofs.Told.{key_put}
use Rattle.bg_told.proofs.functions.put_key.Goals as goal

pub returns-in_ok-put_value-in-Some-split_first : goal.returns-in_ok-put_value-in-Some-split_first
returns-in_ok-put_value-in-Some-split_first c =
    let types = types_in c.args.types.now in
    let old = c.args.out.now.items in
    let part = c.in-Some-split_first.part.now in
    on_ok_weaker c.put_parts.result
    (key_put types c.args.kinds.now c.in-Some.kinds.now c.in-Some.kind.now c.args.key.now c.in-Some-split_first.parts.now part old c.put_value.new.out.items c.put_parts.new.out.items c.in-Some.ensures.cases.0 c.in-Some-split_first.ensures.cases.0
    (c.in_ok-put_value-in-Some-split_first.ensures ∙ ap (λ t. old ++ value_text types t (value_of part)) c.as_ref.ensures))
    c.put_parts.ensures
