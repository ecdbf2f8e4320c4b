use Rattle.std.proofs.Common.{◌++◌, map, ap, sym, ◌∙◌, append_assoc}
use Rattle.bg_ast.specs.Views.{type_name_of}
use Rattle.bg_kinds.specs.Views.{base_of, keys_of}
use Rattle.bg_kinds.specs.Texts.{maps_text, type_text}
use Rattle.bg_kinds.proofs.Spelled.{spelled}
use Rattle.bg_kinds.proofs.texts.push_type.Goals as goal

pub returns : goal.returns
returns c =
    let ds = map type_name_of c.args.types.now in
    let old = c.args.out.now.items in
    let t = c.args.t.now in
    let base = type_text ds (base_of t.base) in
    c.in_ok-push_base.ensures
    ∙ (ap (λ l. l ++ base) c.in_ok-push_maps.ensures
    ∙ (append_assoc old (maps_text ds (map keys_of c.deref.result.now)) base
    ∙ (ap (λ ks. old ++ (maps_text ds (map keys_of ks) ++ base)) c.deref.ensures.value ∙ ap (λ l. old ++ l) (sym (spelled ds t.maps.items t.base)))))
