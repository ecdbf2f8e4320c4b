use Rattle.std.proofs.Common.{◌≡◌, false, map, sym, ap, ◌∙◌}
use Rattle.bg_ast.specs.Values.{val_eq}
use Rattle.bg_scalar.specs.Values.{value_of}
use Rattle.bg_scalar.specs.Maps.{entry_in, put_in}
use Rattle.bg_scalar.proofs.Places.{map_insert}
use Rattle.bg_scalar.proofs.map.put_in.Goals as goal

pub returns : goal.returns
returns c =
    let es = c.args.entries.now.items in
    let i = c.args.i in
    let other : val_eq (value_of c.args.value) (value_of c.args.default.now) ≡ false = sym c.is_same.ensures ∙ c.if-is_same.false in
    ap (map entry_in) c.in_ok-insert.ensures.items
    ∙ (map_insert entry_in es i _ ∙ sym (ap (λ b. put_in b i (c.args.key.items, value_of c.args.value) (map entry_in es)) other))
