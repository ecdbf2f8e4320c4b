-- Copies of maps.
use Rattle.std.proofs.Common.{◌≡◌, map, sym, ap, ◌∙◌, Vec, Box, Global}
use Rattle.bg_ast.specs.Values.{Default}
use Rattle.bg_scalar.specs.declared.value.Value.{Value}
use Rattle.bg_scalar.specs.declared.value.Value.TheVariants as value
use Rattle.bg_scalar.specs.declared.value.Entry as kept
use Rattle.bg_scalar.specs.Values.{value_of}
use Rattle.bg_scalar.specs.Maps.{entry_in, with_entries}
use Rattle.bg_scalar.proofs.Rows.{value_of-Map}

pub map_copied : (es xs : Vec kept.Entry Global) (d x : Box Value Global) → map entry_in xs.items ≡ map entry_in es.items → value_of x.value ≡ value_of d.value → value_of (value.Map xs x) ≡ value_of (value.Map es d)
map_copied es xs d x h k =
    value_of-Map xs x
    ∙ (ap (λ l. with_entries l (Default (value_of x.value))) h
    ∙ (ap (λ v. with_entries (map entry_in es.items) (Default v)) k ∙ sym (value_of-Map es d)))
