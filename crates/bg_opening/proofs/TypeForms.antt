-- A map type whose parts are copied is the same.
use Rattle.std.proofs.Common.{◌≡◌, map, sym, ap, ◌∙◌, Vec, Box, Global}
use Rattle.bg_ast.specs.declared.resolved.WrittenType.{WrittenType}
use Rattle.bg_ast.specs.declared.resolved.WrittenType.TheVariants as type
use Rattle.bg_ast.specs.declared.resolved.IndexTypes.{IndexTypes}
use Rattle.bg_ast.specs.Resolved as r
use Rattle.bg_ast.specs.Views as u
use Rattle.bg_ast.proofs.Lists as z
use Rattle.bg_opening.proofs.Forms.{both}

pub type-Map : (bs : Vec IndexTypes Global) (e : Box WrittenType Global) (made : Vec IndexTypes Global) (x : Box WrittenType Global) → map u.index_view made.items ≡ map u.index_view bs.items → u.type_of x.value ≡ u.type_of e.value → u.type_of (type.Map made x) ≡ u.type_of (type.Map bs e)
type-Map bs e made x h k = z.type_of-Map made x ∙ both r.MapType (ap u.indexed_of h) k ∙ sym (z.type_of-Map bs e)

pub ruleset type_forms = (type-Map)
