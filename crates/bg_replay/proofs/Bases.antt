-- No scalar is of a map's type.
use Rattle.std.proofs.Common.{◌≡◌, false, None, sym, ap}
use Rattle.bg_ast.specs.Values.{Ty, is_of}
use Rattle.bg_fits.specs.Bases.{IsBase}
use Rattle.bg_scalar.specs.Values.{val_of}
use Rattle.bg_scalar.specs.declared.scalar.Scalar.{Scalar}
use Rattle.bg_scalar.specs.declared.scalar.Scalar.TheVariants.{Truth, Number, Element}

pub none_of_map : (t : Ty) (x : Scalar) → IsBase None t → false ≡ is_of t (val_of x)
none_of_map t (Truth b) is = ap (λ u. is_of u (val_of (Truth b))) (sym is.1.1)
none_of_map t (Number z) is = ap (λ u. is_of u (val_of (Number z))) (sym is.1.1)
none_of_map t (Element k z) is = ap (λ u. is_of u (val_of (Element k z))) (sym is.1.1)
