use Rattle.bg_ast.specs.Values.{select}
use Rattle.bg_sense.proofs.MapLaws.{val_eq_is_same, equal_where_agreeing}
use Rattle.std.proofs.Common.{ap}
use Rattle.bg_sense.proofs.values.maps_are_equal_where_they_agree.Goals as goal

pub returns : goal.returns
returns c k ks t m n h g =
    (λ e q l. ap (λ x. select x q) ((val_eq_is_same m n).0 e), λ a. (val_eq_is_same m n).1 (equal_where_agreeing k ks t m n h g a))
