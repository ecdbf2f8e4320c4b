use Rattle.std.proofs.Common.{map}
use Rattle.bg_ast.specs.Meaning.{named_within}
use Rattle.bg_ast.specs.Views.{type_name_of}
use Rattle.bg_fits.proofs.Towers.{whole_map}
use Rattle.bg_fits.proofs.written.+pushed.Goals as goal

pub returns-in_ok-end-in-Map : goal.returns-in_ok-end-in-Map
returns-in_ok-end-in-Map t c =
    whole_map (named_within c.args.left (map type_name_of c.args.types.now)) _ _ _ _ _ _ _ _ _ c.in-Map.is c.deref-in-Map.ensures.value c.deref-in-Map-2.ensures c.in_ok-push_brackets-in-Map.ensures c.in_ok-end-in-Map.ensures
