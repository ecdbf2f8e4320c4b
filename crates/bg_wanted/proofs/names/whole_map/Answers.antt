use Rattle.std.proofs.Common.{sym, ap, ◌∙◌}
use Rattle.bg_kinds.specs.Views.{base_of, tower}
use Rattle.bg_wanted.specs.Alike.{map_type_in}
use Rattle.bg_wanted.proofs.Building.{no_maps}
use Rattle.bg_wanted.proofs.Grouping.{base_none}
use Rattle.bg_wanted.proofs.names.whole_map.Goals as goal

pub returns-in-None : goal.returns-in-None
returns-in-None c =
    ap map_type_in (sym (no_maps c.args.t.maps.now (base_of c.args.t.base) c.in-None.ensures.cases)) ∙ base_none c.args.t.base

pub returns-in-Some : goal.returns-in-Some
returns-in-Some c = ap (λ l. map_type_in (tower l (base_of c.args.t.base))) c.in-Some.ensures.cases.0
