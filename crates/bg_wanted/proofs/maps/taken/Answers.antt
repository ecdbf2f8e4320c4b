use Rattle.std.proofs.Common.{sym, ap, ◌∙◌}
use Rattle.std.specs.BTreeMap.{get_by}
use Rattle.bg_wanted.specs.Selects.{map_cmp, is_map, items_of}
use Rattle.bg_wanted.proofs.Mapping.{taken_at}
use Rattle.bg_wanted.proofs.maps.taken.Goals as goal

pub returns-in-None : goal.returns-in-None
returns-in-None c =
    record {
      places = c.new.ensures.items ∙ sym (ap items_of (sym c.remove.ensures.value ∙ c.in-None.is));
      others = λ k. taken_at (is_map c.args.map k) (get_by (λ y. map_cmp k y) c.args.selects.now) (c.remove.ensures.updates.0 k);
    }

pub returns-in-Some : goal.returns-in-Some
returns-in-Some c =
    record {
      places = sym (ap items_of (sym c.remove.ensures.value ∙ c.in-Some.is));
      others = λ k. taken_at (is_map c.args.map k) (get_by (λ y. map_cmp k y) c.args.selects.now) (c.remove.ensures.updates.0 k);
    }
