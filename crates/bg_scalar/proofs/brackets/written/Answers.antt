use Rattle.std.proofs.Common.{◌≡◌, sym, ap, ◌∙◌}
use Rattle.bg_ast.specs.Values.{update}
use Rattle.bg_scalar.specs.Values.{value_of}
use Rattle.bg_scalar.specs.Maps.{map_of}
use Rattle.bg_scalar.specs.Indices.{key_made}
use Rattle.bg_scalar.specs.Views.{vals_in, lent_in}
use Rattle.bg_scalar.proofs.Keyed.{none_written, no_map_written, written_map}
use Rattle.bg_scalar.proofs.brackets.written.Goals as goal

pub returns-in-None : goal.returns-in-None
returns-in-None c =
    none_written (lent_in c.args.map) (lent_in c.args.new) (vals_in c.args.index.now) (ap key_made (sym c.in-None.is) ∙ c.in_ok-key.ensures)

pub returns : goal.returns
returns c =
    let d = value_of c.in-Map.default.value in
    let u : map_of c.update.new.entries.items d ≡ update (map_of c.in-Map.entries.items d) c.in-Some.key.items (lent_in c.args.new) = rw (c.deref.ensures, c.in_ok-new-in-Map.ensures) at c.in_ok-update-in-Map.ensures in
    written_map c.in-Map.entries c.update.new.entries c.in-Map.default (lent_in c.args.map) (lent_in c.args.new) (vals_in c.args.index.now) c.in-Some.key.items (sym (ap value_of c.in-Map.is) ∙ c.in_ok-owned-in-Some.ensures) (ap key_made (sym c.in-Some.is) ∙ c.in_ok-key.ensures) u
