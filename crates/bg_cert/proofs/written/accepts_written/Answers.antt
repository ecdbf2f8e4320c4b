use Rattle.std.proofs.Common.{◌+◌, ◌∙◌, [], map, length, refl, sym, ap, arith}
use Rattle.bg_formula.specs.Formulas.{formula_of, rows_below}
use Rattle.bg_formula.specs.Atoms.{view_linear}
use Rattle.bg_cert.specs.Certs.{accepts}
use Rattle.bg_cert.specs.Walks.{has, no_instance}
use Rattle.bg_cert.specs.Tours.{path_in}
use Rattle.bg_cert.proofs.Seen.{closed_by}
use Rattle.bg_cert.proofs.written.accepts_written.Goals as goal

pub loop-init : goal.loop-init
loop-init g c =
    let f = formula_of c.args.f.now in
    let a = c.args.f.now.atoms.ok in
    let b = c.args.table.ok in
    record {
      tours = c.in_ok-tour.ensures.tours;
      sized = ◌∙◌ {c = length c.args.f.now.atoms.items + length c.args.table.items} c.in_ok-tour.ensures.sized (omega (arith, c.len.ensures, c.len-2.ensures, a, b));
      table = refl;
      known = c.in_ok-tour.ensures.known (length c.new.result.items);
      seen = record { nodes = []; told = λ rest. sym (ap (λ ps. accepts f (has c.args.set.now) no_instance ps rest) (c.in_ok-tour.ensures.stack (path_in f (record { table = c.args.table; nodes = c.new.result })))) };
    }

pub returns-in_default : goal.returns-in_default
returns-in_default g c t =
    closed_by (formula_of c.args.f.now) (has c.args.set.now) c.args.table c.loop.kept c.loop.tour c.loop.invariant.table (ap (λ xs. rows_below (formula_of c.args.f.now).terms (map view_linear xs)) (sym c.deref.ensures.value) ∙ sym c.table_below.ensures ∙ c.if-not-table_below.false) t c.loop.invariant.seen
