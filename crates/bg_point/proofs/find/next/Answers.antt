use Rattle.std.proofs.Common.{List, ℕ, map, length, refl, subst, rules}
use Rattle.std.proofs.lemmas.List.{length-map}
use Rattle.bg_rows.specs.declared.row.Row.{Row}
use Rattle.bg_rows.specs.Rows.{row_of}
use Rattle.bg_point.specs.Points.{value_of}
use Rattle.bg_point.specs.Spans.{IsSpan}
use Rattle.bg_point.proofs.find.next.Goals as goal

pub returns-in-Empty : goal.returns-in-Empty
returns-in-Empty c =
    let a = subst (λ (o : List ℕ). IsSpan o (map row_of c.deref-2.result.now) (value_of c.args.spots.now) c.args.x (length c.deref-2.result.now) c.in-Ok.span) c.deref.ensures.value c.in-Ok.ensures in
    let b = subst (λ (rs : List Row). IsSpan c.args.order.now.variables.items (map row_of rs) (value_of c.args.spots.now) c.args.x (length rs) c.in-Ok.span) c.deref-2.ensures.value a in
    (refl, (c.in-Ok.span, rw length-map b, search rules))
