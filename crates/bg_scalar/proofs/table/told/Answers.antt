use Rattle.std.proofs.Common.{Bor, Option, Some, None, option_map, sym, ap, ◌∙◌}
use Rattle.bg_scalar.specs.declared.value.Value.{Value}
use Rattle.bg_scalar.proofs.LookedUp.{told_by}
use Rattle.bg_scalar.proofs.table.told.Goals as goal

pub returns-in-None-get : goal.returns-in-None-get
returns-in-None-get c =
    let t = c.in-Some.t.now in
    told_by c.args.tables.now c.args.function t c.args.args.now.items None c.in-Some.ensures.lookup.3.0 c.in-Some.ensures.lookup.1 (ap (option_map (λ (r : Bor Value). r.now)) (sym c.in-None-get.is) ∙ c.get-in-Some.ensures.value)

pub returns-in-Some-get : goal.returns-in-Some-get
returns-in-Some-get c =
    let t = c.in-Some.t.now in
    told_by c.args.tables.now c.args.function t c.args.args.now.items (Some c.in-Some-get.x.now) c.in-Some.ensures.lookup.3.0 c.in-Some.ensures.lookup.1 (ap (option_map (λ (r : Bor Value). r.now)) (sym c.in-Some-get.is) ∙ c.get-in-Some.ensures.value)
