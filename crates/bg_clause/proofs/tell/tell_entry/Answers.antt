use Rattle.std.proofs.Common.{rules, ◌≡◌, ◌∷◌, map, sym, ap, ◌∙◌}
use Rattle.bg_places.specs.Views.{spot_of}
use Rattle.bg_formed.specs.Used.{uses, use_later}
use Rattle.bg_formed.specs.Views.{form_block_of}
use Rattle.bg_slice.specs.Slices.{sliced}
use Rattle.bg_clause.specs.Told.{entry_told}
use Rattle.bg_clause.specs.Cutting.{ahead_of}
use Rattle.bg_clause.specs.Telling.{telling_of}
use Rattle.bg_clause.proofs.Onward.{entry_told_is, entry_on_is}
use Rattle.bg_clause.proofs.tell.tell_entry.Goals as goal

pub returns-clause-told : goal.returns-clause-told
returns-clause-told c =
    let cs = c.args.units.now in
    let t = spot_of c.args.target in
    let b = c.in-Some.b.now in
    let rest = c.in-Some.rest.now in
    let cut : c.args.blocks.now ≡ b ∷ rest = search rules in
    c.in_ok-told.ensures
    ∙ (entry_told_is cs t c.args.first (form_block_of b) (map form_block_of rest) (telling_of c.in_ok-s.s) (ahead_of c.in_ok-form.field-0) c.in_ok-s.ensures c.in_ok-form.ensures
    ∙ ap (λ l. entry_told cs t c.args.first (sliced t (map form_block_of l))) (sym cut))

pub returns-clause-on : goal.returns-clause-on
returns-clause-on c =
    let cs = c.args.units.now in
    let t = spot_of c.args.target in
    let b = c.in-Some.b.now in
    let rest = c.in-Some.rest.now in
    let cut : c.args.blocks.now ≡ b ∷ rest = search rules in
    entry_on_is cs t c.args.first (form_block_of b) (map form_block_of rest) (telling_of c.in_ok-s.s) (ahead_of c.in_ok-form.field-0) c.in_ok-s.ensures c.in_ok-form.ensures
    ∙ ap (λ l. use_later (uses t (map form_block_of l)) 0) (sym cut)
