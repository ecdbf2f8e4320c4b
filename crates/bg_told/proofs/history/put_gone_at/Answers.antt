use Rattle.std.proofs.Common.{◌++◌, length, Option, map, sym, ap, ◌∙◌}
use Rattle.std.proofs.lemmas.Result.{on_ok_weaker}
use Rattle.bg_places.specs.Views.{placed_of}
use Rattle.std.specs.Prelude.{slice_get}
use Rattle.bg_ast.specs.Views.{impl_of}
use Rattle.bg_told.specs.Sheets.{Head, head_of}
use Rattle.bg_told.specs.History.{gone_in}
use Rattle.bg_told.specs.Entries.{gone_by, sheet_in}
use Rattle.bg_told.proofs.Sheet.{at_heads}
use Rattle.bg_told.proofs.history.put_gone_at.Goals as goal

pub returns-in-Some : goal.returns-in-Some
returns-in-Some c =
    let o = c.args.outcome.now in
    let there = at_heads c.deref.result.now c.args.place.now.implementation c.in-Some.implementation.now c.in-Some.ensures.lookup.3.0 c.in-Some.ensures.lookup.1 in
    on_ok_weaker c.put_gone_of.result (λ put guarded.
    put guarded ∙ ap (λ (h : Option Head). c.args.out.now.items ++ gone_in (sheet_in o) (gone_by guarded (length (sheet_in o).outer.globals) c.args.removal.now) (placed_of c.args.place.now) h) (sym (ap (λ ms. slice_get (map head_of (map impl_of ms)) c.args.place.now.implementation) (sym c.deref.ensures.value) ∙ there)))
    c.put_gone_of.ensures
