use Rattle.std.proofs.Common.{◌≡◌, ◌++◌, ℕ, false, pos, length, replicate, map, sym, ap, ◌∙◌, arith}
use Rattle.std.specs.Vec as vec
use Rattle.std.specs.List.{list_any}
use Rattle.std.proofs.lemmas.List.{with_items_is, length-map}
use Rattle.bg_kinds.specs.Views.{ref_in}
use Rattle.bg_slice.specs.Marks.{marked}
use Rattle.bg_term_table.specs.Views.{meaning, terms_in}
use Rattle.bg_task.specs.Targets.{reads, past_all, spread_from}
use Rattle.bg_task.specs.Spread.{both}
use Rattle.bg_task.proofs.Marked.{spread_is}
use Rattle.bg_task.proofs.Numbering.{marked_length}
use Rattle.bg_task.proofs.targets.targets_of.Goals as goal

pub returns : goal.returns
returns c =
    let tys = map ref_in c.args.kinds.now in
    let p = λ (k : ℕ). list_any (λ t. list_any (λ e. reads k (meaning e)) t.args.items) c.args.terms.now in
    let ms = c.in_ok-marks.marks in
    let new = c.mark_terms.new.marks in
    let set : new ≡ marked p 0 ms.items = c.mark_terms.ensures ∙ ap (marked p 0) c.deref_mut.ensures.value in
    let long : length new ≡ length ms.items = ap (λ l. length l) set ∙ marked_length p 0 ms.items in
    let is : (vec.with_items ms new).items ≡ marked p 0 ms.items = with_items_is ms new (omega (arith, long, ms.ok.0)) ∙ set in
    let e : c.deref.result.now ≡ marked p 0 (replicate (length tys) false) = c.deref.ensures.value ∙ is ∙ ap (marked p 0) (c.in_ok-marks.ensures.items_if_clones_equal (λ y q. q)) ∙ ap (λ k. marked p 0 (replicate k false)) (sym (length-map c.args.kinds.now ref_in)) in
    λ fs.
    c.in_ok-spread.ensures
    ∙ ap (λ l. l ++ spread_from c.pass_terms.new.s.next (both tys c.deref.result.now)) (c.pass_terms.ensures.made ∙ c.new.ensures.items)
    ∙ ap (λ z. spread_from z (both tys c.deref.result.now)) (c.pass_terms.ensures.next fs)
    ∙ ap (spread_from (past_all (pos 1) (terms_in fs c.args.terms.now))) (spread_is fs c.args.terms.now tys c.deref.result.now e)
