use Rattle.std.proofs.Common.{◌≡◌, [], ◌∷◌, ◌++◌, sym, ap, ◌∙◌}
use Rattle.std.specs.Prelude.{if◌then◌else◌}
use Rattle.std.proofs.lemmas.Result.{IfOk-weaker}
use Rattle.bg_term_table.specs.declared.line.Line.TheVariants.{Congruent}
use Rattle.bg_wanted.specs.Rows.{row_of}
use Rattle.bg_wanted.specs.Firsts.{key_of}
use Rattle.bg_wanted.proofs.Earliest.{new_row, old_row}
use Rattle.bg_wanted.proofs.first.compare.Goals as goal

pub returns-in_ok-insert-in-None : goal.returns-in_ok-insert-in-None
returns-in_ok-insert-in-None c =
    let r = c.args.row.now in
    let at = c.in_ok-at.at in
    let its : key_of (row_of r) ≡ (at.0, at.1.items) = ap (λ f. (f, r.args.items)) (sym c.in_ok-at.ensures.class) ∙ ap (λ l. (at.0, l)) (sym c.in_ok-at.ensures.args) in
    λ rs len so.
    new_row c.args.known.now c.args.wrong.now.items rs (row_of r) so c.insert.new.self c.args.b at its (sym len) (sym (c.copied-first.ensures ∙ c.get.ensures.value) ∙ c.in-None.is) (λ k. c.in_ok-insert-in-None.ensures.updates.0 k)

pub returns-in-Some : goal.returns-in-Some
returns-in-Some c =
    let r = c.args.row.now in
    let at = c.in_ok-at.at in
    let its : key_of (row_of r) ≡ (at.0, at.1.items) = ap (λ f. (f, r.args.items)) (sym c.in_ok-at.ensures.class) ∙ ap (λ l. (at.0, l)) (sym c.in_ok-at.ensures.args) in
    let es = c.args.wrong.now.items in
    IfOk-weaker c.tell.result _ _
    (λ x h. λ rs len so.
    old_row c.args.known.now es rs (row_of r) so c.args.b c.in-Some.a c.in-Some.value at c.tell.new.made.items its (sym len) (sym (c.copied-first.ensures ∙ c.get.ensures.value) ∙ c.in-Some.is) (h ∙ ap (λ b. if b then es else es ++ Congruent c.in-Some.a c.args.b ∷ []) c.is_same.ensures))
    c.tell.ensures
