use Rattle.std.proofs.Common.{◌≡◌, None, sym, ap, ◌∙◌}
use Rattle.std.proofs.lemmas.Result.{IfOk-weaker}
use Rattle.bg_term_table.specs.Views.{meanings}
use Rattle.bg_term_table.specs.Keys.{leaves_in, leaves_of}
use Rattle.bg_term_table.proofs.Found.{not_found, new_number, new_table}
use Rattle.bg_term_table.proofs.terms.Terms.put.Goals as goal

pub add-requires : goal.add-requires
add-requires c =
    sym (ap leaves_of (sym c.in-None.is) ∙ c.in_ok-known.ensures ∙ ap (λ l. leaves_in (meanings l)) c.deref.ensures.value)

pub returns-in-None-clause-number : goal.returns-in-None-clause-number
returns-in-None-clause-number c =
    let es = meanings c.args.args.items in
    let ts = c.args.self.now.terms.items in
    let none : leaves_in es ≡ None = sym (ap leaves_of (sym c.in-None.is) ∙ c.in_ok-known.ensures ∙ ap (λ l. leaves_in (meanings l)) c.deref.ensures.value) in
    IfOk-weaker c.add.result _ _
    (λ j h. λ fs. new_number fs c.args.head es c.args.count j ts (not_found fs c.args.head es none 0 ts) h)
    c.add.ensures.number

pub returns-in-None-clause-table : goal.returns-in-None-clause-table
returns-in-None-clause-table c =
    let es = meanings c.args.args.items in
    let ts = c.args.self.now.terms.items in
    let none : leaves_in es ≡ None = sym (ap leaves_of (sym c.in-None.is) ∙ c.in_ok-known.ensures ∙ ap (λ l. leaves_in (meanings l)) c.deref.ensures.value) in
    IfOk-weaker c.add.result _ _
    (λ j h. λ fs. new_table fs c.args.head c.args.args ts c.add.new.self.terms.items (not_found fs c.args.head es none 0 ts) h)
    c.add.ensures.terms
