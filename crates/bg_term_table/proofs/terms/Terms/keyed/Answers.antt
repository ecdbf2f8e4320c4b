use Rattle.std.proofs.Common.{◌≡◌, Some, None, sym, subst}
use Rattle.std.proofs.lemmas.Result.{IfOk-weaker}
use Rattle.bg_term_table.specs.Views.{meanings}
use Rattle.bg_term_table.specs.Keys.{found_by, keys_of}
use Rattle.bg_term_table.proofs.Found.{found_none, found_place, old_number, old_table, new_number, new_table}
use Rattle.bg_term_table.proofs.terms.Terms.keyed.Goals as goal

pub returns-in-Some-clause-number : goal.returns-in-Some-clause-number
returns-in-Some-clause-number c =
    let key = c.args.key in
    let es = meanings c.args.args.items in
    let ts = c.args.self.now.terms.items in
    let at = subst (λ q. found_by (q, key.1.items) 0 (keys_of ts) ≡ Some c.in-Some.place) (sym c.requires.kind) (sym c.in-Some.ensures) in
    IfOk-weaker c.same.result _ _
    (λ j h. λ fs.
    old_number fs c.args.head es c.args.count j ts c.in-Some.place (found_place fs c.args.head es key.1.items c.requires.leaves c.in-Some.place ts at h.1) h.0)
    c.same.ensures

pub returns-in-Some-clause-table : goal.returns-in-Some-clause-table
returns-in-Some-clause-table c =
    let key = c.args.key in
    let es = meanings c.args.args.items in
    let ts = c.args.self.now.terms.items in
    let at = subst (λ q. found_by (q, key.1.items) 0 (keys_of ts) ≡ Some c.in-Some.place) (sym c.requires.kind) (sym c.in-Some.ensures) in
    IfOk-weaker c.same.result _ _
    (λ j h. λ fs.
    old_table fs c.args.head es c.in-Some.place ts (found_place fs c.args.head es key.1.items c.requires.leaves c.in-Some.place ts at h.1))
    c.same.ensures

pub returns-in-None-clause-number : goal.returns-in-None-clause-number
returns-in-None-clause-number c =
    let key = c.args.key in
    let es = meanings c.args.args.items in
    let ts = c.args.self.now.terms.items in
    let none = subst (λ q. found_by (q, key.1.items) 0 (keys_of ts) ≡ None) (sym c.requires.kind) (sym c.in-None.ensures) in
    IfOk-weaker c.add_known.result _ _
    (λ j h. λ fs.
    new_number fs c.args.head es c.args.count j ts (found_none fs c.args.head es key.1.items c.requires.leaves 0 ts none) h)
    c.add_known.ensures.number

pub returns-in-None-clause-table : goal.returns-in-None-clause-table
returns-in-None-clause-table c =
    let key = c.args.key in
    let es = meanings c.args.args.items in
    let ts = c.args.self.now.terms.items in
    let none = subst (λ q. found_by (q, key.1.items) 0 (keys_of ts) ≡ None) (sym c.requires.kind) (sym c.in-None.ensures) in
    IfOk-weaker c.add_known.result _ _
    (λ j h. λ fs.
    new_table fs c.args.head c.args.args ts c.add_known.new.self.terms.items (found_none fs c.args.head es key.1.items c.requires.leaves 0 ts none) h)
    c.add_known.ensures.terms
