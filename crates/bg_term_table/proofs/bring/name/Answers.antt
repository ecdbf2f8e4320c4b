use Rattle.std.proofs.Common.{◌≡◌, ◌+◌, ◌++◌, length, append-nil, sym, ap, ◌∙◌, arith}
use Rattle.std.proofs.lemmas.List.{length-map}
use Rattle.bg_kinds.specs.Views.{keys_of, ref_in}
use Rattle.bg_numbered.specs.Lines.{names_at, is_any}
use Rattle.bg_term_table.specs.Views.{term_of, terms_in, incs_of}
use Rattle.bg_term_table.specs.Brought.{names_of}
use Rattle.bg_term_table.proofs.Bringing.{named_as, some_named}
use Rattle.bg_term_table.proofs.bring.name.Goals as goal

pub returns-in-None-clause-terms : goal.returns-in-None-clause-terms
returns-in-None-clause-terms c =
    let m = c.args.m in
    let o = c.args.o in
    let incs = incs_of c.args.around in
    λ fs g.
    let ts = terms_in fs c.args.terms.now.items in
    let n = length incs + length ts in
    let none = named_as fs incs c.deref.result.now c.args.terms.now.items c.in_ok-maps.maps m o c.deref.ensures.value (c.in_ok-maps.ensures fs g) ∙ ap (λ x. names_of x n m o) c.in-None.is in
    sym (ap (λ l. ts ++ l) none ∙ append-nil ts)

pub returns-in-None-clause-there : goal.returns-in-None-clause-there
returns-in-None-clause-there c =
    let m = c.args.m in
    let o = c.args.o in
    let incs = incs_of c.args.around in
    λ fs g.
    let n = length incs + length (terms_in fs c.args.terms.now.items) in
    let none = named_as fs incs c.deref.result.now c.args.terms.now.items c.in_ok-maps.maps m o c.deref.ensures.value (c.in_ok-maps.ensures fs g) ∙ ap (λ x. names_of x n m o) c.in-None.is in
    sym (ap is_any none)

pub returns-in_ok-put_names-in-Some-clause-terms : goal.returns-in_ok-put_names-in-Some-clause-terms
returns-in_ok-put_names-in-Some-clause-terms c =
    let m = c.args.m in
    let o = c.args.o in
    let t = c.in-Some.t in
    let incs = incs_of c.args.around in
    let items = c.args.terms.now.items in
    λ fs g.
    let ts = terms_in fs items in
    let n = length incs + length ts in
    let some = named_as fs incs c.deref.result.now items c.in_ok-maps.maps m o c.deref.ensures.value (c.in_ok-maps.ensures fs g) ∙ ap (λ x. names_of x n m o) c.in-Some.is in
    let first : c.in_ok-first-in-Some.first ≡ n = omega (arith, c.in_ok-first-in-Some.ensures, c.len.ensures, c.args.terms.now.ok.0, length-map items (term_of fs), length-map c.args.around.incarnations.now ref_in) in
    c.in_ok-put_names-in-Some.ensures fs
    ∙ ap (λ l. ts ++ l) (ap (λ k. names_at (keys_of t.keys) (ref_in t.gives) k m o) first ∙ sym some)

pub returns-in_ok-put_names-in-Some-clause-there : goal.returns-in_ok-put_names-in-Some-clause-there
returns-in_ok-put_names-in-Some-clause-there c =
    let m = c.args.m in
    let o = c.args.o in
    let t = c.in-Some.t in
    let incs = incs_of c.args.around in
    λ fs g.
    let n = length incs + length (terms_in fs c.args.terms.now.items) in
    let some = named_as fs incs c.deref.result.now c.args.terms.now.items c.in_ok-maps.maps m o c.deref.ensures.value (c.in_ok-maps.ensures fs g) ∙ ap (λ x. names_of x n m o) c.in-Some.is in
    sym (ap is_any some ∙ some_named (keys_of t.keys) (ref_in t.gives) n m o)
