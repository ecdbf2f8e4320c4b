use Rattle.std.proofs.Common.{◌≡◌, ◌≤◌, ◌-◌, length, ◌∙◌, arith}
use Rattle.std.proofs.lemmas.List.{length-map}
use Rattle.bg_kinds.specs.Views.{ref_in}
use Rattle.bg_term_table.specs.Views.{incs_of}
use Rattle.bg_term_table.proofs.TypesRead.{term_there}
use Rattle.bg_term_table.proofs.types.read_type.Goals as goal

pub returns-in-Some : goal.returns-in-Some
returns-in-Some c =
    λ fs h.
    let incs = incs_of c.args.around in
    let j = c.args.j in
    let i = j - length c.args.around.incarnations.now in
    let k = length-map c.args.around.incarnations.now ref_in in
    let far : length incs ≤ j = omega (arith, k, c.if-j-count.false) in
    let at : i ≡ j - length incs = omega (arith, k) in
    c.head_type.ensures fs h
    ∙ term_there fs incs c.args.terms.now i j c.in-Some.t.now far at c.in-Some.ensures.lookup.3.0 c.in-Some.ensures.lookup.1
