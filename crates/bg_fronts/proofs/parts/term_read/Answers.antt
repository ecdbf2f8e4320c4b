use Rattle.std.proofs.Common.{◌≡◌, ◌<◌, ◌≤◌, ◌-◌, Some, sym, ap, ◌∙◌, arith}
use Rattle.std.specs.Prelude.{slice_get}
use Rattle.bg_term_table.specs.Locals.{local_in}
use Rattle.bg_term_table.specs.Views.{meaning, terms_in}
use Rattle.bg_fronts.proofs.Reading.{read_before, read_behind}
use Rattle.bg_fronts.proofs.There.{some_here, none_here}
use Rattle.bg_fronts.proofs.parts.term_read.Goals as goal

pub returns-in-None-checked_sub : goal.returns-in-None-checked_sub
returns-in-None-checked_sub c =
    let k = c.in-Some.k in
    let which : local_in (meaning c.args.q.now) ≡ Some k = sym c.local.ensures ∙ c.in-Some.is in
    let low : k < c.args.count = omega (arith, c.in-None-checked_sub.ensures) in
    λ fs. read_before (terms_in fs c.args.terms.now) c.args.count (meaning c.args.q.now) k which low

pub returns-in-None-get : goal.returns-in-None-get
returns-in-None-get c =
    let k = c.in-Some.k in
    let a = c.in-Some-checked_sub.a in
    let n = c.args.count in
    let which : local_in (meaning c.args.q.now) ≡ Some k = sym c.local.ensures ∙ c.in-Some.is in
    let high : n ≤ k = omega (arith, c.in-Some-checked_sub.ensures) in
    let place : k - n ≡ a = omega (arith, c.in-Some-checked_sub.ensures) in
    λ fs.
    read_behind (terms_in fs c.args.terms.now) n (meaning c.args.q.now) k which high
    ∙ (ap (slice_get (terms_in fs c.args.terms.now)) place ∙ none_here fs c.args.terms.now a c.in-None-get.ensures.lookup.3)

pub returns-in-Some-get : goal.returns-in-Some-get
returns-in-Some-get c =
    let k = c.in-Some.k in
    let a = c.in-Some-checked_sub.a in
    let n = c.args.count in
    let which : local_in (meaning c.args.q.now) ≡ Some k = sym c.local.ensures ∙ c.in-Some.is in
    let high : n ≤ k = omega (arith, c.in-Some-checked_sub.ensures) in
    let place : k - n ≡ a = omega (arith, c.in-Some-checked_sub.ensures) in
    λ fs.
    read_behind (terms_in fs c.args.terms.now) n (meaning c.args.q.now) k which high
    ∙ (ap (slice_get (terms_in fs c.args.terms.now)) place ∙ some_here fs c.args.terms.now a c.in-Some-get.t.now c.in-Some-get.ensures.lookup.3.0 c.in-Some-get.ensures.lookup.1)
