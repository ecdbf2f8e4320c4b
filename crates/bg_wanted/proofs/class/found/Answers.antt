use Rattle.std.proofs.Common.{sym, ap, ◌∙◌, ◌+◌, Some}
use Rattle.std.specs.Prelude.{if◌then◌else◌, drop, get_or}
use Rattle.std.proofs.lemmas.List.{drop_all}
use Rattle.bg_kinds.specs.Views.{keys_of, ref_of}
use Rattle.bg_term_table.specs.Views.{terms_in}
use Rattle.bg_wanted.specs.Classes.{first_met}
use Rattle.bg_wanted.proofs.ClassLaws.{met_at}
use Rattle.bg_wanted.proofs.class.found.Goals as goal

pub returns-then-speaks_at : goal.returns-then-speaks_at
returns-then-speaks_at c =
    let met = c.args.met.now in
    let i = c.loop-m.m-index in
    λ fs.
    let ts = terms_in fs c.args.terms.now in
    let ks = keys_of c.args.keys.now in
    let t = ref_of c.args.gives in
    sym (c.loop-m.invariant fs
    ∙ (met_at ts ks t met i c.loop-m-test.true
    ∙ ap (λ b. if b then Some (get_or met i 0) else first_met ts ks t (drop (i + 1) met)) (sym (c.speaks_at.ensures fs) ∙ c.if-speaks_at.true)))

pub loop-m-preserved : goal.loop-m-preserved
loop-m-preserved c =
    let met = c.args.met.now in
    let i = c.loop-m.m-index in
    λ fs.
    let ts = terms_in fs c.args.terms.now in
    let ks = keys_of c.args.keys.now in
    let t = ref_of c.args.gives in
    c.loop-m.invariant fs
    ∙ (met_at ts ks t met i c.loop-m-test.true
    ∙ ap (λ b. if b then Some (get_or met i 0) else first_met ts ks t (drop (i + 1) met)) (sym (c.speaks_at.ensures fs) ∙ c.if-speaks_at.false))

pub returns : goal.returns
returns c =
    λ fs.
    sym (c.loop-m.invariant fs
    ∙ ap (first_met (terms_in fs c.args.terms.now) (keys_of c.args.keys.now) (ref_of c.args.gives)) (drop_all c.loop-m.m-index c.args.met.now c.loop-m-test.false))
