use Rattle.std.proofs.Common.{◌≡◌, ◌<◌, true, length, subst, arith}
use Rattle.std.specs.Prelude.{MatchOption}
use Rattle.bg_term_table.specs.Views.{terms_in}
use Rattle.bg_wanted.specs.Scalars.{scalars_in}
use Rattle.bg_kinds.specs.Views.{key_of}
use Rattle.bg_wanted.specs.Alike.{are_same_at, AllApart}
use Rattle.bg_wanted.proofs.Rowed.{mapped_length}
use Rattle.bg_wanted.proofs.Grouping.{group_apart, group_pair, number_at}
use Rattle.bg_wanted.proofs.names.pair_in.Goals as goal

pub returns-in-None : goal.returns-in-None
returns-in-None c =
    let vs = c.in_ok-tables.tables.items in
    let none = subst (λ o. MatchOption o (AllApart vs) (λ p. (p.0 < p.1) × ((p.1 < length vs) × (are_same_at vs p.0 p.1 ≡ true)))) c.in-None.is c.in_ok-found.ensures in
    λ fs incs looked.
    group_apart (scalars_in c.args.values.now) (length incs) (terms_in fs c.args.looked.terms.now) c.args.group.now vs (c.in_ok-tables.ensures.tables fs incs looked) none

pub returns-in-Some : goal.returns-in-Some
returns-in-Some c =
    let vs = c.in_ok-tables.tables.items in
    let g = c.args.group.now in
    let two = subst (λ o. MatchOption o (AllApart vs) (λ p. (p.0 < p.1) × ((p.1 < length vs) × (are_same_at vs p.0 p.1 ≡ true)))) c.in-Some.is c.in_ok-found.ensures in
    let high : c.in-Some.j < length vs = two.1.0 in
    let same : are_same_at vs c.in-Some.i c.in-Some.j ≡ true = two.1.1 in
    let count = c.in_ok-tables.ensures.count in
    let before = two.0 in
    let most : c.in-Some.j < length g.numbers.items = omega (arith, high, count) in
    let low : c.in-Some.i < length g.numbers.items = omega (arith, most, before) in
    λ fs incs looked.
    group_pair (scalars_in c.args.values.now) (length incs) (terms_in fs c.args.looked.terms.now) g vs (c.in_ok-tables.ensures.tables fs incs looked) c.in-Some.i c.in-Some.j _ two.0 high same (number_at g.numbers.items c.in-Some.i c.index.result.now low c.index.ensures) (number_at g.numbers.items c.in-Some.j c.index-in-Some.result.now most c.index-in-Some.ensures) (let len = c.len.ensures in let ok = g.keys.now.keys.ok.0 in let many = mapped_length key_of g.keys.now.keys.items in omega (arith, len, ok, many))
