use Rattle.std.proofs.Common.{◌≡◌, List, ℕ, Vec, Global, ap, ◌∙◌, rules, subst, sym}
use Rattle.std.specs.Prelude.{Some, None}
use Rattle.std.specs.Ordering.{nat_cmp}
use Rattle.std.specs.BTreeMap.{get}
use Rattle.bg_elim.specs.Columns.{numbers_at}
use Rattle.bg_elim.specs.Work.{work_of, IsSide}
use Rattle.bg_elim.proofs.Listed.{side_even, side_odd, side_none}
use Rattle.bg_elim.proofs.round.side.Goals as goal

pub returns-in_default : goal.returns-in_default
returns-in_default c =
    let w = c.args.work.now in
    let none : get nat_cmp w.columns.places c.args.x ≡ None = search rules in
    subst (λ (ns : List ℕ). IsSide (work_of w) c.args.side c.args.x ns) (sym c.new-made.ensures.items)
    (side_none w c.args.side c.args.x c.requires (λ n s. let f = s.found in absurd (cc (f, none))))

pub returns-in_ok-add_front-in-Even : goal.returns-in_ok-add_front-in-Even
returns-in_ok-add_front-in-Even c =
    let w = c.args.work.now in
    let p = c.in-Some.p.now in
    let found : get nat_cmp w.columns.places c.args.x ≡ Some p = search rules in
    let even = c.numbers_at-even.ensures ∙ ap (λ (ls : List (Vec ℕ Global)). numbers_at ls p) c.deref.ensures.value in
    let odd = c.numbers_at-odd.ensures ∙ ap (λ (ls : List (Vec ℕ Global)). numbers_at ls p) c.deref-2.ensures.value in
    side_even w c.args.side c.args.x p c.numbers_at-even.result.now c.numbers_at-odd.result.now c.new-made.result.items c.add_back.new.made.items c.add_front.new.made.items
    c.requires found even odd c.new-made.ensures.items c.in_ok-add_back-in-Even.ensures c.in_ok-add_front-in-Even.ensures

pub returns-in_ok-add_front-in-Odd : goal.returns-in_ok-add_front-in-Odd
returns-in_ok-add_front-in-Odd c =
    let w = c.args.work.now in
    let p = c.in-Some.p.now in
    let found : get nat_cmp w.columns.places c.args.x ≡ Some p = search rules in
    let even = c.numbers_at-even.ensures ∙ ap (λ (ls : List (Vec ℕ Global)). numbers_at ls p) c.deref.ensures.value in
    let odd = c.numbers_at-odd.ensures ∙ ap (λ (ls : List (Vec ℕ Global)). numbers_at ls p) c.deref-2.ensures.value in
    side_odd w c.args.side c.args.x p c.numbers_at-even.result.now c.numbers_at-odd.result.now c.new-made.result.items c.add_back-in-Odd.new.made.items c.add_front-in-Odd.new.made.items
    c.requires found even odd c.new-made.ensures.items c.in_ok-add_back-in-Odd.ensures c.in_ok-add_front-in-Odd.ensures
