use Rattle.std.proofs.Common.{◌≡◌, ℕ, ◌+◌, ◌<◌, List, [], ◌∷◌, ◌++◌, map, flat_map, get_or, length, take, sym, ap, ◌∙◌, arith}
use Rattle.std.proofs.lemmas.List.{map-append, take_more, take_all}
use Rattle.bg_text.specs.Views as v
use Rattle.bg_names.specs.Faults.{better}
use Rattle.bg_names.specs.Views.{inside_of, first_of, stacked}
use Rattle.bg_names.proofs.Firsts.{better_step}
use Rattle.bg_names.proofs.Forms.{both}
use Rattle.bg_bodies.specs.Bodies.{label_number, jump_faults}
use Rattle.bg_bodies.proofs.StForms.{drop_end}
use Rattle.bg_bodies.proofs.simple.goto_labels.Goals as goal

-- the numbers of a list's items, with one more item
numbers_step : {A : Type 0} (f : A → ℕ) (made new : List ℕ) (xs : List A) (i : ℕ) (x : A) (k : ℕ) → i < length xs → x ≡ get_or xs i x → made ≡ map f (take i xs) → k ≡ f x → new ≡ made ++ k ∷ [] → new ≡ map f (take (i + 1) xs)
numbers_step f made new xs i x k h at known is e =
    e
    ∙ both (λ l j. l ++ j ∷ []) known (is ∙ ap f at)
    ∙ sym (map-append f (take i xs) (get_or xs i x ∷ []))
    ∙ ap (map f) (sym (take_more xs i x h))

pub loop-name-preserved : goal.loop-name-preserved
loop-name-preserved c =
    let s = inside_of c.args.inside.now in
    let xs = c.args.names.now in
    let i = c.loop-name.name-index in
    let x = c.name-item.result in
    let known = c.loop-name.invariant in (
      numbers_step (λ y. label_number s (v.id_of y)) _ _ xs i x _ c.loop-name-test.true c.name-item.is known.0 c.in_ok-k.ensures.made c.in_ok-push.ensures.items,
      better_step (λ y. jump_faults s (stacked c.args.ahead.now) (v.id_of y)) _ _ xs i x _ c.loop-name-test.true c.name-item.is known.1 c.in_ok-k.ensures.first,
    )

pub returns-clause-made : goal.returns-clause-made
returns-clause-made c =
    let s = inside_of c.args.inside.now in
    c.loop-name.invariant.0 ∙ ap (map (λ x. label_number s (v.id_of x))) (take_all c.loop-name.name-index c.args.names.now (omega (arith, c.loop-name-test.false)))

pub returns-clause-first : goal.returns-clause-first
returns-clause-first c =
    let s = inside_of c.args.inside.now in
    ap (λ l. better (first_of c.loop-name.notes) (flat_map (λ x. jump_faults s (stacked c.args.ahead.now) (v.id_of x)) l)) (sym (drop_end c.args.names.now c.loop-name.name-index (omega (arith, c.loop-name-test.false)))) ∙ c.loop-name.invariant.1
