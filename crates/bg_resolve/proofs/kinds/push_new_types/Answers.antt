use Rattle.std.proofs.Common.{◌≡◌, ℕ, ◌+◌, ◌<◌, List, [], ◌∷◌, ◌++◌, map, flat_map, drop, get_or, length, sym, ap, ◌∙◌, append_assoc, append-nil}
use Rattle.std.proofs.lemmas.List.{map-append, at_drop_all}
use Rattle.bg_text.specs.Views as v
use Rattle.bg_ast.specs.Views.{type_name_of}
use Rattle.bg_spaces.specs.SpaceViews.{spaces_in}
use Rattle.bg_resolve.specs.Program.{named_new, synonym_faults}
use Rattle.bg_names.specs.Faults.{better}
use Rattle.bg_names.specs.Views.{first_of}
use Rattle.bg_names.proofs.Firsts.{drop_item}
use Rattle.bg_spaces.proofs.Noted.{noted_step}
use Rattle.bg_resolve.proofs.kinds.push_new_types.Goals as goal

pushed_step : {A B C D : Type 0} (h : C → D) (f : B → D) (v : A → B) (made new : List C) (xs : List A) (i : ℕ) (x : A) (y : C) (whole : List D) → i < length xs → x ≡ get_or xs i x → map h made ++ map f (map v (drop i xs)) ≡ whole → h y ≡ f (v x) → new ≡ made ++ y ∷ [] → map h new ++ map f (map v (drop (i + 1) xs)) ≡ whole
pushed_step h f v made new xs i x y whole lt at known e is =
    let rest = map f (map v (drop (i + 1) xs)) in
    ap (λ l. map h l ++ rest) is
    ∙ ap (λ l. l ++ rest) (map-append h made (y ∷ []))
    ∙ append_assoc (map h made) (h y ∷ []) rest
    ∙ ap (λ z. map h made ++ z ∷ rest) e
    ∙ ap (λ l. map h made ++ map f (map v l)) (sym (drop_item xs i x lt at))
    ∙ known

pub loop-d-preserved : goal.loop-d-preserved
loop-d-preserved c =
    let g = spaces_in c.args.g.now in (
      pushed_step type_name_of (named_new g) v.new_type_of _ _ c.args.ds.now c.loop-d.d-index c.d-item.result c.in_ok-x.x _ c.loop-d-test.true c.d-item.is c.loop-d.invariant.0 c.in_ok-x.ensures.made c.in_ok-push.ensures.items,
      noted_step (synonym_faults g) v.new_type_of _ _ c.args.ds.now c.loop-d.d-index c.d-item.result _ c.loop-d-test.true c.d-item.is c.loop-d.invariant.1 c.in_ok-x.ensures.first,
    )

pub returns-clause-made : goal.returns-clause-made
returns-clause-made c =
    let made = map type_name_of c.loop-d.out.items in
    sym (append-nil made) ∙ sym (at_drop_all (λ l. made ++ map (named_new (spaces_in c.args.g.now)) (map v.new_type_of l)) c.args.ds.now c.loop-d.d-index c.loop-d-test.false) ∙ c.loop-d.invariant.0

pub returns-clause-first : goal.returns-clause-first
returns-clause-first c =
    sym (at_drop_all (λ l. better (first_of c.loop-d.notes) (flat_map (synonym_faults (spaces_in c.args.g.now)) (map v.new_type_of l))) c.args.ds.now c.loop-d.d-index c.loop-d-test.false) ∙ c.loop-d.invariant.1
