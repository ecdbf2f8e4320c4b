use Rattle.std.proofs.Common.{◌≡◌, ◌-◌, length, drop, arith, sym, ap, ◌∙◌}
use Rattle.std.proofs.lemmas.Result.{IfOk-weaker}
use Rattle.bg_terms.specs.Built.{built}
use Rattle.bg_kinds.specs.Views.{base_of, keys_of, ref_of, tower}
use Rattle.bg_term_table.specs.Views.{terms_in}
use Rattle.bg_scalar.specs.Values.{val_of}
use Rattle.bg_wanted.specs.Scalars.{part_of}
use Rattle.bg_wanted.specs.Scalars.{scalars_in}
use Rattle.bg_wanted.specs.Asked.{looked_rows}
use Rattle.bg_wanted.specs.Behind.{places_in, put_all, entries_of}
use Rattle.bg_wanted.proofs.Leaves.{each_scalar}
use Rattle.bg_wanted.proofs.Building.{put_none, put_some, put_back, drop_whole, built_plain, no_maps, built_by_rows}
use Rattle.bg_wanted.proofs.tables.+built.Goals as goal

pub put_entry-returns-in-None : goal.put_entry-returns-in-None
put_entry-returns-in-None t c =
    λ fs incs values looked.
    put_none (scalars_in values) (length incs) (terms_in fs c.args.looked.terms.now) (ref_of c.args.gives) (looked_rows c.args.looked) c.args.a (entries_of c.args.map.now) c.in-None.ensures

pub put_entry-returns-in_ok-update-in-Some : goal.put_entry-returns-in_ok-update-in-Some
put_entry-returns-in_ok-update-in-Some t c =
    λ fs incs values looked.
    put_some (scalars_in values) (length incs) (terms_in fs c.args.looked.terms.now) (ref_of c.args.gives) (looked_rows c.args.looked) c.args.a (entries_of c.args.map.now) c.in-Some.parts.now c.in_ok-key-in-Some.key.items c.in-Some.scalar _ _ c.in-Some.ensures c.in_ok-key-in-Some.ensures (c.in_ok-value-in-Some.ensures fs incs values looked) c.in_ok-update-in-Some.ensures

pub built_map-loop-i-init : goal.built_map-loop-i-init
built_map-loop-i-init t c =
    let all = c.places_from-all.result.now in (
      omega arith,
      λ fs incs values looked.
          c.in_ok-map.ensures ∙ ap (put_all (scalars_in values) (length incs) (terms_in fs c.args.looked.terms.now) (ref_of c.args.gives) (looked_rows c.args.looked)) (sym (drop_whole all (length all) (omega arith))),
    )

pub built_map-loop-i-preserved : goal.built_map-loop-i-preserved
built_map-loop-i-preserved t c =
    let all = c.places_from-all.result.now in
    let i = c.loop-i.i in
    let some = c.loop-i-test.true in
    let within = c.loop-i.invariant.0 in (
      omega (arith, some, within),
      λ fs incs values looked.
          put_back (scalars_in values) (length incs) (terms_in fs c.args.looked.terms.now) (ref_of c.args.gives) (looked_rows c.args.looked) all i (i - 1) (entries_of c.loop-i.map) (entries_of c.put_entry.new.map) (omega (arith, some)) (omega (arith, some, within)) (c.loop-i.invariant.1 fs incs values looked) (c.in_ok-put_entry.ensures fs incs values looked),
    )

pub built_map-returns : goal.built_map-returns
built_map-returns t c =
    let l = c.args.looked in
    let all = c.places_from-all.result.now in
    let ks = keys_of c.args.keys.now in
    let u = ref_of c.args.gives in
    let end = c.loop-i-test.false in
    let last : c.loop-i.i ≡ 0 = omega (arith, end) in
    IfOk-weaker c.as_map.result _ _
    (λ made h. λ fs incs values looked.
    let s = scalars_in values in
    let ts = terms_in fs l.terms.now in
    let rs = looked_rows l in
    h
    ∙ (c.loop-i.invariant.1 fs incs values looked
    ∙ (ap (λ k. put_all s (length incs) ts u rs (drop k all)) last
    ∙ (ap (put_all s (length incs) ts u rs) (c.places_from-all.ensures fs incs values looked)
    ∙ (ap (λ x. put_all s (length incs) ts u rs (places_in ts ks u x rs)) c.as_number.ensures
    ∙ built_by_rows fs incs ts looked.terms values (each_scalar incs ts s looked.scalars) rs looked.rows ks u (part_of c.args.scalar))))))
    c.as_map.ensures

pub built-returns-in-None : goal.built-returns-in-None
built-returns-in-None t c =
    λ fs incs values looked.
    c.plain.ensures
    ∙ (built_plain (scalars_in values) (length incs) (terms_in fs c.args.looked.terms.now) c.args.ty.base (val_of c.args.scalar)
    ∙ ap (λ u. built (scalars_in values) (length incs) (terms_in fs c.args.looked.terms.now) u (val_of c.args.scalar)) (no_maps c.args.ty.maps.now (base_of c.args.ty.base) c.in-None.ensures.cases))

pub built-returns-in-Some : goal.built-returns-in-Some
built-returns-in-Some t c =
    IfOk-weaker c.built_map.result _ _
    (λ made h. λ fs incs values looked.
    h fs incs values looked
    ∙ ap (λ l. built (scalars_in values) (length incs) (terms_in fs c.args.looked.terms.now) (tower l (base_of c.args.ty.base)) (val_of c.args.scalar)) (sym c.in-Some.ensures.cases.0))
    c.built_map.ensures
