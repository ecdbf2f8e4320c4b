use Rattle.std.proofs.Common.{◌≡◌, ◌≤◌, ◌-◌, ◌<◌, suc, length, drop, sym, ap, ◌∙◌, subst, arith}
use Rattle.std.specs.Prelude.{◌==◌}
use Rattle.std.proofs.lemmas.List.{length-map}
use Rattle.bg_ast.specs.Values.{IntKey}
use Rattle.bg_kinds.specs.Views.{key_of, keys_of, ref_in}
use Rattle.bg_terms.specs.Instances.{is_part, read_at}
use Rattle.bg_term_table.specs.Views.{meaning, terms_in}
use Rattle.bg_fronts.proofs.Pairs.{from}
use Rattle.bg_fronts.proofs.PartsBehind.{parts, parts_start, parts_more, sized}
use Rattle.bg_fronts.proofs.parts.are_parts.Goals as goal

pub loop-j-init : goal.loop-j-init
loop-j-init c =
    let vec = c.args.maps.keys.now.keys in
    let ks = keys_of c.args.maps.keys.now in
    let qs = c.args.qs.now in
    let j = c.lesser-j.result in
    let size : c.len.result ≡ length vec.items = c.len.ensures ∙ omega (arith, vec.ok.0) in
    let again : c.len-2.result ≡ length vec.items = c.len-2.ensures ∙ omega (arith, vec.ok.0) in
    let first = c.lesser-j.ensures.first in
    let second : j ≤ length qs = c.lesser-j.ensures.second in
    let low : j ≤ length vec.items = omega (arith, first, size) in
    let all : length ks ≡ length vec.items = length-map vec.items key_of in
    let fits : j ≤ length ks = omega (arith, low, all) in (
      low,
      (
        second,
        λ fs.
            c.fact-made.ensures
            ∙ parts_start c.args.at.count (terms_in fs c.args.at.terms.now) ks (ref_in c.args.maps.gives.now) (meaning c.args.maps.first.now) (meaning c.args.maps.second.now) ks qs j j _ fits second (sized j (length ks) c.len.result (length qs) (all ∙ sym size) c.lesser-j.ensures.one) (ap (λ n. n == length qs) (again ∙ sym all)),
      ),
    )

pub loop-j-preserved : goal.loop-j-preserved
loop-j-preserved c =
    let vec = c.args.maps.keys.now.keys in
    let ks = keys_of c.args.maps.keys.now in
    let qs = c.args.qs.now in
    let j = c.loop-j.j in
    let some : 0 < j = c.loop-j-test.true in
    let at : j ≡ suc (j - 1) = omega (arith, some) in
    let first : j - 1 < length vec.items = omega (arith, some, c.loop-j.invariant.0) in
    let second : j - 1 < length qs = omega (arith, some, c.loop-j.invariant.1.0) in
    let all : length ks ≡ length vec.items = length-map vec.items key_of in
    let key : j - 1 < length ks = omega (arith, first, all) in
    let n = c.args.at.count in
    let t = ref_in c.args.maps.gives.now in
    let m = meaning c.args.maps.first.now in
    let o = meaning c.args.maps.second.now in (
      omega (arith, first),
      (
        omega (arith, second),
        λ fs.
            let ts = terms_in fs c.args.at.terms.now in
            parts_more n ts ks t m o ks qs (j - 1) j IntKey c.index-qs-j.result _ _ _ at key second (c.loop-j.invariant.1.1 fs) (c.in_ok-one.ensures fs ∙ ap (λ q. is_part ks t (j - 1) m o (read_at n ts (meaning q))) c.index-qs-j.is) c.in_ok-made.ensures,
      ),
    )

pub returns : goal.returns
returns c =
    let ks = keys_of c.args.maps.keys.now in
    let qs = c.args.qs.now in
    let zero : c.loop-j.j ≡ 0 = omega (arith, c.loop-j-test.false) in
    λ fs.
    subst (λ j. meaning c.loop-j.made ≡ parts c.args.at.count (terms_in fs c.args.at.terms.now) ks (ref_in c.args.maps.gives.now) (meaning c.args.maps.first.now) (meaning c.args.maps.second.now) j (drop j ks) (from j qs)) zero (c.loop-j.invariant.1.1 fs)
