use Rattle.std.proofs.Common.{◌≡◌, ◌<◌, ◌+◌, length, ap, sym, ◌∙◌, subst, arith}
use Rattle.bg_terms.specs.Built.{built}
use Rattle.bg_terms.specs.Typed.{types_with}
use Rattle.bg_term_table.specs.Views.{terms_in, incs_of}
use Rattle.bg_scalar.specs.Values.{value_of}
use Rattle.bg_scalar.specs.Views.{vals_in}
use Rattle.bg_wanted.specs.Scalars.{scalars_in}
use Rattle.bg_wanted.proofs.Rowed.{mapped_length}
use Rattle.bg_wanted.proofs.Grouping.{mapped_last, one_longer}
use Rattle.bg_wanted.proofs.Valued.{AreSoFar, more_so_far, made_at, below}
use Rattle.bg_wanted.proofs.behind.values_behind.Goals as goal

pub loop-j-init : goal.loop-j-init
loop-j-init c =
    ((omega arith, ap length c.new-made.ensures.items), λ fs give looked k t lt e. absurd (omega (arith, lt)))

pub loop-j-preserved : goal.loop-j-preserved
loop-j-preserved c =
    let scalars = c.args.scalars.now in
    let j = c.loop-j.j in
    let incs = incs_of c.args.around in
    let lt : j < length scalars = c.loop-j-test.true in
    let inv = c.loop-j.invariant in (
      (omega (arith, lt), one_longer c.loop-j.made.items c.push.new.self.items c.in_ok-value.value j c.in_ok-push.ensures.items inv.0.1),
      λ fs give looked.
          let ts = terms_in fs c.args.looked.terms.now in
          let s = scalars_in scalars in
          let f = built s (length incs) ts in
          subst (AreSoFar f (types_with incs ts) s (j + 1)) (sym (mapped_last value_of c.loop-j.made.items c.push.new.self.items c.in_ok-value.value c.in_ok-push.ensures.items))
          (more_so_far f (types_with incs ts) s j (vals_in c.loop-j.made.items) (value_of c.in_ok-value.value) (mapped_length value_of c.loop-j.made.items ∙ inv.0.1) (inv.1 fs give looked)
          (made_at scalars j c.in_ok-place.place _ f (types_with incs ts) (value_of c.in_ok-value.value) lt c.in_ok-place.ensures (c.in_ok-value.ensures fs scalars give looked))),
    )

pub returns : goal.returns
returns c =
    let scalars = c.args.scalars.now in
    let end = c.loop-j-test.false in
    let inv = c.loop-j.invariant in
    let most = inv.0.0 in
    let last : c.loop-j.j ≡ length scalars = omega (arith, end, most) in
    λ fs give looked len.
    let tys = types_with (incs_of c.args.around) (terms_in fs c.args.looked.terms.now) in
    record {
      count = mapped_length value_of c.loop-j.made.items ∙ (inv.0.1 ∙ (last ∙ len));
      each = λ k t e. inv.1 fs give looked k t (let low = below tys k t e in omega (arith, low, last, len)) e;
    }
