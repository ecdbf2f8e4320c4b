use Rattle.std.proofs.Common.{◌<◌, ◌+◌, ◌++◌, List, length, drop, ap, ◌∙◌, arith}
use Rattle.bg_accept.specs.Tables.{widths, counts, first_at}
use Rattle.bg_accept.proofs.Filled.{Row, none_more, widths_more, long_row}
use Rattle.bg_accept.proofs.firsts.no_sections.Goals as goal

pub loop-places-preserved : goal.loop-places-preserved
loop-places-preserved c =
    let l : c.loop-places.places-index < length c.args.all.now = omega arith in
    let w = c.in_ok-no_section.field-0 in
    let long = long_row w c.len.result c.in_ok-no_section.ensures in
    record {
      widths =
          ap (λ (t : List Row). widths t ++ counts (drop (c.loop-places.places-index + 1) c.args.all.now)) c.in_ok-push.ensures.items
          ∙ widths_more c.loop-places.made.items w c.args.all.now c.loop-places.places-index c.places-item.result l (long ∙ (c.len.ensures ∙ (c.places-item.result.ok.0 ∙ ap (λ v. length v.items) c.places-item.is))) c.loop-places.invariant.widths;
      none = λ k i. ap (λ (t : List Row). first_at t k i) c.in_ok-push.ensures.items ∙ none_more c.loop-places.made.items w c.len.result c.loop-places.invariant.none c.in_ok-no_section.ensures k i;
    }
