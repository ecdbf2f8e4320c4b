use Rattle.std.proofs.Common.{◌≡◌, ◌+◌, ◌-◌, ◌<◌, cond, ◌&&◌, length, map, drop, ap, ◌∙◌, arith}
use Rattle.std.specs.Prelude.{Some}
use Rattle.bg_certtext.specs.Views.{section_of}
use Rattle.bg_accept.specs.Sections.{is_at, section_at}
use Rattle.bg_accept.specs.Tables.{widths, first_at, is_there}
use Rattle.bg_accept.proofs.Filled.{firsts_more}
use Rattle.bg_accept.proofs.firsts.firsts_of.Goals as goal

pub loop-number-preserved : goal.loop-number-preserved
loop-number-preserved c =
    let n = c.loop-number.number - 1 in
    let l : n < length c.args.sections.now = omega arith in
    let next : c.loop-number.number ≡ n + 1 = omega arith in
    record {
      within = omega arith;
      widths = c.put.ensures.widths ∙ c.loop-number.invariant.widths;
      firsts = λ k i t.
          let there = ap (λ ws. is_there ws k i) c.loop-number.invariant.widths ∙ t in
          let put = c.put.ensures.put k i ∙ ap (λ s. cond (is_at k i (section_of s) && is_there (widths c.loop-number.table.items) k i) (Some n) (first_at c.loop-number.table.items k i)) c.index-sections-number.is in
          firsts_more c.args.sections.now n c.index-sections-number.result k i _ _ _ l there put
          (c.loop-number.invariant.firsts k i t ∙ ap (λ m. section_at k i (map section_of (drop m c.args.sections.now))) next);
    }
