use Rattle.std.proofs.Common.{rules, ◌≡◌, ◌++◌, [], ◌∷◌, sym, ap, ◌∙◌}
use Rattle.bg_places.specs.Views.{spot_of}
use Rattle.bg_formed.specs.Views.{form_cmds_of}
use Rattle.bg_clause.specs.Cutting.{ahead_of, cut_cmds}
use Rattle.bg_clause.proofs.Onward.{ahead_last}
use Rattle.bg_clause.proofs.fails.cut_cmds.Goals as goal

pub loop-last-preserved : goal.loop-last-preserved
loop-last-preserved c =
    let cs = c.args.units.now in
    let t = spot_of c.args.target in
    let before = c.in-Some.before.now in
    let last = c.in-Some.last.now in
    let made = ahead_of c.loop-last.made in
    let cut : c.loop-last.left.now ≡ before ++ last ∷ [] = search rules in
    ap (cut_cmds cs t (form_cmds_of before)) c.in_ok-made.ensures
    ∙ sym (ahead_last cs t before last made)
    ∙ ap (λ l. cut_cmds cs t (form_cmds_of l) made) (sym cut)
    ∙ c.loop-last.invariant
