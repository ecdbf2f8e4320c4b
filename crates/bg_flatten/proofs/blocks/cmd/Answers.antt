use Rattle.std.proofs.Common.{sym, ap, subst}
use Rattle.bg_text.specs.Views.{option_of}
use Rattle.bg_ast.specs.Views.{candidate_of}
use Rattle.bg_places.specs.Views.{spot_of}
use Rattle.bg_passive.specs.Passive.{Claims, Supposes}
use Rattle.bg_incarnate.specs.Views.{passive_cmd_of}
use Rattle.bg_term_table.specs.Views.{meaning, terms_in, incs_of}
use Rattle.bg_flatten.specs.Numbered.{cmd_behind, cmd_numbered}
use Rattle.bg_flatten.specs.Made.{IsMade}
use Rattle.bg_flatten.proofs.blocks.cmd.Goals as goal

pub returns-in_ok-made-in-Claims : goal.returns-in_ok-made-in-Claims
returns-in_ok-made-in-Claims c =
    let d = c.in-Claims in
    let x = meaning c.in_ok-made-in-Claims.made in
    let n = incs_of c.args.around in
    let w = c.in_ok-made-in-Claims.ensures in
    λ fs g.
    let old = terms_in fs c.args.terms.now.terms.items in
    let new = terms_in fs c.flat.new.terms.terms.items in
    subst (λ k. IsMade (cmd_behind fs n) (cmd_numbered fs n) (passive_cmd_of k) old (Claims (spot_of d.spot) (option_of candidate_of d.candidate) x) new) (sym d.is) (ap (Claims (spot_of d.spot) (option_of candidate_of d.candidate)) (w.made fs g), w.table fs g)

pub returns-in_ok-made-in-Supposes : goal.returns-in_ok-made-in-Supposes
returns-in_ok-made-in-Supposes c =
    let d = c.in-Supposes in
    let x = meaning c.in_ok-made-in-Supposes.made in
    let n = incs_of c.args.around in
    let w = c.in_ok-made-in-Supposes.ensures in
    λ fs g.
    let old = terms_in fs c.args.terms.now.terms.items in
    let new = terms_in fs c.flat-in-Supposes.new.terms.terms.items in
    subst (λ k. IsMade (cmd_behind fs n) (cmd_numbered fs n) (passive_cmd_of k) old (Supposes (option_of candidate_of d.candidate) x) new) (sym d.is) (ap (Supposes (option_of candidate_of d.candidate)) (w.made fs g), w.table fs g)
