use Rattle.std.proofs.Common.{refl, ◌∙◌, codes}
use Rattle.clap.specs.Words.{found_of, rows_of, first_of}
use Rattle.clap.proofs.WalkLemmas.{first_value-rows}
use Rattle.bg_cli.proofs.Finds.{cert_here}
use Rattle.bg_cli.proofs.line.cert_of.Goals as goal

pub returns : goal.returns
returns c =
    cert_here c.get_str.result (first_of (codes "cert") (rows_of (found_of c.args.check.now))) c.unwrap_or.result _ refl
    (c.get_str.ensures ∙ first_value-rows (found_of c.args.check.now) (codes "cert")) c.unwrap_or.ensures
