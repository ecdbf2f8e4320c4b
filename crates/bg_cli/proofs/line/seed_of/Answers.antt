use Rattle.std.proofs.Common.{ap, ◌∙◌, codes}
use Rattle.clap.specs.Words.{found_of, one_text}
use Rattle.clap.proofs.WalkLemmas.{one_text-rows}
use Rattle.bg_cli.specs.Cli.{number_or}
use Rattle.bg_cli.proofs.Numbers.{reads_one}
use Rattle.bg_cli.proofs.line.seed_of.Goals as goal

pub returns : goal.returns
returns c =
    c.from.ensures ∙ c.unwrap_or.ensures ∙ reads_one 0 (one_text (found_of c.args.generate.now) (codes "SEED")) c.get_one.result c.get_one.ensures.none c.get_one.ensures.value
    ∙ ap (number_or 0) (one_text-rows (found_of c.args.generate.now) (codes "SEED"))
