use Rattle.std.proofs.Common.{ap, ◌∙◌}
use Rattle.clap.specs.Words.{found_of, one_text}
use Rattle.clap.proofs.WalkLemmas.{one_text-rows}
use Rattle.bg_cli.specs.Cli.{is_set}
use Rattle.bg_cli.proofs.Flags.{reads_flag}
use Rattle.bg_cli.proofs.line.flag_of.Goals as goal

pub returns : goal.returns
returns c =
    c.unwrap_or.ensures ∙ reads_flag (one_text (found_of c.args.verify.now) c.args.name.now) c.get_one.result c.get_one.ensures.none c.get_one.ensures.value
    ∙ ap is_set (one_text-rows (found_of c.args.verify.now) c.args.name.now)
