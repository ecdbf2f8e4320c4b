use Rattle.std.proofs.Common.{ap, ◌∙◌, codes}
use Rattle.clap.specs.Words.{found_of, one_text}
use Rattle.clap.proofs.WalkLemmas.{one_text-rows}
use Rattle.bg_cli.specs.Cli.{number_or, as_workers}
use Rattle.bg_cli.proofs.Numbers.{reads_one}
use Rattle.bg_cli.proofs.line.workers_of.Goals as goal

pub returns-clause-is : goal.returns-clause-is
returns-clause-is c =
    c.as_workers.ensures.is
    ∙ ap as_workers
    (c.unwrap_or.ensures ∙ reads_one 4 (one_text (found_of c.args.verify.now) (codes "workers")) c.get_one.result c.get_one.ensures.none c.get_one.ensures.value
    ∙ ap (number_or 4) (one_text-rows (found_of c.args.verify.now) (codes "workers")))
