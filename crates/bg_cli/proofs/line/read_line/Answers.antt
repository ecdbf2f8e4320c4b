use Rattle.std.proofs.Common.{rules, ap}
use Rattle.clap.specs.Words.{app_of, subcommand_rows_of}
use Rattle.bg_cli.specs.Cli.{texts_of, files_of, workers_of, nodes_of, most_rows_of, guess_of, history_of, seed_of, size_of, cert_of}
use Rattle.bg_cli.proofs.Finds.{taken, not_taken, rows_are, job_is}
use Rattle.bg_cli.proofs.line.read_line.Goals as goal

pub returns-in-Err-clause-refused : goal.returns-in-Err-clause-refused
returns-in-Err-clause-refused c = λ h t. not_taken (app_of c.in_ok-cli.field-0) (texts_of c.args.words.now) c.in-Err.error c.in_ok-cli.ensures c.in-Err.ensures.kinds (c.fault_of.ensures (search (rules, h))) t

pub returns-clause-taken : goal.returns-clause-taken
returns-clause-taken c = taken (app_of c.in_ok-cli.field-0) (texts_of c.args.words.now) c.in_ok-cli.ensures c.in-Ok.ensures.kinds

pub returns-clause-files : goal.returns-clause-files
returns-clause-files c =
    let rows = rows_are (app_of c.in_ok-cli.field-0) (texts_of c.args.words.now) (subcommand_rows_of c.in-Ok.matches) c.in_ok-cli.ensures (λ s. (c.in-Ok.ensures.matches s).1) in
    search (rules, ap files_of rows)

pub returns-clause-nodes : goal.returns-clause-nodes
returns-clause-nodes c =
    let rows = rows_are (app_of c.in_ok-cli.field-0) (texts_of c.args.words.now) (subcommand_rows_of c.in-Ok.matches) c.in_ok-cli.ensures (λ s. (c.in-Ok.ensures.matches s).1) in
    search (rules, ap nodes_of rows)

pub returns-clause-rows : goal.returns-clause-rows
returns-clause-rows c =
    let rows = rows_are (app_of c.in_ok-cli.field-0) (texts_of c.args.words.now) (subcommand_rows_of c.in-Ok.matches) c.in_ok-cli.ensures (λ s. (c.in-Ok.ensures.matches s).1) in
    search (rules, ap most_rows_of rows)

pub returns-clause-workers : goal.returns-clause-workers
returns-clause-workers c =
    let rows = rows_are (app_of c.in_ok-cli.field-0) (texts_of c.args.words.now) (subcommand_rows_of c.in-Ok.matches) c.in_ok-cli.ensures (λ s. (c.in-Ok.ensures.matches s).1) in
    search (rules, ap workers_of rows)

pub returns-clause-guess : goal.returns-clause-guess
returns-clause-guess c =
    let rows = rows_are (app_of c.in_ok-cli.field-0) (texts_of c.args.words.now) (subcommand_rows_of c.in-Ok.matches) c.in_ok-cli.ensures (λ s. (c.in-Ok.ensures.matches s).1) in
    search (rules, ap guess_of rows)

pub returns-clause-history : goal.returns-clause-history
returns-clause-history c =
    let rows = rows_are (app_of c.in_ok-cli.field-0) (texts_of c.args.words.now) (subcommand_rows_of c.in-Ok.matches) c.in_ok-cli.ensures (λ s. (c.in-Ok.ensures.matches s).1) in
    search (rules, ap history_of rows)

pub returns-clause-job : goal.returns-clause-job
returns-clause-job c =
    let name = job_is (app_of c.in_ok-cli.field-0) (texts_of c.args.words.now) (subcommand_rows_of c.in-Ok.matches) c.in_ok-cli.ensures (λ s. (c.in-Ok.ensures.matches s).1) in
    search (rules, name)

pub returns-clause-cert : goal.returns-clause-cert
returns-clause-cert c =
    let rows = rows_are (app_of c.in_ok-cli.field-0) (texts_of c.args.words.now) (subcommand_rows_of c.in-Ok.matches) c.in_ok-cli.ensures (λ s. (c.in-Ok.ensures.matches s).1) in
    search (rules, ap cert_of rows)

pub returns-clause-seed : goal.returns-clause-seed
returns-clause-seed c =
    let rows = rows_are (app_of c.in_ok-cli.field-0) (texts_of c.args.words.now) (subcommand_rows_of c.in-Ok.matches) c.in_ok-cli.ensures (λ s. (c.in-Ok.ensures.matches s).1) in
    search (rules, ap seed_of rows)

pub returns-clause-size : goal.returns-clause-size
returns-clause-size c =
    let rows = rows_are (app_of c.in_ok-cli.field-0) (texts_of c.args.words.now) (subcommand_rows_of c.in-Ok.matches) c.in_ok-cli.ensures (λ s. (c.in-Ok.ensures.matches s).1) in
    search (rules, ap size_of rows)
