use Rattle.std.proofs.Common.{◌≡◌, ◌++◌, map, drop}
use Rattle.bg_ast.specs.Views.{program_of}
use Rattle.bg_words.specs.Sets.{has}
use Rattle.bg_check.specs.Verdicts.{judged}
use Rattle.bg_certtext.specs.Views.{section_of}
use Rattle.bg_certify.specs.Spelled.{rows}
use Rattle.bg_certify.specs.Found.{certs_from}
use Rattle.bg_certify.proofs.sections.sections.Given as goal

abbrev pub invariant-loop-k : goal.invariant-loop-k
invariant-loop-k l =
    let p = program_of l.program in
    let set = has l.outcome.inferred.retained in
    let ks = l.outcome.inferred.kept.items in
    let jss = judged l.outcome.verdicts.items in
    map section_of l.made.items ++ rows p.candidates l.k (certs_from p.procedures set (drop l.task ks) l.k (drop l.k p.implementations) (drop l.k jss))
    ≡ rows p.candidates 0 (certs_from p.procedures set ks 0 p.implementations jss)
