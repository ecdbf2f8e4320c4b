use Rattle.std.proofs.Common.{◌≡◌, length, map, arith}
use Rattle.std.proofs.lemmas.List.{length-map}
use Rattle.bg_text.specs.Views.{id_of}
use Rattle.bg_ast.specs.Views.{program_of, proc_of, impl_of}
use Rattle.bg_guess.proofs.Made.{made_is}
use Rattle.bg_guess.proofs.whole.guess.Goals as goal

pub returns : goal.returns
returns c =
    let made = rw (c.deref.ensures.value, c.deref-2.ensures.value) at c.in_ok-count.ensures in
    let many = length-map c.args.program.candidates.items id_of in
    let first : c.in_ok-first.first ≡ length (map id_of c.args.program.candidates.items) = omega (arith, c.in_ok-first.ensures, c.len.ensures, c.args.program.candidates.ok.0, many) in
    made_is (program_of c.args.program) (map id_of c.push_names.new.out.items) (map proc_of c.add_guesses.new.procedures.items) (map impl_of c.add_guesses.new.implementations.items) c.in_ok-first.first c.in_ok-count.count c.in_ok-push_names.ensures made.count first made.procedures made.implementations
