use Rattle.std.proofs.Common.{◌≡◌, length, map, arith}
use Rattle.std.proofs.lemmas.List.{length-map}
use Rattle.bg_text.specs.Views.{id_of}
use Rattle.bg_ast.specs.Views.{program_of}
use Rattle.bg_front.proofs.Guessing.{counted_with}
use Rattle.bg_front.proofs.sizes.candidates_of.Goals as goal

pub returns : goal.returns
returns c =
    let declared : c.len-declared.result ≡ length (map id_of c.args.program.now.candidates.items) = let l = length-map c.args.program.now.candidates.items id_of in omega (arith, c.len-declared.ensures, c.args.program.now.candidates.ok.0, l) in
    counted_with c.args.guess (program_of c.args.program.now) c.len-declared.result c.in_ok-count.field-0 c.saturating_add.result c.if-not-guess.false declared c.in_ok-count.ensures c.saturating_add.ensures
