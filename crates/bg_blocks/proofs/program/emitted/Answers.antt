use Rattle.std.proofs.Common.{◌≡◌, false, [], map, ap}
use Rattle.std.specs.Prelude.{reverse}
use Rattle.bg_ast.specs.Execution.{AtReturn}
use Rattle.bg_ast.specs.Meaning as m
use Rattle.bg_ast.specs.Views.{program_of, sts_in}
use Rattle.bg_flow.specs.Core.{desugar, demands}
use Rattle.bg_blocks.specs.declared.emit.Emitted.{Emitted}
use Rattle.bg_blocks.specs.Views.{clauses_in}
use Rattle.bg_blocks.specs.EmittedViews.{made_of, state_of, frame_of}
use Rattle.bg_blocks.specs.Whole.{opening}
use Rattle.bg_blocks.proofs.Wholes.{emits_whole}
use Rattle.bg_blocks.proofs.program.emitted.Goals as goal

pub returns : goal.returns
returns c = λ rs n.
    let p = program_of c.args.around.program.now in
    let e0 : Emitted = record { blocks = c.new.result; takes_in = false; marks = c.new-2.result } in
    let none : (state_of p e0).blocks ≡ [] = ap (λ l. reverse (map (made_of p) l)) c.new.ensures.items in
    emits_whole p (desugar (m.meaning_of p) (frame_of p rs) (m.sts_of (sts_in c.args.body.now))) (opening (clauses_in c.args.q.now.requires_.items)) (demands (AtReturn c.args.number) (clauses_in c.args.q.now.ensures_.items)) e0 c.close.new.state c.stmts.new.state c.open.new.state none c.new-2.ensures.marks (c.in_ok-close.ensures p) (c.in_ok-stmts.ensures rs n) (c.in_ok-open.ensures p)
