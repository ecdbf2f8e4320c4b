use Rattle.std.proofs.Common.{map, ap, ◌∙◌, ◌++◌, sym, append-nil}
use Rattle.bg_ast.specs.Views.{program_of, proc_of}
use Rattle.bg_blocks.specs.Callees.{list_of, modified_in}
use Rattle.bg_blocks.proofs.Undoing.{drop_whole}
use Rattle.bg_blocks.proofs.callees.callees_of.Goals as goal

pub returns : goal.returns
returns c =
    let f = modified_in (program_of c.args.program.now) in
    let qs = c.deref-q-items.result.now in
    let made = map list_of c.loop-q.made.items in
    sym (append-nil made)
    ∙ (ap (λ l. made ++ map f (map proc_of l)) (sym (drop_whole c.loop-q.q-index qs c.loop-q-test.false))
    ∙ (c.loop-q.invariant
    ∙ ap (λ l. map f (map proc_of l)) c.deref-q-items.ensures.value))
