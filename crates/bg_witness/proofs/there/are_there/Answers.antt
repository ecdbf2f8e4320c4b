use Rattle.std.proofs.Common.{◌≡◌, ◌<◌, ◌≤◌, length, sym, ap, ◌∙◌, arith}
use Rattle.bg_ast.specs.Meaning.{meaning_of}
use Rattle.bg_ast.specs.Views.{program_of}
use Rattle.bg_block_types.specs.Typed.{incarnations_in}
use Rattle.bg_termed.specs.Termed.{terms_in}
use Rattle.bg_task.proofs.Prepares.{impl, proc}
use Rattle.bg_witness.proofs.Reached.{reached_none, reached_more, reached_all}
use Rattle.bg_witness.proofs.there.are_there.Goals as goal

pub loop-line-init : goal.loop-line-init
loop-line-init c n h =
    let p = program_of c.args.program.now in
    let w = c.args.prepared.now in
    reached_none (meaning_of p).functions (incarnations_in (meaning_of p) n (impl p n w h) (proc p n w h)) (terms_in (meaning_of p) n (impl p n w h) (proc p n w h)) c.args.lines.now _ (c.in_ok-grown.ensures n h)

pub loop-line-preserved : goal.loop-line-preserved
loop-line-preserved c n h =
    let p = program_of c.args.program.now in
    let w = c.args.prepared.now in
    let fs = (meaning_of p).functions in
    let incs = incarnations_in (meaning_of p) n (impl p n w h) (proc p n w h) in
    let ls = c.args.lines.now in
    let here : c.loop-line.line-index < length ls = omega arith in
    reached_more fs incs (terms_in (meaning_of p) n (impl p n w h) (proc p n w h)) ls c.loop-line.grown c.grow.new.grown c.loop-line.line-index _ here (c.loop-line.invariant n h)
    (λ us over. sym (c.in_ok-grow.ensures.there fs incs us over) ∙ c.if-not-branch.false)
    (λ us over. c.in_ok-grow.ensures.over fs incs us over)

pub returns : goal.returns
returns c =
    λ e n h.
    let p = program_of c.args.program.now in
    let w = c.args.prepared.now in
    let ls = c.args.lines.now in
    let end : length ls ≤ c.loop-line.line-index = omega arith in
    reached_all (meaning_of p).functions (incarnations_in (meaning_of p) n (impl p n w h) (proc p n w h)) (terms_in (meaning_of p) n (impl p n w h) (proc p n w h)) ls c.loop-line.grown c.loop-line.line-index end (c.loop-line.invariant n h)
