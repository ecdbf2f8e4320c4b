use Rattle.std.proofs.Common.{◌≡◌, ◌<◌, ◌≤◌, List, [], length, map, sym, ap, ◌∙◌, subst, arith}
use Rattle.std.specs.Prelude.{Some, option_map}
use Rattle.std.proofs.lemmas.Bool.Decides.{nat_tests}
use Rattle.bg_ast.specs.Meaning.{meaning_of}
use Rattle.bg_ast.specs.Views.{program_of}
use Rattle.bg_block_types.specs.Typed.{incarnations_in}
use Rattle.bg_term_table.specs.Lines.{line_of, lines_of}
use Rattle.bg_termed.specs.Termed.{terms_in}
use Rattle.bg_task.proofs.Prepares.{impl, proc}
use Rattle.bg_certtext.specs.declared.text.Stated.{Stated}
use Rattle.bg_accept.specs.Lines.{lines_in}
use Rattle.bg_accept.specs.Read.{IsBehind}
use Rattle.bg_accept.proofs.Stating.{no_stated, reached_none_yet, reached_more, reached_none, reached_done}
use Rattle.bg_accept.proofs.lines.lines_in.Goals as goal

pub returns-then-is_empty : goal.returns-then-is_empty
returns-then-is_empty c n h =
    let p = program_of c.args.program.now in
    let w = c.args.prepared.now in
    let none : length c.args.stated.now ≡ 0 = let e = c.is_empty.ensures in let k = c.if-is_empty.true in grind (arith, nat_tests, e, k) in
    no_stated (incarnations_in (meaning_of p) n (impl p n w h) (proc p n w h)) (terms_in (meaning_of p) n (impl p n w h) (proc p n w h)) c.args.stated.now _ none c.new-made.ensures.items

pub loop-s-init : goal.loop-s-init
loop-s-init c n h =
    let p = program_of c.args.program.now in
    let w = c.args.prepared.now in
    reached_none_yet (meaning_of p).functions (incarnations_in (meaning_of p) n (impl p n w h) (proc p n w h)) (terms_in (meaning_of p) n (impl p n w h) (proc p n w h)) c.args.stated.now _ _ c.new-made.ensures.items (c.in_ok-grown.ensures n h)

pub returns-in-None : goal.returns-in-None
returns-in-None c n h =
    let p = program_of c.args.program.now in
    let w = c.args.prepared.now in
    let fs = (meaning_of p).functions in
    let incs = incarnations_in (meaning_of p) n (impl p n w h) (proc p n w h) in
    let ss = c.args.stated.now in
    let here : c.loop-s.s-index < length ss = omega arith in
    reached_none fs incs (terms_in (meaning_of p) n (impl p n w h) (proc p n w h)) ss c.loop-s.grown c.loop-s.made.items c.loop-s.s-index _ here (c.loop-s.invariant n h)
    (λ us over. ap (option_map line_of) (sym c.in-None.is) ∙ c.in_ok-line_in.ensures.line fs incs us over)

pub loop-s-preserved : goal.loop-s-preserved
loop-s-preserved c n h =
    let p = program_of c.args.program.now in
    let w = c.args.prepared.now in
    let fs = (meaning_of p).functions in
    let incs = incarnations_in (meaning_of p) n (impl p n w h) (proc p n w h) in
    let ss = c.args.stated.now in
    let here : c.loop-s.s-index < length ss = omega arith in
    reached_more fs incs (terms_in (meaning_of p) n (impl p n w h) (proc p n w h)) ss c.loop-s.grown c.line_in.new.grown c.loop-s.made.items _ c.loop-s.s-index _ c.in-Some.line here c.in_ok-push-in-Some.ensures.items (c.loop-s.invariant n h)
    (λ us over. ap (option_map line_of) (sym c.in-Some.is) ∙ c.in_ok-line_in.ensures.line fs incs us over)
    (λ us over. subst (IsBehind fs incs us c.line_in.new.grown) c.in-Some.is (c.in_ok-line_in.ensures.over fs incs us over))

pub returns : goal.returns
returns c n h =
    let p = program_of c.args.program.now in
    let w = c.args.prepared.now in
    let ss = c.args.stated.now in
    let end : length ss ≤ c.loop-s.s-index = omega arith in
    reached_done (meaning_of p).functions (incarnations_in (meaning_of p) n (impl p n w h) (proc p n w h)) (terms_in (meaning_of p) n (impl p n w h) (proc p n w h)) ss c.loop-s.grown c.loop-s.made.items c.loop-s.s-index end (c.loop-s.invariant n h)
