use Rattle.std.proofs.Common.{◌+◌, ◌≡◌, length, map, sym, ◌∙◌, arith}
use Rattle.std.proofs.lemmas.List.{length-map}
use Rattle.bg_ast.specs.Meaning as m
use Rattle.bg_ast.specs.Views.{program_of, declared_of}
use Rattle.bg_blocks.specs.Views.{block_of}
use Rattle.bg_blocks.specs.EmittedViews.{frame_of}
use Rattle.bg_incarnate.specs.Walked.{walked_of}
use Rattle.bg_incarnate.proofs.Sizes.{incarnations_counted}
use Rattle.bg_incarnate.proofs.Turns.{entry_is, whole_blocks, whole_arrivals, whole_firsts, whole_count, from_none}
use Rattle.bg_incarnate.proofs.whole.passive.Goals as goal

pub returns-clause-blocks : goal.returns-clause-blocks
returns-clause-blocks c =
    λ rs long.
    let p = program_of c.args.program.now in
    let named = m.named_of p.types in
    let ds = frame_of p rs in
    let bs = map (block_of p) c.args.blocks.now in
    let many : c.len.result ≡ length p.globals = c.len.ensures ∙ (omega (arith, c.args.program.now.globals.ok.0) ∙ sym (length-map c.args.program.now.globals.items declared_of)) in
    let globals = length-map p.globals (m.decl_of named) ∙ sym many in
    let locals = length-map rs (m.decl_of named) ∙ long in
    whole_blocks (m.meaning_of p) ds bs _ _ (map walked_of c.in_ok-walked.walked.items) _
    (entry_is (m.meaning_of p) ds c.len.result c.args.frame c.fresh.new.next 0 _ _ _ globals locals (c.deref-2.ensures.value ∙ c.in_ok-before.ensures.made) (c.in_ok-globals.ensures.items_if_clones_equal (λ x y e. e) ∙ c.deref.ensures.value ∙ sym c.deref-2.ensures.value) c.in_ok-before.ensures.more c.in_ok-locals.ensures.made)
    (omega (arith, globals, locals, c.in_ok-before.ensures.more, c.in_ok-locals.ensures.more))
    (c.in_ok-walked.ensures.walked p)
    (c.in_ok-made.ensures.blocks p)

pub returns-clause-arrivals : goal.returns-clause-arrivals
returns-clause-arrivals c =
    λ rs long.
    let p = program_of c.args.program.now in
    let named = m.named_of p.types in
    let ds = frame_of p rs in
    let many : c.len.result ≡ length p.globals = c.len.ensures ∙ (omega (arith, c.args.program.now.globals.ok.0) ∙ sym (length-map c.args.program.now.globals.items declared_of)) in
    let globals = length-map p.globals (m.decl_of named) ∙ sym many in
    let locals = length-map rs (m.decl_of named) ∙ long in
    whole_arrivals (block_of p) (m.meaning_of p) ds c.args.blocks.now _ _ (map walked_of c.in_ok-walked.walked.items) _ _
    (entry_is (m.meaning_of p) ds c.len.result c.args.frame c.fresh.new.next 0 _ _ _ globals locals (c.deref-2.ensures.value ∙ c.in_ok-before.ensures.made) (c.in_ok-globals.ensures.items_if_clones_equal (λ x y e. e) ∙ c.deref.ensures.value ∙ sym c.deref-2.ensures.value) c.in_ok-before.ensures.more c.in_ok-locals.ensures.made)
    (omega (arith, globals, locals, c.in_ok-before.ensures.more, c.in_ok-locals.ensures.more))
    (c.in_ok-walked.ensures.walked p)
    c.in_ok-made.ensures.arrivals
    c.new-arrivals.ensures.items

pub returns-clause-firsts : goal.returns-clause-firsts
returns-clause-firsts c =
    λ rs long.
    let p = program_of c.args.program.now in
    let named = m.named_of p.types in
    let ds = frame_of p rs in
    let bs = map (block_of p) c.args.blocks.now in
    let many : c.len.result ≡ length p.globals = c.len.ensures ∙ (omega (arith, c.args.program.now.globals.ok.0) ∙ sym (length-map c.args.program.now.globals.items declared_of)) in
    let globals = length-map p.globals (m.decl_of named) ∙ sym many in
    let locals = length-map rs (m.decl_of named) ∙ long in
    whole_firsts (m.meaning_of p) ds bs _ _ _
    (entry_is (m.meaning_of p) ds c.len.result c.args.frame c.fresh.new.next 0 _ _ _ globals locals (c.deref-2.ensures.value ∙ c.in_ok-before.ensures.made) (c.in_ok-globals.ensures.items_if_clones_equal (λ x y e. e) ∙ c.deref.ensures.value ∙ sym c.deref-2.ensures.value) c.in_ok-before.ensures.more c.in_ok-locals.ensures.made)
    (omega (arith, globals, locals, c.in_ok-before.ensures.more, c.in_ok-locals.ensures.more))
    (from_none _ _ _ (c.in_ok-walked.ensures.firsts p) c.new-firsts.ensures.items)

pub returns-clause-counted : goal.returns-clause-counted
returns-clause-counted c =
    λ rs long even.
    let p = program_of c.args.program.now in
    let named = m.named_of p.types in
    let ds = frame_of p rs in
    let bs = map (block_of p) c.args.blocks.now in
    let many : c.len.result ≡ length p.globals = c.len.ensures ∙ (omega (arith, c.args.program.now.globals.ok.0) ∙ sym (length-map c.args.program.now.globals.items declared_of)) in
    let globals = length-map p.globals (m.decl_of named) ∙ sym many in
    let locals = length-map rs (m.decl_of named) ∙ long in
    whole_count (m.meaning_of p) ds bs _ _ (length (m.meaning_of p).globals + length ds) _
    (entry_is (m.meaning_of p) ds c.len.result c.args.frame c.fresh.new.next 0 _ _ _ globals locals (c.deref-2.ensures.value ∙ c.in_ok-before.ensures.made) (c.in_ok-globals.ensures.items_if_clones_equal (λ x y e. e) ∙ c.deref.ensures.value ∙ sym c.deref-2.ensures.value) c.in_ok-before.ensures.more c.in_ok-locals.ensures.made)
    (omega (arith, globals, locals, c.in_ok-before.ensures.more, c.in_ok-locals.ensures.more))
    (c.in_ok-walked.ensures.more p)
    ∙ incarnations_counted (m.meaning_of p) ds bs even
