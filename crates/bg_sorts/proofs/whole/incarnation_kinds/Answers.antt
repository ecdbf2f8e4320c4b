use Rattle.std.proofs.Common.{map, length, ◌++◌, refl, sym, ap, ◌∙◌}
use Rattle.std.proofs.lemmas.List.{length-map}
use Rattle.bg_ast.specs.Meaning.{meaning_of}
use Rattle.bg_ast.specs.Views.{program_of}
use Rattle.bg_kinds.specs.Views.{ref_in}
use Rattle.bg_kinds.specs.declared.kinds.ValueType.{ValueType}
use Rattle.bg_blocks.specs.Views.{block_of}
use Rattle.bg_blocks.specs.EmittedViews.{frame_of}
use Rattle.bg_incarnate.specs.Views.{incarnations_of}
use Rattle.bg_sorts.proofs.Incarnated.{all_types}
use Rattle.bg_sorts.proofs.whole.incarnation_kinds.Goals as goal

pub returns-clause-types : goal.returns-clause-types
returns-clause-types c =
    let p = program_of c.args.program.now in
    λ rs f a even.
    all_types (meaning_of p) (frame_of p rs) (map (block_of p) c.args.blocks.now) (map ref_in c.in_ok-globals.globals.items) (map ref_in c.args.frame.now) (map incarnations_of c.args.passive.now.arrivals.items) (map ref_in c.push_copies-2.new.made.items) (map ref_in c.push_blocks.new.made.items)
    (c.in_ok-globals.ensures ∙ rw (c.deref.ensures.value, c.deref-2.ensures.value) refl)
    f
    a.arrivals
    even
    (c.in_ok-push_copies-2.ensures ∙ ap (λ l. l ++ map ref_in c.args.frame.now) (c.in_ok-push_copies.ensures ∙ rw (c.new-made.ensures.items) (ap (map ref_in) c.deref-4.ensures.value)))
    (c.in_ok-push_blocks.ensures ∙ rw (c.deref-3.ensures.value, c.deref-5.ensures.value) refl)

pub returns-clause-count : goal.returns-clause-count
returns-clause-count c =
    λ rs f a even.
    sym (length-map c.push_blocks.new.made.items ref_in) ∙ ap length (returns-clause-types c rs f a even) ∙ sym (a.count even)
