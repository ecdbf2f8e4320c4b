use Rattle.std.proofs.Common.{◌≡◌, false, refl, map, length, replicate, sym, ap, ◌∙◌, arith}
use Rattle.std.proofs.lemmas.List.{length-map}
use Rattle.bg_ast.specs.Meaning.{meaning_of}
use Rattle.bg_ast.specs.Views.{program_of}
use Rattle.bg_places.specs.Views.{spot_of}
use Rattle.bg_formula.specs.Atoms.{view_linear}
use Rattle.bg_formed.specs.Views.{form_block_of}
use Rattle.bg_slice.specs.Slices.{names_blocks, sliced, sliced_rows, guards_in}
use Rattle.bg_slice.specs.Marks.{marked, marked_rows}
use Rattle.bg_slice.proofs.Marking.{rows_are}
use Rattle.bg_task.specs.Prepared.{encoding_over}
use Rattle.bg_task.proofs.Slices.{slice_encodes}
use Rattle.bg_task.proofs.cut.counted.Goals as goal

pub returns : goal.returns
returns c =
    let p = program_of c.args.program.now in
    let n = (meaning_of p).candidates in
    let w = c.args.atoms.now in
    let a = encoding_over n w in
    let t = spot_of c.args.spot in
    let made = c.in_ok-made.made in
    let atoms = map view_linear w.rows.items in
    let forms : sliced t (map form_block_of c.deref.result.now) ≡ sliced t a.blocks = ap (λ l. sliced t (map form_block_of l)) c.deref.ensures.value in
    let count : c.len-rows.result ≡ length atoms = c.len-rows.ensures ∙ (omega (arith, c.args.atoms.now.rows.ok.0) ∙ sym (length-map w.rows.items view_linear)) in
    let rows : marked_rows made.rows.items atoms ≡ sliced_rows w.first (sliced t a.blocks) a.rows =
    ap (λ l. marked_rows l atoms) c.in_ok-made.ensures.rows
    ∙ (ap (λ bs. marked_rows (marked (λ k. names_blocks k bs) w.first (replicate c.len-rows.result false)) atoms) forms
    ∙ (ap (λ k. marked_rows (marked (λ j. names_blocks j (sliced t a.blocks)) w.first (replicate k false)) atoms) count
    ∙ rows_are (sliced t a.blocks) w.first atoms)) in
    let named : made.named.items ≡ guards_in n (sliced t a.blocks) =
    c.in_ok-made.ensures.named
    ∙ (ap (λ bs. guards_in c.in_ok-candidates.candidates bs) forms
    ∙ ap (λ k. guards_in k (sliced t a.blocks)) c.in_ok-candidates.ensures) in
    record {
      encodes = λ sorts ps is. slice_encodes c.slices_are_below.ensures.less c.slices_are_below.ensures.named c.slices_are_below.ensures.count c.slices_have_rows.ensures.are_rows c.slices_have_rows.ensures.agree c.slices_have_rows.ensures.below c.slices_have_rows.ensures.count c.slices_say_the_same.ensures sorts n ps a is refl t (marked_rows made.rows.items atoms) (sliced t a.blocks) made.named.items refl rows named;
      cut = record { first = refl; terms = refl; rows = rows; blocks = refl; named = named };
      refusals = c.slices_use_alike.ensures t a.blocks;
    }
