use Rattle.std.proofs.Common.{◌≡◌, List, [], map, refl, sym, ap, ◌∙◌, subst}
use Rattle.bg_ast.specs.Meaning.{meaning_of, named_of, impl_of, proc_of}
use Rattle.bg_ast.specs.Views.{program_of}
use Rattle.bg_places.specs.Views.{spot_of}
use Rattle.bg_numbered.specs.Lines.{Line}
use Rattle.bg_term_table.specs.Views as table
use Rattle.bg_term_table.specs.Lines.{lines_of}
use Rattle.bg_task.specs.Prepared.{IsPrepared, encoding_over}
use Rattle.bg_task.specs.Cuts.{IsOwn}
use Rattle.bg_block_types.specs.Typed.{incarnations_in}
use Rattle.bg_termed.specs.Termed.{terms_in}
use Rattle.bg_flatten.specs.Plain.{are_mapless}
use Rattle.bg_terms.specs.Typed.{type_of}
use Rattle.bg_task.proofs.Mapless.{mapless_front}
use Rattle.bg_task.proofs.Prepares.{impl, proc}
use Rattle.bg_task.proofs.Sliced.{slice_for, no_terms, none_there, some_there}
use Rattle.bg_task.proofs.cut.cut_down.Goals as goal

pub returns-then-is_empty : goal.returns-then-is_empty
returns-then-is_empty c =
    let p = program_of c.args.program.now in
    let n = c.args.place.now.implementation in
    let w = c.args.prepared.now in
    let t = spot_of c.args.place.now.spot in
    let none : [] ≡ lines_of c.args.lines.now = ap lines_of (sym (none_there c.args.lines.now _ c.is_empty.ensures c.if-is_empty.true)) in
    let own = λ (h : IsPrepared p n w). subst (λ (es : List Line). IsOwn (meaning_of p) n (impl_of (named_of p.types) h.implementation) (proc_of (named_of p.types) h.procedure) es (encoding_over (meaning_of p).candidates w.atoms)) none h.own in
    slice_for p n w (lines_of c.args.lines.now) t w.atoms _ own refl refl c.in_ok-rows.ensures

pub atoms_behind-requires-clause-prepared : goal.atoms_behind-requires-clause-prepared
atoms_behind-requires-clause-prepared c = (c.args.place.now.implementation, c.requires.prepared)

pub atoms_behind-requires-clause-kept : goal.atoms_behind-requires-clause-kept
atoms_behind-requires-clause-kept c =
    let p = program_of c.args.program.now in
    let n = c.args.place.now.implementation in
    let w = c.args.prepared.now in
    let h = c.requires.prepared in
    let incs = incarnations_in (meaning_of p) n (impl p n w h) (proc p n w h) in
    let ts = terms_in (meaning_of p) n (impl p n w h) (proc p n w h) in
    λ bare.
    no_terms incs ts (lines_of c.args.lines.now) (mapless_front incs (map type_of ts) (ap are_mapless (sym h.kinds) ∙ bare.1)) (c.requires.there h) (some_there c.args.lines.now _ c.is_empty.ensures c.if-is_empty.false) (sym h.terms ∙ ap (table.terms_in (meaning_of p).functions) bare.0)

pub returns : goal.returns
returns c =
    let p = program_of c.args.program.now in
    let n = c.args.place.now.implementation in
    let w = c.args.prepared.now in
    let t = spot_of c.args.place.now.spot in
    slice_for p n w (lines_of c.args.lines.now) t c.in_ok-atoms.atoms _ (λ h. c.in_ok-atoms.ensures n h) refl refl c.in_ok-rows-2.ensures
