use Rattle.std.proofs.Common.{◌≡◌, List, map, sym, ap, ◌∙◌, subst, inl, true}
use Rattle.std.specs.Prelude.{Some, None, option_map}
use Rattle.bg_text.specs.Views.{id_of, option_of}
use Rattle.bg_ast.specs.Meaning.{meaning_of}
use Rattle.bg_ast.specs.Views.{program_of, candidate_of}
use Rattle.bg_cert.specs.Walks.{has}
use Rattle.bg_block_types.specs.Typed.{incarnations_in}
use Rattle.bg_places.specs.Views.{placed_of, spot_of}
use Rattle.bg_numbered.specs.Lines.{are_there}
use Rattle.bg_term_table.specs.declared.line.Line as code
use Rattle.bg_term_table.specs.Lines.{lines_of}
use Rattle.bg_termed.specs.Termed.{terms_in}
use Rattle.bg_task.proofs.Prepares.{impl, proc}
use Rattle.bg_certtext.specs.Views.{section_of}
use Rattle.bg_accept.specs.Lines.{lines_in}
use Rattle.bg_accept.proofs.Stating.{named_there, names_here}
use Rattle.bg_accept.proofs.Settled.{settled_so}
use Rattle.bg_accept.proofs.places.shows.Goals as goal

pub shows_behind-requires-clause-there : goal.shows_behind-requires-clause-there
shows_behind-requires-clause-there c h =
    let q = c.args.question in
    let p = program_of q.program.now in
    let n = q.place.now.implementation in
    let w = q.prepared.now in
    let incs = incarnations_in (meaning_of p) n (impl p n w h) (proc p n w h) in
    let ts = terms_in (meaning_of p) n (impl p n w h) (proc p n w h) in
    let ss = (section_of c.args.section.now).stated in
    let said : lines_in incs ts ss ≡ Some (lines_of c.in-Some.lines.items) =
    ap (lines_in incs ts) (sym c.deref.ensures.value)
    ∙ (sym (c.in_ok-lines_in.ensures n h) ∙ ap (option_map (λ v. lines_of v.items)) c.in-Some.is) in
    subst (λ (l : List code.Line). are_there incs ts (lines_of l) ≡ true) (sym c.deref-in-Some.ensures.value) (named_there incs ts ss (lines_of c.in-Some.lines.items) said)

pub returns-in-None : goal.returns-in-None
returns-in-None c =
    let q = c.args.question in
    let p = program_of q.program.now in
    let n = q.place.now.implementation in
    let w = q.prepared.now in
    let h = c.requires.prepared in
    let incs = incarnations_in (meaning_of p) n (impl p n w h) (proc p n w h) in
    let ts = terms_in (meaning_of p) n (impl p n w h) (proc p n w h) in
    let ss = (section_of c.args.section.now).stated in
    let said : lines_in incs ts ss ≡ None =
    ap (lines_in incs ts) (sym c.deref.ensures.value)
    ∙ (sym (c.in_ok-lines_in.ensures n h) ∙ ap (option_map (λ v. lines_of v.items)) c.in-None.is) in
    inl (names_here p n w h (spot_of q.place.now.spot) (option_of candidate_of q.place.now.candidate) ss None said)

pub returns-in-Some : goal.returns-in-Some
returns-in-Some c =
    let q = c.args.question in
    let p = program_of q.program.now in
    let n = q.place.now.implementation in
    let w = q.prepared.now in
    let h = c.requires.prepared in
    let incs = incarnations_in (meaning_of p) n (impl p n w h) (proc p n w h) in
    let ts = terms_in (meaning_of p) n (impl p n w h) (proc p n w h) in
    let ss = (section_of c.args.section.now).stated in
    let ls = lines_of c.deref-in-Some.result.now in
    let said : lines_in incs ts ss ≡ Some ls =
    ap (lines_in incs ts) (sym c.deref.ensures.value)
    ∙ (sym (c.in_ok-lines_in.ensures n h)
    ∙ (ap (option_map (λ v. lines_of v.items)) c.in-Some.is ∙ ap (λ (l : List code.Line). Some (lines_of l)) (sym c.deref-in-Some.ensures.value))) in
    settled_so (meaning_of p) (has q.set.now) (map id_of c.args.numbers.now.candidates.now) (section_of c.args.section.now) (placed_of q.place.now).place ls
    (names_here p n w h (spot_of q.place.now.spot) (option_of candidate_of q.place.now.candidate) ss (Some ls) said)
    c.shows_behind.result c.shows_behind.ensures
