use Rattle.std.proofs.Common.{◌≡◌, Some, sym, ap, ◌∙◌}
use Rattle.std.specs.Prelude.{slice_get}
use Rattle.bg_term_table.specs.Views.{meanings, listed, term_of, terms_in}
use Rattle.bg_wanted.specs.Asked.{first_local, map_read_in}
use Rattle.bg_wanted.proofs.Rowed.{map_there, map_missing}
use Rattle.bg_wanted.proofs.updates.map_read.Goals as goal

pub returns-in-None : goal.returns-in-None
returns-in-None c =
    λ fs. sym (ap map_read_in (map_missing (term_of fs) c.args.looked.terms.now c.args.a c.in-None.ensures.lookup.3))

pub returns-in-Some : goal.returns-in-Some
returns-in-Some c =
    let t = c.in-Some.t.now in
    λ fs.
    let there : slice_get (terms_in fs c.args.looked.terms.now) c.args.a ≡ Some (term_of fs t) = map_there (term_of fs) c.args.looked.terms.now c.args.a t c.in-Some.ensures.lookup.3.0 (c.in-Some.ensures.lookup.3.1 t) in
    c.first_read.ensures
    ∙ (ap (λ l. first_local (listed (meanings l))) c.deref.ensures.value ∙ sym (ap map_read_in there))
