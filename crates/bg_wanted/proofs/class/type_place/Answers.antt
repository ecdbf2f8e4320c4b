use Rattle.std.proofs.Common.{sym, ap, ◌∙◌}
use Rattle.bg_kinds.specs.Views.{keys_of, ref_of}
use Rattle.bg_term_table.specs.Views.{terms_in}
use Rattle.bg_wanted.specs.Classes.{first_met}
use Rattle.bg_wanted.proofs.ClassLaws.{met_known, met_pushed, place_met, place_new}
use Rattle.bg_wanted.proofs.class.type_place.Goals as goal

pub returns-in-Some : goal.returns-in-Some
returns-in-Some c =
    let met = c.args.met.now.items in
    let ks = keys_of c.args.keys.now in
    let t = ref_of c.args.gives in
    record {
      place =
          λ fs.
          place_met (terms_in fs c.args.terms.now) c.args.place met ks t c.in-Some.m (c.requires.met fs)
          (ap (first_met (terms_in fs c.args.terms.now) ks t) (sym c.deref.ensures.value) ∙ (sym (c.found.ensures fs) ∙ c.in-Some.is));
      met =
          λ fs.
          met_known (terms_in fs c.args.terms.now) c.args.place met ks t c.in-Some.m (c.requires.met fs) (c.requires.there fs)
          (ap (first_met (terms_in fs c.args.terms.now) ks t) (sym c.deref.ensures.value) ∙ (sym (c.found.ensures fs) ∙ c.in-Some.is));
    }

pub returns-in_ok-push-in-None : goal.returns-in_ok-push-in-None
returns-in_ok-push-in-None c =
    let met = c.args.met.now.items in
    let ks = keys_of c.args.keys.now in
    let t = ref_of c.args.gives in
    record {
      place =
          λ fs.
          place_new (terms_in fs c.args.terms.now) c.args.place met ks t (c.requires.met fs) (c.requires.there fs)
          (ap (first_met (terms_in fs c.args.terms.now) ks t) (sym c.deref.ensures.value) ∙ (sym (c.found.ensures fs) ∙ c.in-None.is));
      met =
          λ fs.
          met_pushed (terms_in fs c.args.terms.now) c.args.place met c.push.new.self.items c.in_ok-push-in-None.ensures.items (c.requires.met fs);
    }
