use Rattle.bg_terms.specs.Typed.{types_with}
use Rattle.bg_kinds.specs.Views.{keys_of, ref_of}
use Rattle.bg_term_table.specs.Views.{terms_in, incs_of, seen_ty}
use Rattle.bg_wanted.proofs.Grouping.{no_map, its_map, a_map}
use Rattle.bg_wanted.proofs.names.put_value.Goals as goal

pub returns-in-None : goal.returns-in-None
returns-in-None c =
    λ fs s give value all.
    no_map s (types_with (incs_of c.args.around) (terms_in fs c.args.terms.now)) c.args.groups.now.items c.args.j (seen_ty c.read_type.result) (c.read_type.ensures fs give) c.in-None.ensures all

pub returns-in_ok-put_map-in-Some : goal.returns-in_ok-put_map-in-Some
returns-in_ok-put_map-in-Some c =
    let ks = keys_of c.in-Some.keys.now in
    let t = ref_of c.in-Some.gives in
    λ fs s give value all.
    let tys = types_with (incs_of c.args.around) (terms_in fs c.args.terms.now) in
    let is = its_map tys c.args.j (seen_ty c.read_type.result) ks t (c.read_type.ensures fs give) c.in-Some.ensures in
    a_map s tys c.args.groups.now.items c.put_map.new.groups.items c.args.j ks t is (c.in_ok-put_map-in-Some.ensures s tys is value all)
