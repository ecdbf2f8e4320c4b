use Rattle.std.proofs.Common.{Some, sym, ap, ◌∙◌}
use Rattle.bg_ast.specs.Values.{MapTy}
use Rattle.bg_terms.specs.Typed.{types_with}
use Rattle.bg_terms.proofs.Heads.{kinds_same}
use Rattle.bg_kinds.specs.Views.{keys_of, ref_of}
use Rattle.bg_term_table.specs.Views.{terms_in, incs_of, seen_ty}
use Rattle.bg_wanted.proofs.Grouping.{its_map}
use Rattle.bg_wanted.proofs.named.is_map_of.Goals as goal

pub returns-in-None : goal.returns-in-None
returns-in-None c = λ fs give e. absurd (let bad : ⊥ = cc in bad)

pub returns-in-Some : goal.returns-in-Some
returns-in-Some c =
    let ks = keys_of c.args.keys.now in
    let t = ref_of c.args.gives in
    let ls = keys_of c.in-Some.others.now in
    let u = ref_of c.in-Some.values in
    λ fs give e.
    let same = kinds_same ks ls t u (sym c.is_one_type.ensures ∙ e) in
    its_map (types_with (incs_of c.args.around) (terms_in fs c.args.sight.terms.now)) c.args.b (seen_ty c.read_type.result) ls u (c.read_type.ensures fs give) c.in-Some.ensures
    ∙ (ap (λ l. Some (MapTy l u)) (sym same.0) ∙ ap (λ v. Some (MapTy ks v)) (sym same.1))
