use Rattle.std.proofs.Common.{◌≡◌, Some, sym, ap, ◌∙◌, subst, arith}
use Rattle.std.specs.Prelude.{slice_get}
use Rattle.bg_kinds.specs.Views.{keys_of, ref_of}
use Rattle.bg_wanted.specs.declared.names.Group.{Group}
use Rattle.bg_wanted.specs.Alike.{is_group, NoGroup, IsGroupAt}
use Rattle.bg_wanted.proofs.Grouping.{group_below, item_is, groups_set, groups_more}
use Rattle.bg_wanted.proofs.names.put_map.Goals as goal

pub index_mut-requires : goal.index_mut-requires
index_mut-requires c =
    let ks = keys_of c.args.keys.now in
    let t = ref_of c.args.gives in
    let low = group_below c.args.groups.now.items c.in-Some.i ks t (subst (λ l. IsGroupAt l c.in-Some.i ks t) c.deref.ensures.value c.in-Some.ensures) in
    let ok = c.args.groups.now.ok.0 in
    omega (arith, low, ok)

pub returns-in_ok-put-in-Some : goal.returns-in_ok-put-in-Some
returns-in_ok-put-in-Some c =
    let ks = keys_of c.args.keys.now in
    let t = ref_of c.args.gives in
    let gs = c.args.groups.now.items in
    let at = subst (λ l. IsGroupAt l c.in-Some.i ks t) c.deref.ensures.value c.in-Some.ensures in
    let g = c.index_mut.result.now in
    let same = item_is gs c.in-Some.i g at.0 at.1.0 c.index_mut.ensures.value in
    let there : slice_get gs c.in-Some.i ≡ Some g = at.1.0 ∙ ap (λ (x : Group). Some x) (sym same) in
    λ s tys is value all.
    groups_set s tys gs c.args.number ks t is all c.in-Some.i g c.put.new.group there (ap (λ (x : Group). is_group x ks t) same ∙ at.1.1) c.in_ok-put-in-Some.ensures.keys c.in_ok-put-in-Some.ensures.gives c.in_ok-put-in-Some.ensures.numbers (c.in_ok-put-in-Some.ensures.scalars s value (all.each c.in-Some.i g there))

pub returns-in_ok-push-in-None : goal.returns-in_ok-push-in-None
returns-in_ok-push-in-None c =
    let ks = keys_of c.args.keys.now in
    let t = ref_of c.args.gives in
    let gs = c.args.groups.now.items in
    let missing = subst (λ l. NoGroup l ks t) c.deref.ensures.value c.in-None.ensures in
    let w = c.in_ok-group-in-None.group in
    λ s tys is value all.
    groups_more s tys gs c.args.number ks t is all w missing c.in_ok-group-in-None.ensures.keys c.in_ok-group-in-None.ensures.gives (c.in_ok-group-in-None.ensures.scalars s value) c.in_ok-group-in-None.ensures.numbers _ c.in_ok-push-in-None.ensures.items
