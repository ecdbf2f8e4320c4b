use Rattle.std.proofs.Common.{◌<◌, length, map, ap, ◌∙◌, arith}
use Rattle.std.proofs.lemmas.List.{length-map}
use Rattle.bg_kinds.specs.Views.{key_of, keys_of, ref_in}
use Rattle.bg_term_table.specs.Views.{meanings, listed, term_of, terms_in}
use Rattle.bg_term_table.specs.declared.table.Head.TheVariants as head
use Rattle.bg_term_table.proofs.Loops.{read_last}
use Rattle.bg_term_table.proofs.Bringing.{part_put}
use Rattle.bg_term_table.proofs.bring.put_parts.Goals as goal

pub loop-j-preserved : goal.loop-j-preserved
loop-j-preserved c =
    let ks = keys_of c.args.maps.now.keys in
    let t = ref_in c.args.maps.now.gives in
    let j = c.loop-j.j in
    let own = c.in_ok-own.own in
    let ty = c.in_ok-ty.ty in
    let part = c.in_ok-part.part in
    let args = c.in_ok-args.args in
    let less : j < length ks = omega (arith, c.loop-j-test.true, c.loop-j.auto.j-end, c.len-j-end.ensures, length-map c.args.maps.now.keys.keys.items key_of) in
    λ fs.
    part_put fs ks t c.args.m c.args.o j (terms_in fs c.loop-j.terms.items) (terms_in fs c.push.new.self.items) (keys_of own) (ref_in ty) part (listed (meanings args.items)) less (read_last (term_of fs) c.push.new.self.items c.loop-j.terms.items (record { head = head.Differs own ty part; args = args }) c.in_ok-push.ensures.items) (c.in_ok-own.ensures ∙ ap (map key_of) c.deref.ensures.value) (c.in_ok-ty.ensures ∙ c.as_ref.ensures) c.in_ok-part.ensures c.in_ok-args.ensures
    ∙ c.loop-j.invariant fs
