use Rattle.std.proofs.Common.{◌≡◌, length, map, ap, ◌++◌, ◌∙◌, arith}
use Rattle.std.proofs.lemmas.List.{length-map, map-append}
use Rattle.bg_ast.specs.Views.{ex_of, const_of, fun_of, declared_of, proc_of, impl_of, program_of}
use Rattle.bg_opened.specs.Unique.{unique_pairs}
use Rattle.bg_opened.specs.Written as w
use Rattle.bg_opening.specs.Constants.{constants_in}
use Rattle.bg_opening.proofs.OpenedWhole.{whole_is}
use Rattle.bg_opening.proofs.whole.open_program.Goals as goal

pub returns : goal.returns
returns c =
    let q = c.args.program in
    let p = program_of q in
    let size = length-map q.globals.items declared_of in
    let many : c.in-Ok.globals ≡ length p.globals = omega (arith, c.in-Ok.ensures, c.len.ensures, size) in
    let told : map ex_of c.deref-4.result.now ≡ w.claims p =
    ap (map ex_of) c.deref-4.ensures.value
    ∙ c.in_ok-told.ensures
    ∙ ap (λ ts. map w.apart (unique_pairs (constants_in ts c.deref-3.result.now)) ++ map ex_of q.axioms.items) c.deref-2.ensures.value
    ∙ ap (λ cs. map w.apart (unique_pairs (constants_in q.types.items cs)) ++ map ex_of q.axioms.items) c.deref-3.ensures.value in
    let globals : map declared_of c.append.new.self.items ≡ p.globals ++ map w.global_for p.constants =
    ap (map declared_of) c.in_ok-append.ensures.items
    ∙ map-append declared_of q.globals.items c.in_ok-more.more.items
    ∙ ap (λ l. map declared_of q.globals.items ++ l) (c.in_ok-more.ensures ∙ ap (λ l. map w.global_for (map const_of l)) c.deref-5.ensures.value) in
    whole_is c.args.depth c.in-Ok.globals p (map fun_of c.deref.result.now) (map ex_of c.deref-4.result.now) (map const_of c.new.result.items) (map declared_of c.append.new.self.items) (map fun_of c.without_bodies.new.fs.items) (map ex_of c.new-2.result.items) (map proc_of c.open_procedures.new.qs.items) (map impl_of c.open_implementations.new.ms.items) many (ap (map fun_of) c.deref.ensures.value) told (ap (map const_of) c.new.ensures.items) c.without_bodies.ensures (ap (map ex_of) c.new-2.ensures.items) globals c.in_ok-open_procedures.ensures c.in_ok-open_implementations.ensures
