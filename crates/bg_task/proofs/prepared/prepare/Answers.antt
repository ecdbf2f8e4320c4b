use Rattle.std.proofs.Common.{◌≡◌, ◌<◌, true, false, [], length, map, sym, ap, ◌∙◌, arith}
use Rattle.std.specs.Prelude.{is_some}
use Rattle.std.proofs.lemmas.List.{length-map}
use Rattle.bg_ast.specs.Meaning.{meaning_of, named_of}
use Rattle.bg_ast.specs.Meaning as mean
use Rattle.bg_ast.specs.Views.{program_of, impl_of}
use Rattle.bg_flatten.specs.Plain.{are_mapless}
use Rattle.bg_incarnate.specs.Views.{passive_block_of}
use Rattle.bg_block_types.specs.Typed.{incarnations_in}
use Rattle.bg_kinds.specs.Views.{ref_in}
use Rattle.bg_term_table.specs.Views as table
use Rattle.bg_term_table.specs.Views.{result_ty}
use Rattle.bg_task.proofs.LawTypes.{sort_law}
use Rattle.bg_task.proofs.Prepares.{there, many, impl_is, proc_is, passives_made, made_here, encodes_some, exact_some, listed_some, own_here, sorted_own}
use Rattle.bg_task.proofs.Preparing.{terms_are, flats_are, plain_here, no_functions, types_all, sorts_all, targets_all, behind_none}
use Rattle.bg_task.proofs.prepared.prepare.Goals as goal

pub unreachable-requires : goal.unreachable-requires
unreachable-requires c =
    let p = program_of c.args.program.now in
    let P = meaning_of p in
    let n = c.args.number in
    let e = length-map c.args.program.now.implementations.items impl_of in
    let l = c.requires.there in
    let lt : n < length p.implementations = omega (arith, e, l) in
    let t = there p n lt c.requires.typed in
    let m = mean.impl_of (named_of p.types) t.implementation in
    let q = mean.proc_of (named_of p.types) t.procedure in
    let im = impl_is p n t.implementation t.procedure t.impl_there t.proc_there in
    let pr = proc_is p n t.implementation t.procedure t.impl_there t.proc_there in
    let evens = c.blocks_over_values_are_even.ensures in
    let many_are : c.len.result ≡ length c.in_ok-frame.frame.items = omega (arith, c.len.ensures, c.in_ok-frame.frame.ok) in
    let made = c.in_ok-blocks.ensures t.implementation t.procedure t.impl_there t.proc_there in
    let frame = c.in_ok-frame.ensures t.implementation t.procedure t.impl_there t.proc_there in
    let x = made_here p n t.implementation t.procedure t.impl_there t.proc_there evens c.requires.typed c.requires.scalars c.in_ok-blocks.blocks.items made c.in_ok-frame.frame.items c.deref-2.result.now c.len.result c.deref.result.now c.deref-3.result.now c.in_ok-passive.passive (map ref_in c.in_ok-incarnations.incarnations.items) frame c.deref-2.ensures.value many_are c.deref.ensures.value c.deref-3.ensures.value
    (λ rs k. (c.in_ok-passive.ensures.arrivals rs k, (c.in_ok-passive.ensures.counted rs k, record { blocks = c.in_ok-passive.ensures.blocks rs k; firsts = c.in_ok-passive.ensures.firsts rs k }))) c.in_ok-incarnations.ensures.types in
    let ps = map passive_block_of c.in_ok-passive.passive.blocks.items in
    let passives = passives_made p n t.implementation t.procedure t.impl_there t.proc_there evens c.requires.typed c.requires.scalars c.in_ok-blocks.blocks.items made c.in_ok-passive.passive x.0 in
    let tabled = c.programs_over_values_are_tabled.ensures P c.requires.typed c.requires.scalars in
    let incs = map ref_in c.deref-4.result.now in
    let these : incs ≡ incarnations_in P n m q = ap (map ref_in) c.deref-4.ensures.value ∙ x.1.0 in
    let plain = λ (none : p.functions ≡ []) (mapless : are_mapless incs ≡ true). plain_here P n m q ps passives c.implementations_without_functions_stay.ensures.plain tabled im pr (ap are_mapless (sym these) ∙ mapless) (no_functions p none) in
    let gives : map ref_in c.deref-5.result.now ≡ map result_ty P.functions = ap (map ref_in) c.deref-5.ensures.value ∙ c.in_ok-results.ensures in
    let terms = terms_are P n m q incs ps these passives (table.terms_in P.functions c.in_ok-terms.field-0.terms.items) (c.in_ok-terms.ensures.terms plain P.functions gives) in
    let flats = flats_are P n m q incs ps these passives (map passive_block_of c.in_ok-terms.field-0.blocks.items) (c.in_ok-terms.ensures.blocks plain P.functions gives) in
    let kinds = types_all P n m q (map ref_in c.in_ok-incarnations.incarnations.items) (table.terms_in P.functions c.deref-7.result.now) (map ref_in c.in_ok-kinds.kinds.items) x.1.0 (ap (table.terms_in P.functions) c.deref-7.ensures.value ∙ terms) (c.in_ok-kinds.ensures P.functions (ap (map ref_in) c.deref-6.ensures.value ∙ c.in_ok-results.ensures)) in
    let sorts = sorts_all P n m q (map ref_in c.deref-8.result.now) c.in_ok-sorts.sorts.items (ap (map ref_in) c.deref-8.ensures.value ∙ kinds) c.in_ok-sorts.ensures in
    let blocks = behind_none P n m q (map passive_block_of c.deref-10.result.now) (ap (map passive_block_of) c.deref-10.ensures.value ∙ flats) in
    let law = sort_law c.passive_blocks_have_terms.ensures c.passive_blocks_are_linear.ensures c.blocks_behind_lines_are_sorted.ensures in
    let sorted = sorted_own law P n m q [] c.requires.typed c.requires.scalars im pr c.deref-9.result.now c.in_ok-candidates.candidates (map passive_block_of c.deref-10.result.now) (c.deref-9.ensures.value ∙ sorts) c.in_ok-candidates.ensures blocks in
    let bad : false ≡ true = sym (ap is_some c.in_default.is) ∙ (c.in_ok-atoms.ensures.none ∙ sorted) in
    cc

pub returns : goal.returns
returns c =
    let p = program_of c.args.program.now in
    let P = meaning_of p in
    let n = c.args.number in
    let e = length-map c.args.program.now.implementations.items impl_of in
    let l = c.requires.there in
    let lt : n < length p.implementations = omega (arith, e, l) in
    let t = there p n lt c.requires.typed in
    let m = mean.impl_of (named_of p.types) t.implementation in
    let q = mean.proc_of (named_of p.types) t.procedure in
    let im = impl_is p n t.implementation t.procedure t.impl_there t.proc_there in
    let pr = proc_is p n t.implementation t.procedure t.impl_there t.proc_there in
    let evens = c.blocks_over_values_are_even.ensures in
    let many_are : c.len.result ≡ length c.in_ok-frame.frame.items = omega (arith, c.len.ensures, c.in_ok-frame.frame.ok) in
    let made = c.in_ok-blocks.ensures t.implementation t.procedure t.impl_there t.proc_there in
    let frame = c.in_ok-frame.ensures t.implementation t.procedure t.impl_there t.proc_there in
    let x = made_here p n t.implementation t.procedure t.impl_there t.proc_there evens c.requires.typed c.requires.scalars c.in_ok-blocks.blocks.items made c.in_ok-frame.frame.items c.deref-2.result.now c.len.result c.deref.result.now c.deref-3.result.now c.in_ok-passive.passive (map ref_in c.in_ok-incarnations.incarnations.items) frame c.deref-2.ensures.value many_are c.deref.ensures.value c.deref-3.ensures.value
    (λ rs k. (c.in_ok-passive.ensures.arrivals rs k, (c.in_ok-passive.ensures.counted rs k, record { blocks = c.in_ok-passive.ensures.blocks rs k; firsts = c.in_ok-passive.ensures.firsts rs k }))) c.in_ok-incarnations.ensures.types in
    let ps = map passive_block_of c.in_ok-passive.passive.blocks.items in
    let passives = passives_made p n t.implementation t.procedure t.impl_there t.proc_there evens c.requires.typed c.requires.scalars c.in_ok-blocks.blocks.items made c.in_ok-passive.passive x.0 in
    let tabled = c.programs_over_values_are_tabled.ensures P c.requires.typed c.requires.scalars in
    let incs = map ref_in c.deref-4.result.now in
    let these : incs ≡ incarnations_in P n m q = ap (map ref_in) c.deref-4.ensures.value ∙ x.1.0 in
    let plain = λ (none : p.functions ≡ []) (mapless : are_mapless incs ≡ true). plain_here P n m q ps passives c.implementations_without_functions_stay.ensures.plain tabled im pr (ap are_mapless (sym these) ∙ mapless) (no_functions p none) in
    let gives : map ref_in c.deref-5.result.now ≡ map result_ty P.functions = ap (map ref_in) c.deref-5.ensures.value ∙ c.in_ok-results.ensures in
    let terms = terms_are P n m q incs ps these passives (table.terms_in P.functions c.in_ok-terms.field-0.terms.items) (c.in_ok-terms.ensures.terms plain P.functions gives) in
    let flats = flats_are P n m q incs ps these passives (map passive_block_of c.in_ok-terms.field-0.blocks.items) (c.in_ok-terms.ensures.blocks plain P.functions gives) in
    let kinds = types_all P n m q (map ref_in c.in_ok-incarnations.incarnations.items) (table.terms_in P.functions c.deref-7.result.now) (map ref_in c.in_ok-kinds.kinds.items) x.1.0 (ap (table.terms_in P.functions) c.deref-7.ensures.value ∙ terms) (c.in_ok-kinds.ensures P.functions (ap (map ref_in) c.deref-6.ensures.value ∙ c.in_ok-results.ensures)) in
    let sorts = sorts_all P n m q (map ref_in c.deref-8.result.now) c.in_ok-sorts.sorts.items (ap (map ref_in) c.deref-8.ensures.value ∙ kinds) c.in_ok-sorts.ensures in
    let blocks = behind_none P n m q (map passive_block_of c.deref-10.result.now) (ap (map passive_block_of) c.deref-10.ensures.value ∙ flats) in
    let encoding = encodes_some c.deref-9.result.now c.in_ok-candidates.candidates (map passive_block_of c.deref-10.result.now) c.in_ok-atoms.field-0 c.in-Some.atoms c.in-Some.is c.in_ok-atoms.ensures.first c.in_ok-atoms.ensures.terms c.in_ok-atoms.ensures.said c.in_ok-atoms.ensures.below c.in_ok-atoms.ensures.rows c.in_ok-atoms.ensures.denials c.in_ok-atoms.ensures.inside in
    let exact = exact_some c.deref-9.result.now (map passive_block_of c.deref-10.result.now) c.in_ok-atoms.field-0 c.in-Some.atoms c.in-Some.is c.in_ok-atoms.ensures.exact in
    let listed = listed_some c.deref-9.result.now (map passive_block_of c.deref-10.result.now) c.in_ok-atoms.field-0 c.in-Some.atoms c.in-Some.is c.in_ok-atoms.ensures.listed in
    let declared = many p n t.implementation t.procedure t.impl_there t.proc_there c.in_ok-frame.frame.items frame in
    record {
      implementation = t.implementation;
      procedure = t.procedure;
      impl_there = t.impl_there;
      proc_there = t.proc_there;
      frame = omega (arith, c.len-2.ensures, c.in_ok-frame.frame.ok.0, declared);
      blocks = made;
      firsts = x.0.firsts;
      count = x.1.1;
      terms = terms;
      flats =
          λ some. ap (λ v. map passive_block_of v.items) (c.kept-flats.ensures (λ bare. some (sym c.deref-11.ensures.value ∙ bare.0, ap are_mapless (sym (ap (map ref_in) c.deref-12.ensures.value)) ∙ bare.1))) ∙ flats;
      kinds = kinds;
      sorts = sorts;
      own = own_here P n m q [] c.deref-9.result.now c.in_ok-candidates.candidates (map passive_block_of c.deref-10.result.now) c.in-Some.atoms (c.deref-9.ensures.value ∙ sorts) c.in_ok-candidates.ensures blocks encoding exact listed;
      targets = targets_all P n m q (map ref_in c.deref-13.result.now) (table.terms_in P.functions c.deref-14.result.now) c.in_ok-targets.targets.items (ap (map ref_in) c.deref-13.ensures.value ∙ kinds) (ap (table.terms_in P.functions) c.deref-14.ensures.value ∙ terms) (c.in_ok-targets.ensures P.functions);
    }
