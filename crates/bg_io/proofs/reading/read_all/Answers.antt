-- One file more leaves what the files after it add.
use Rattle.std.proofs.Common.{◌≡◌, ℕ, ◌+◌, ◌<◌, List, ◌∷◌, map, drop, length, Option, Some, None, string_bytes, refl, sym, ap, ◌∙◌, subst, arith, rules, IfSome}
use Rattle.bg_io.specs.Causes.{counted, joined_text}
use Rattle.bg_io.proofs.Texts.{too_long_handed, fault_handed, rose_before, counted-zero, counted-counted, pieces_from, pieces_from-zero, drop-map_at, one_more, too_long_with}
use Rattle.bg_io.proofs.reading.read_all.Goals as goal

nothing_yet : (contents : Option (List ℕ → List ℕ)) (names : List (List ℕ)) → IfSome contents (λ held. pieces_from 0 (map held names) ≡ joined_text held names)
nothing_yet None names = tt
nothing_yet (Some held) names = pieces_from-zero (map held names)

pub loop-file-init : goal.loop-file-init
loop-file-init g c = record {
  so_far = rw c.new-text.ensures.items (nothing_yet _ _);
  within = omega (arith, c.new-text.ensures.len);
  same = refl;
  starts = sym (counted-zero _);
  later = omega arith;
}

pub returns-in_err-append_named-clause-too_long : goal.returns-in_err-append_named-clause-too_long
returns-in_err-append_named-clause-too_long g c =
    too_long_handed (Unit {0}) _ _ _ c.in_err-append_named.field-0.0 c.from_residual.result c.from_residual.ensures.1 (λ (n : ℕ) h. h) c.in_err-append_named.ensures.too_long

pub returns-in_err-append_named-clause-fault : goal.returns-in_err-append_named-clause-fault
returns-in_err-append_named-clause-fault g c =
    fault_handed (Unit {0}) _ _ _ _ c.in_err-append_named.field-0.0 c.from_residual.result c.from_residual.ensures.1 (λ (n : ℕ) h k. rose_before _ _ _ c.loop-file.invariant.later h) c.in_err-append_named.ensures.fault c.in_err-append_named.ensures.file

pub returns-in_err-append_named-clause-file : goal.returns-in_err-append_named-clause-file
returns-in_err-append_named-clause-file g c =
    let starts : Option ℕ = g.F.Files.starts c.args.files.now in
    fault_handed (Unit {0}) _ _ _ _ c.in_err-append_named.field-0.0 c.from_residual.result c.from_residual.ensures.1
    (λ (n : ℕ) h k. h ∙ ap (λ s. counted s 1) c.loop-file.invariant.starts ∙ counted-counted starts c.loop-file.file 1 ∙ ap (λ (m : ℕ). counted starts (m + 1)) (sym k))
    c.in_err-append_named.ensures.started c.in_err-append_named.ensures.file

pub returns-in_err-append_named-clause-named : goal.returns-in_err-append_named-clause-named
returns-in_err-append_named-clause-named g c =
    let low : c.loop-file.file < length c.args.names.now = search rules in
    fault_handed (Unit {0}) _ _ _ _ c.in_err-append_named.field-0.0 c.from_residual.result c.from_residual.ensures.1
    (λ (n : ℕ) h k. subst (λ (m : ℕ). m < length c.args.names.now) (sym k) low)
    c.in_err-append_named.ensures.file c.in_err-append_named.ensures.file

pub returns-in_err-append_named-clause-longer : goal.returns-in_err-append_named-clause-longer
returns-in_err-append_named-clause-longer g c =
    let at : drop c.loop-file.file (map string_bytes c.args.names.now) ≡ c.as_str.result.now ∷ drop (c.loop-file.file + 1) (map string_bytes c.args.names.now) = rw c.as_str.ensures.value (drop-map_at string_bytes c.args.names.now c.loop-file.file c.index-names-file.result (search rules) c.index-names-file.is) in
    too_long_handed (Unit {0}) _ _ _ c.in_err-append_named.field-0.0 c.from_residual.result c.from_residual.ensures.1
    (λ (n : ℕ) h. too_long_with _ c.args.limit _ c.loop-file.text.items c.loop-file.file _ _ c.loop-file.text.ok.0 at c.loop-file.invariant.so_far h)
    (rw c.loop-file.invariant.same at c.in_err-append_named.ensures.longer)

pub loop-file-preserved : goal.loop-file-preserved
loop-file-preserved g c =
    let at : drop c.loop-file.file (map string_bytes c.args.names.now) ≡ c.as_str.result.now ∷ drop (c.loop-file.file + 1) (map string_bytes c.args.names.now) = rw c.as_str.ensures.value (drop-map_at string_bytes c.args.names.now c.loop-file.file c.index-names-file.result (search rules) c.index-names-file.is) in
    record {
      so_far = one_more _ _ _ c.loop-file.file _ _ at c.loop-file.invariant.so_far (rw c.loop-file.invariant.same at c.in_ok-append_named.ensures.ok);
      within = c.in_ok-append_named.ensures.fits;
      same = c.in_ok-append_named.ensures.same ∙ c.loop-file.invariant.same;
      starts = c.in_ok-append_named.ensures.starts ∙ ap (λ s. counted s 1) c.loop-file.invariant.starts ∙ counted-counted _ _ _;
      later = omega (arith, c.in_ok-append_named.ensures.later, c.loop-file.invariant.later);
    }
