use Rattle.std.proofs.Common.{◌≡◌, length, sym, ap, ◌∙◌, arith}
use Rattle.std.proofs.lemmas.List.{length-map}
use Rattle.bg_kinds.specs.Views.{key_of, keys_of, ref_in}
use Rattle.bg_numbered.specs.Lines.{reads_from}
use Rattle.bg_term_table.specs.Views.{meanings, listed, terms_in}
use Rattle.bg_term_table.specs.Brought.{read_list}
use Rattle.bg_term_table.proofs.Bringing.{read_same, two_selects}
use Rattle.bg_term_table.proofs.bring.put_names.Goals as goal

pub returns : goal.returns
returns c =
    let maps = c.args.maps.now in
    let ks = keys_of maps.keys in
    let first = c.args.first in
    let index = c.in_ok-index.index.items in
    let keys = maps.keys.keys.items in
    let many : c.len.result ≡ length ks = omega (arith, c.len.ensures, maps.keys.keys.ok.0, length-map keys key_of) in
    let reads : listed (meanings index) ≡ reads_from first ks =
    c.in_ok-index.ensures ∙ ap (read_list first) many ∙ sym (read_same first ks) in
    λ fs.
    two_selects ks (ref_in maps.gives) first c.args.m c.args.o _ _ (terms_in fs c.args.terms.now.items) (terms_in fs c.put_parts.new.terms.items) (terms_in fs c.put_select.new.terms.items) (terms_in fs c.put_select-2.new.terms.items) (c.in_ok-put_parts.ensures fs) (c.in_ok-put_select.ensures fs) (c.in_ok-put_select-2.ensures fs) (ap (λ l. listed (meanings l)) c.deref.ensures.value ∙ reads) (ap (λ l. listed (meanings l)) c.deref-2.ensures.value ∙ reads)
