use Rattle.std.proofs.Common.{List, map, codes, ap, ◌∙◌, ◌++◌}
use Rattle.bg_certtext.specs.declared.text.Entry.{Entry}
use Rattle.bg_certtext.specs.Views.{value_of, entry_of}
use Rattle.bg_certtext.specs.Texts.{table_text}
use Rattle.bg_certtext.proofs.Written.{named_written}
use Rattle.bg_certtext.proofs.functions.put_function.Goals as goal

pub returns : goal.returns
returns c =
    let f = c.args.function.now in
    let table = c.in_ok-put_table.ensures ∙ ap (λ (es : List Entry). c.extend_from_slice-2.new.self.items ++ table_text (map entry_of es) (value_of f.default)) c.deref.ensures.value in
    named_written c.args.out.now.items (codes "function") f.name.now (table_text (map entry_of f.entries.items) (value_of f.default)) c.extend_from_slice.new.self.items c.put_word.new.out.items c.extend_from_slice-2.new.self.items c.put_table.new.out.items c.push.new.self.items
    c.in_ok-extend_from_slice.ensures.items c.in_ok-put_word.ensures c.in_ok-extend_from_slice-2.ensures.items table c.in_ok-push.ensures.items
