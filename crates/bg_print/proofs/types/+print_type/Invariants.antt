use Rattle.std.proofs.Common.{◌≡◌, ◌++◌, drop}
use Rattle.bg_print.specs.Docs.{text, each, commas, commas_from}
use Rattle.bg_print.specs.Rows.{tree_type_doc, type_bracket_doc}
use Rattle.bg_print.proofs.types.+print_type.Given as goal

abbrev pub invariant-put_type_brackets-loop-bracket : goal.invariant-put_type_brackets-loop-bracket
invariant-put_type_brackets-loop-bracket l = l.out.items ++ text (each type_bracket_doc (drop l.bracket-index l.brackets)) ≡ l.fn.out.items ++ text (each type_bracket_doc l.brackets)

abbrev pub invariant-put_types-loop-ty : goal.invariant-put_types-loop-ty
invariant-put_types-loop-ty l = l.out.items ++ text (commas_from l.behind tree_type_doc (drop l.ty-index l.types)) ≡ l.fn.out.items ++ text (commas tree_type_doc l.types)
