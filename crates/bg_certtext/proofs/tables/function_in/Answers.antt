use Rattle.std.proofs.Common.{ℕ, List, [], Bor, get_or, sym, ap, ◌∙◌, arith}
use Rattle.std.specs.Prelude.{option_map}
use Rattle.bg_certtext.specs.Views.{value_of}
use Rattle.bg_certtext.specs.Machine.{RowsOf}
use Rattle.bg_certtext.specs.Got.{table_got, pairs_of}
use Rattle.bg_certtext.specs.Views.{ValueOf}
use Rattle.bg_certtext.proofs.ReadsGivens.{empty_length}
use Rattle.bg_certtext.proofs.ReadsFunctions.{function_short, function_long, function_none, function_some, function_made, function_left}
use Rattle.bg_certtext.proofs.tables.function_in.Goals as goal

abbrev text : Bor (List ℕ) → List ℕ
text w = w.now

abbrev none : Bor (List ℕ)
none = record { ref_ptr = (0, 0); now = [] }

pub returns-in_default : goal.returns-in_default
returns-in_default c = sym (function_short text c.args.words.now c.in_default.len_below)

pub returns-in_default-2 : goal.returns-in_default-2
returns-in_default-2 c =
    let ws = c.args.words.now in
    let rest = c.behind_word.result.now in
    sym (function_long text none ws c.args.bytes.now rest c.in-len2-up.len_at_least (c.requires (omega (arith, c.in-len2-up.len_at_least))) c.behind_word.ensures
    ∙ function_none (text (get_or ws 0 none)) rest (sym c.in_ok-entries.ensures ∙ ap (option_map table_got) c.in_default-2.is))

pub returns-then-not-is_empty : goal.returns-then-not-is_empty
returns-then-not-is_empty c =
    let ws = c.args.words.now in
    let name = text (get_or ws 0 none) in
    let rest = c.behind_word.result.now in
    let left = c.in-Some.rest.now in
    let s : RowsOf (List ValueOf) = record { entries = pairs_of c.in-Some.entries.items; default = value_of c.in-Some.default; rest = left } in
    sym (function_long text none ws c.args.bytes.now rest c.in-len2-up.len_at_least (c.requires (omega (arith, c.in-len2-up.len_at_least))) c.behind_word.ensures
    ∙ (function_some name rest s (sym c.in_ok-entries.ensures ∙ ap (option_map table_got) c.in-Some.is)
    ∙ function_left name s (empty_length left ∙ (sym c.is_empty.ensures ∙ c.if-not-is_empty.true))))

pub returns : goal.returns
returns c =
    let ws = c.args.words.now in
    let name = text (get_or ws 0 none) in
    let rest = c.behind_word.result.now in
    let left = c.in-Some.rest.now in
    let s : RowsOf (List ValueOf) = record { entries = pairs_of c.in-Some.entries.items; default = value_of c.in-Some.default; rest = left } in
    c.function_for.ensures
    ∙ sym (function_long text none ws c.args.bytes.now rest c.in-len2-up.len_at_least (c.requires (omega (arith, c.in-len2-up.len_at_least))) c.behind_word.ensures
    ∙ (function_some name rest s (sym c.in_ok-entries.ensures ∙ ap (option_map table_got) c.in-Some.is)
    ∙ function_made name left c.in-Some.entries.items (value_of c.in-Some.default) (empty_length left ∙ (sym c.is_empty.ensures ∙ c.if-not-is_empty.false))))
