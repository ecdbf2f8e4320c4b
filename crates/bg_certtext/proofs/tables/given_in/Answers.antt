use Rattle.std.proofs.Common.{ℕ, List, [], Bool, ◌&&◌, Bor, get_or, sym, ap, ◌∙◌, arith}
use Rattle.std.specs.Prelude.{option_map}
use Rattle.bg_certtext.specs.Views.{value_of}
use Rattle.bg_certtext.specs.Spellable.{is_empty, is_name}
use Rattle.bg_certtext.specs.Machine.{when}
use Rattle.bg_certtext.specs.Got.{value_got}
use Rattle.bg_certtext.proofs.ReadsGivens.{given_for, given_short, given_long, given_none, given_some, empty_length, and_false}
use Rattle.bg_certtext.proofs.tables.given_in.Goals as goal

abbrev text : Bor (List ℕ) → List ℕ
text w = w.now

abbrev none : Bor (List ℕ)
none = record { ref_ptr = (0, 0); now = [] }

pub returns-in_default : goal.returns-in_default
returns-in_default c = sym (given_short text c.args.words.now c.in_default.len_below)

pub returns-in_default-2 : goal.returns-in_default-2
returns-in_default-2 c =
    let ws = c.args.words.now in
    let rest = c.behind_word.result.now in
    sym (given_long text none ws c.args.bytes.now rest c.in-len2-up.len_at_least (c.requires (omega (arith, c.in-len2-up.len_at_least))) c.behind_word.ensures
    ∙ given_none (text (get_or ws 0 none)) rest (sym c.in_ok-value.ensures ∙ ap (option_map value_got) c.in_default-2.is))

pub returns-then-not-is_empty : goal.returns-then-not-is_empty
returns-then-not-is_empty c =
    let ws = c.args.words.now in
    let name = text (get_or ws 0 none) in
    let rest = c.behind_word.result.now in
    let left = c.in-Some.rest.now in
    let v = value_of c.in-Some.value in
    sym (given_long text none ws c.args.bytes.now rest c.in-len2-up.len_at_least (c.requires (omega (arith, c.in-len2-up.len_at_least))) c.behind_word.ensures
    ∙ (given_some name rest left v (sym c.in_ok-value.ensures ∙ ap (option_map value_got) c.in-Some.is)
    ∙ ap (λ (b : Bool). when (b && is_name name) (given_for name v)) (empty_length left ∙ (sym c.is_empty.ensures ∙ c.if-not-is_empty.true))))

pub returns-then-is_name : goal.returns-then-is_name
returns-then-is_name c =
    let ws = c.args.words.now in
    let name = text (get_or ws 0 none) in
    let rest = c.behind_word.result.now in
    let left = c.in-Some.rest.now in
    let v = value_of c.in-Some.value in
    sym (given_long text none ws c.args.bytes.now rest c.in-len2-up.len_at_least (c.requires (omega (arith, c.in-len2-up.len_at_least))) c.behind_word.ensures
    ∙ (given_some name rest left v (sym c.in_ok-value.ensures ∙ ap (option_map value_got) c.in-Some.is)
    ∙ (ap (λ (b : Bool). when (b && is_name name) (given_for name v)) (empty_length left ∙ (sym c.is_empty.ensures ∙ c.if-not-is_empty.false))
    ∙ ap (λ (b : Bool). when b (given_for name v)) (sym c.is_name.ensures ∙ c.if-is_name.true))))

pub returns : goal.returns
returns c =
    let ws = c.args.words.now in
    let name = text (get_or ws 0 none) in
    let rest = c.behind_word.result.now in
    let left = c.in-Some.rest.now in
    let v = value_of c.in-Some.value in
    sym (given_long text none ws c.args.bytes.now rest c.in-len2-up.len_at_least (c.requires (omega (arith, c.in-len2-up.len_at_least))) c.behind_word.ensures
    ∙ (given_some name rest left v (sym c.in_ok-value.ensures ∙ ap (option_map value_got) c.in-Some.is)
    ∙ ap (λ (b : Bool). when b (given_for name v)) (and_false (is_empty left) (is_name name) (sym c.is_name.ensures ∙ c.if-is_name.false))))
