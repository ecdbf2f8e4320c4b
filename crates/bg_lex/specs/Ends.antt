-- Where a string or a comment ends.
use Rattle.std.specs.Prelude.{ℕ, ◌+◌, ◌-◌, List, [], ◌∷◌, Bool, true, false, Option, Some, None, ◌==◌, ◌&&◌, not, if◌then◌else◌}
use Rattle.bg_lex.specs.declared.quote.Quoting.{Quoting}
use Rattle.bg_lex.specs.declared.quote.Quoting.TheVariants.{Ends, Breaks, Goes}
use Rattle.bg_lex.specs.declared.comment.Half.{Half}
use Rattle.bg_lex.specs.declared.comment.Half.TheVariants.{Nothing, Opening, Closing}
use Rattle.bg_lex.specs.declared.comment.Inside.{Inside}

-- what a byte does in a string, a backslash standing before it or not
abbrev pub quote_step : Bool → ℕ → Quoting
quote_step escaped b =
    if not escaped && b == 34 then Ends else (if not escaped && b == 92 then Goes true else (if b == 10 then Breaks else Goes false))

-- the count, by what the next byte does
abbrev pub quote_on : ℕ → Quoting → (Bool → Option ℕ) → Option ℕ
quote_on i Ends more = Some (i + 1)
quote_on i Breaks more = None
quote_on i (Goes escaped) more = more escaped

-- the number of bytes to the end of the string, i being those before
abbrev pub quote_end : ℕ → Bool → List ℕ → Option ℕ
quote_end i escaped [] = None
quote_end i escaped (b ∷ bs) = quote_on i (quote_step escaped b) (λ e. quote_end (i + 1) e bs)

-- what a byte may begin: a slash an opening, a star a closing
abbrev pub begun_by : ℕ → Half
begun_by b = if b == 47 then Opening else (if b == 42 then Closing else Nothing)

abbrev pub is_opening : Half → Bool
is_opening Opening = true
is_opening _ = false

abbrev pub is_closing : Half → Bool
is_closing Closing = true
is_closing _ = false

-- where a comment stands behind one more byte, or nothing where that closes the outermost one
abbrev pub comment_step : Inside → ℕ → Option Inside
comment_step inside b =
    if is_opening inside.half && b == 42 then Some (record { depth = inside.depth + 1; half = Nothing })
    else (if is_closing inside.half && b == 47 then (if inside.depth == 0 then None else Some (record { depth = inside.depth - 1; half = Nothing }))
    else Some (record { depth = inside.depth; half = begun_by b }))

-- the count, by where the comment stands behind the next byte
abbrev pub comment_on : ℕ → Option Inside → (Inside → Option ℕ) → Option ℕ
comment_on i None more = Some (i + 1)
comment_on i (Some inside) more = more inside

-- the number of bytes to the end of the comment, i being those before
abbrev pub comment_end : ℕ → Inside → List ℕ → Option ℕ
comment_end i inside [] = None
comment_end i inside (b ∷ bs) = comment_on i (comment_step inside b) (λ s. comment_end (i + 1) s bs)
