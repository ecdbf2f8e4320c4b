-- Clauses, and the candidates that guard them.
use Rattle.std.specs.Prelude.{ℕ, ◌+◌, Bool, true, false, List, [], ◌∷◌, Option, Some, None}
use Rattle.bg_text.specs.declared.expr.InfixSign.TheVariants as sign
use Rattle.bg_text.specs.Trees as t
use Rattle.bg_ast.specs.Resolved as r
use Rattle.bg_names.specs.declared.scope.Meaning.{Meaning}
use Rattle.bg_names.specs.declared.scope.Meaning.TheVariants as means
use Rattle.bg_names.specs.Faults.{Fault}
use Rattle.bg_names.specs.Spaces.{Scope, meaning}
use Rattle.bg_names.specs.Exprs.{ex_faults, named_ex}

-- an expression without the parentheses around it
abbrev pub bare : t.Ex → t.Ex
bare (t.Parens p e) = bare e
bare e = e

abbrev pub candidate_in : Meaning → Option ℕ
candidate_in (means.Candidate k) = Some k
candidate_in _ = None

-- the candidate that an expression names
abbrev pub candidate_of : Scope → t.Ex → Option ℕ
candidate_of s (t.Named p x) = candidate_in (meaning s x)
candidate_of s _ = None

-- a candidate, and the operands behind it and `==>`
abbrev pub Guarded : Type 0
Guarded = ℕ × t.Ex × t.Links

abbrev pub with_rest : t.Ex → t.Links → Option ℕ → Option Guarded
with_rest e ls (Some k) = Some (k, e, ls)
with_rest e ls None = None

-- the candidate before the outermost `==>` of an expression that isn't in parentheses
abbrev pub guard_in : Scope → t.Ex → Option Guarded
guard_in s (t.Chain a (t.Link p sign.Implies e ls)) = with_rest e ls (candidate_of s (bare a))
guard_in s _ = None

abbrev pub guard_unless : Bool → Scope → t.Ex → Option Guarded
guard_unless true s e = None
guard_unless false s e = guard_in s (bare e)

-- the candidate that guards a clause; a free clause has none
abbrev pub guard_of : Scope → t.Clause → Option Guarded
guard_of s k = guard_unless k.is_free s k.says

abbrev pub chain_of : t.Ex → t.Links → t.Ex
chain_of e t.NoLink = e
chain_of e (t.Link p x a ls) = t.Chain e (t.Link p x a ls)

abbrev pub said : Option Guarded → t.Ex → t.Ex
said (Some g) e = chain_of g.1 g.2
said None e = e

abbrev pub guarding : Option Guarded → Option ℕ
guarding (Some g) = Some g.0
guarding None = None

-- what a clause says behind its candidate
abbrev pub says_of : Scope → t.Clause → t.Ex
says_of s k = said (guard_of s k) k.says

abbrev pub clause_faults : Scope → t.Clause → List Fault
clause_faults s k = ex_faults s (says_of s k)

-- the clause with this number
abbrev pub named_clause : Scope → ℕ → t.Clause → r.Clause
named_clause s n k =
    record {
      pos = k.pos;
      id = n;
      is_free = k.is_free;
      candidate = guarding (guard_of s k);
      says = named_ex s (says_of s k);
    }

-- clauses with numbers from n on
abbrev pub named_clauses : Scope → ℕ → List t.Clause → List r.Clause
named_clauses s n [] = []
named_clauses s n (k ∷ ks) = named_clause s n k ∷ named_clauses s (n + 1) ks
