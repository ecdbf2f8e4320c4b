-- The clauses of blocks, from the last block back.
use Rattle.std.specs.Prelude.{ℕ, suc, Bool, true, false, List, [], ◌∷◌, ◌++◌, Option}
use Rattle.bg_ast.specs.Execution.{Spot}
use Rattle.bg_formed.specs.Formed.{FormBlock}
use Rattle.bg_formula.specs.declared.atom.Literal.{Literal}
use Rattle.bg_forms.specs.Forms.{Form, Plain, Is, is_true}
use Rattle.bg_clause.specs.Failing.{fail_block}
use Rattle.bg_clause.specs.Emitted.{denies, after, emitted}

-- for each block the form that says that it fails, the clauses, and the next free number of an atom
pub record Told : Type 0 where
  pub fails : List Form
  pub clauses : List (List Literal)
  pub next : ℕ

-- a form that needs no atom in its place
abbrev pub is_short : Form → Bool
is_short (Plain b) = true
is_short (Is l) = true
is_short f = false

-- one more block in front: a form that is not short has an atom in its place, which implies it
abbrev pub told_by : Bool → Form → Told → Told
told_by true f s = record s { fails = f ∷ s.fails }
told_by false f s =
    record {
      fails = is_true s.next ∷ s.fails;
      clauses = s.clauses ++ emitted (denies s.next ∷ []) f (suc s.next);
      next = after f (suc s.next);
    }

-- nothing is told yet, and the numbers from a on are free
abbrev pub nothing : ℕ → Told
nothing a = record { fails = []; clauses = []; next = a }

-- what is told of blocks in front of others
abbrev pub told : List (Option ℕ) → Spot → Told → List FormBlock → Told
told cs t s [] = s
told cs t s (b ∷ bs) =
    let d = told cs t s bs in let f = fail_block cs t d.fails b in told_by (is_short f) f d

-- this form is true
abbrev pub with_entry : Form → Told → Told
with_entry f s = record s { clauses = s.clauses ++ emitted [] f s.next; next = after f s.next }

-- the first block fails
abbrev pub entry_told : List (Option ℕ) → Spot → ℕ → List FormBlock → Told
entry_told cs t a [] = with_entry (Plain false) (nothing a)
entry_told cs t a (b ∷ bs) = let s = told cs t (nothing a) bs in with_entry (fail_block cs t s.fails b) s
