-- A table for each function, by what its applications are worth.
use Rattle.std.proofs.Common.{◌≡◌, ℕ, zero, suc, ◌+◌, true, List, [], ◌∷◌, length, Some, None, refl, sym, ap, ◌∙◌, arith}
use Rattle.std.specs.Prelude.{slice_get, not, ◌||◌, IsTrue}
use Rattle.bg_ast.specs.Values.{Val, Ty, Table}
use Rattle.bg_ast.specs.Syntax.{Fun}
use Rattle.bg_ast.specs.Execution.{Interp}
use Rattle.bg_sense.specs.Eval.{look_up, entry_for, body_of, default_for, default_result}
use Rattle.bg_sense.specs.Types.{are_of}
use Rattle.bg_sense.specs.Tables.{has_body, is_blank, is_table, is_table_of, are_tables}
use Rattle.bg_sense.proofs.Bools.{both}
use Rattle.bg_sense.proofs.TableForms.{normal_form}
use Rattle.bg_sense.proofs.TypedRuns.{default_typed}
use Rattle.bg_terms.specs.Terms.{Applies, Term}
use Rattle.bg_terms.specs.Flat.{HaveNoBodies}
use Rattle.bg_terms.specs.Tables.{entries_of, IsReadOff}
use Rattle.bg_terms.specs.Typed.{types_with, TermsTyped}
use Rattle.bg_read_off.specs.Leaves.{silent}
use Rattle.bg_read_off.proofs.Entries.{all_typed, entries_typed, no_entries}

bodiless : (f : Fun) (t : Table) → f.body ≡ None → is_table f t ≡ true → is_table_of f t ≡ true
bodiless f t e h =
    both (is_table f t) (not (has_body f.body) || is_blank f t) h (ap (λ b. not (has_body b) || is_blank f t) e)

module _ (fs : List Fun) (none : HaveNoBodies fs) (incs : List Ty) (ts : List Term) (terms : TermsTyped fs incs ts) (w : List Val) (typed : are_of (types_with incs ts) w ≡ true) where
  abbrev n : ℕ
  n = length incs

  -- what a function gives
  abbrev told : ℕ → List Val → Val
  told f args = entry_for (entries_of (Applies f) w n ts) args (default_result (slice_get fs f))

  -- tables for these functions, the first of which has number k
  record Tables (k : ℕ) (gs : List Fun) : Type 0 where
    tables : List Table
    are : are_tables gs tables ≡ true
    give : (j : ℕ) (args : List Val) → look_up (slice_get tables j) args ≡ told (k + j) args

  whole : (b : ℕ) (t : Term) → slice_get ts b ≡ Some t → slice_get ts (0 + b) ≡ Some t
  whole b t e = ap (slice_get ts) (let q : 0 + b ≡ b = omega arith in q) ∙ e

  no_body : (k : ℕ) (g : Fun) → slice_get fs k ≡ Some g → g.body ≡ None
  no_body k g e = sym (ap body_of e) ∙ none k

  at_end : (k : ℕ) → ((j : ℕ) → slice_get fs (k + j) ≡ None) → Tables k []
  at_end k past =
      record {
        tables = [];
        are = refl;
        give =
            λ j args.
            sym (ap (λ es. entry_for es args (default_result (slice_get fs (k + j)))) (no_entries fs incs ts terms w (k + j) (past j) n 0 ts whole)
            ∙ ap default_result (past j));
      }

  one_more : (k : ℕ) (g : Fun) (gs : List Fun) → slice_get fs k ≡ Some g → Tables (suc k) gs → Tables k (g ∷ gs)
  one_more k g gs is later =
      record {
        tables = u.0 ∷ later.tables;
        are = both (is_table_of g u.0) (are_tables gs later.tables) (bodiless g u.0 (no_body k g is) u.1.0) later.are;
        give = gives;
      }
    where
      u : (t : Table) × (IsTrue (is_table g t) × ((args : List Val) → look_up (Some t) args ≡ look_up (Some (record { entries = entries_of (Applies k) w n ts; default = default_for g.result })) args))
      u =
          normal_form g (record { entries = entries_of (Applies k) w n ts; default = default_for g.result }) (default_typed g.result) (all_typed g (entries_of (Applies k) w n ts) (entries_typed fs incs ts terms w typed k g is n 0 ts (let q : n ≡ n + 0 = omega arith in q) whole))

      here : (args : List Val) → look_up (Some u.0) args ≡ told k args
      here args = u.1.1 args ∙ ap (entry_for (entries_of (Applies k) w n ts) args) (sym (ap default_result is))

      gives : (j : ℕ) (args : List Val) → look_up (slice_get (u.0 ∷ later.tables) j) args ≡ told (k + j) args
      gives zero args = here args ∙ ap (λ f. told f args) (let q : k ≡ k + 0 = omega arith in q)
      gives (suc j) args = later.give j args ∙ ap (λ f. told f args) (let q : suc k + j ≡ k + suc j = omega arith in q)

  from : (k : ℕ) (gs : List Fun) → ((j : ℕ) → slice_get fs (k + j) ≡ slice_get gs j) → Tables k gs
  from k [] same = at_end k same
  from k (g ∷ gs) same =
      one_more k g gs (ap (slice_get fs) (let q : k ≡ k + 0 = omega arith in q) ∙ same 0) (from (suc k) gs (λ j. ap (slice_get fs) (let q : suc k + j ≡ k + suc j = omega arith in q) ∙ same (suc j)))

  pub read_off : (i : Interp) × ((i.constants ≡ []) × (IsTrue (are_tables fs i.tables) × IsReadOff i (silent fs) w n ts))
  read_off =
      let made = from 0 fs (λ j. ap (slice_get fs) (let q : 0 + j ≡ j = omega arith in q)) in
      (record { constants = []; tables = made.tables }, (refl, (made.are, record { tables = λ f args. made.give f args ∙ ap (λ k. told k args) (let q : 0 + f ≡ f = omega arith in q) })))
