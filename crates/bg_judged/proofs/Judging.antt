-- From texts to programs that can be opened.
use Rattle.std.proofs.Common.{◌≡◌, ◌≤◌, ℕ, nat_lt, Bool, true, false, List, Option, Some, None, length, if◌then◌else◌, refl, sym, subst}
use Rattle.std.proofs.lemmas.Bool.{ltb-false}
use Rattle.std.specs.List.{list_all}
use Rattle.std.specs.Prelude.{◌&&◌}
use Rattle.bg_text.specs.Tokens.{Tok}
use Rattle.bg_ast.specs.Resolved as r
use Rattle.bg_ast.specs.Syntax as s
use Rattle.bg_ast.specs.Meaning.{meaning_of, named_of}
use Rattle.bg_sense.specs.Resolved.{IsResolved}
use Rattle.bg_sense.specs.Typed.{IsTyped}
use Rattle.bg_sense.specs.Recursion.{HasNoRecursion}
use Rattle.bg_sense.proofs.Bools.{both}
use Rattle.bg_fits.specs.Valued.{decls_pass, proc_passes, impl_passes, is_value_type, any_ex}
use Rattle.bg_opened.specs.Judged.{const_judged, fun_judged, is_judged}
use Rattle.bg_opened.specs.Openable.{IsOpenable}
use Rattle.bg_guess.specs.Guessed.{survey_of, loop_counts, loop_starts, above_all, guessed}
use Rattle.bg_guess.proofs.Passing.{resolved_procs, resolved_impls, procs_guessed, impls_guessed}
use Rattle.bg_places.specs.Counts.{most_places, most_expanded, place_counts, first_above, is_any_above}
use Rattle.bg_expanded.specs.Chains.{most_bodies, longest_chain}
use Rattle.bg_expanded.specs.Counts.{opened_counts}
use Rattle.bg_front.specs.Refusals.{Refusal, Places, Bodies, Expanded}
use Rattle.bg_front.specs.Programs.{IsMeaningOf, IsProgramOf, size_limit, or_else, too_many, too_large, limit_of, with_guesses}
use Rattle.bg_front.proofs.Named.{is_named_in}
use Rattle.bg_judged.proofs.Programs.{HasIndices, declared_indices}

written_indices : (bytes : List ℕ) (ts : List Tok) (p : r.Program) → IsMeaningOf bytes ts p → HasIndices (meaning_of p)
written_indices bytes ts p h =
    subst (λ q. HasIndices (meaning_of q)) (sym (is_named_in bytes ts p h)) (declared_indices h.decls h.tree.1.places.0)

-- guesses change no types
guessed_indices : (p : r.Program) → HasIndices (meaning_of p) → HasIndices (meaning_of (guessed p))
guessed_indices p h =
    let named = named_of p.types in
    let v = survey_of p in
    let loops = loop_counts v p.procedures p.implementations in
    let above = above_all p.procedures p.implementations in
    record {
      globals = h.globals;
      constants = h.constants;
      functions = h.functions;
      procedures = procs_guessed named v loops above (length p.candidates) 0 p.procedures h.procedures;
      implementations = impls_guessed named v p.procedures above (loop_starts v loops (length p.candidates) 0 p.procedures) p.implementations h.implementations;
    }

indices_with : (guess : Bool) (p : r.Program) → HasIndices (meaning_of p) → HasIndices (meaning_of (with_guesses guess p))
indices_with false p h = h
indices_with true p h = guessed_indices p h

judged_by : (p : s.Prog) → IsResolved p → HasIndices p → is_judged p ≡ true
judged_by p resolved h =
    let consts = list_all const_judged p.constants in
    let funs = list_all fun_judged p.functions in
    let procs = list_all (proc_passes p.candidates is_value_type any_ex) p.procedures in
    let impls = list_all (impl_passes p.candidates is_value_type any_ex) p.implementations in
    both (decls_pass is_value_type any_ex p.globals) (consts && (funs && (procs && impls))) h.globals
    (both consts (funs && (procs && impls)) h.constants
    (both funs (procs && impls) h.functions
    (both procs impls (resolved_procs p resolved h.procedures) (resolved_impls p resolved h.implementations))))

program_indices : (guess : Bool) (bytes : List ℕ) (p : r.Program) → IsProgramOf guess bytes p → HasIndices (meaning_of p)
program_indices guess bytes p h =
    subst (λ q. HasIndices (meaning_of q)) (sym h.is) (indices_with guess h.written (written_indices bytes h.tokens h.written h.spelled))

-- ---- chains
some_none : {A : Type 0} (x : Refusal) → Some x ≡ None → A
some_none x h = absurd (let bad : Some x ≡ None = h in cc)

none_behind : (o u : Option Refusal) → or_else o u ≡ None → u ≡ None
none_behind None u h = h
none_behind (Some x) u h = some_none x h

by_test : (n : ℕ) (large c : Bool) → nat_lt most_bodies n ≡ c → (if c then Some (Bodies n) else if large then Some Expanded else None) ≡ None → n ≤ most_bodies
by_test n large true e h = some_none (Bodies n) h
by_test n large false e h = ltb-false most_bodies n e

within_bodies : (o : Option ℕ) (n : ℕ) (large : Bool) → size_limit o n large ≡ None → n ≤ most_bodies
within_bodies (Some k) n large h = some_none (Places k) h
within_bodies None n large h = by_test n large (nat_lt most_bodies n) refl h

short : (p : r.Program) → limit_of p ≡ None → longest_chain p ≤ most_bodies
short p h =
    within_bodies (first_above most_places (place_counts p)) (longest_chain p) (is_any_above most_expanded (opened_counts most_bodies p)) (none_behind (too_many p) (too_large p) h)

-- what is known of programs
abbrev Opens : Type 0
Opens = (depth : ℕ) (p : r.Program) → IsTyped (meaning_of p) → IsResolved (meaning_of p) → HasNoRecursion (meaning_of p) → is_judged (meaning_of p) ≡ true → longest_chain p ≤ depth → IsOpenable depth (meaning_of p)

pub program_opens : ((guess : Bool) (bytes : List ℕ) (p : r.Program) → IsProgramOf guess bytes p → IsTyped (meaning_of p) × HasNoRecursion (meaning_of p)) → ((guess : Bool) (bytes : List ℕ) (p : r.Program) → IsProgramOf guess bytes p → IsResolved (meaning_of p)) → Opens → (guess : Bool) (bytes : List ℕ) (p : r.Program) → IsProgramOf guess bytes p → IsOpenable most_bodies (meaning_of p)
program_opens typed resolved opens guess bytes p h =
    let t = typed guess bytes p h in
    let res = resolved guess bytes p h in
    opens most_bodies p t.0 res t.1 (judged_by (meaning_of p) res (program_indices guess bytes p h)) (short p h.within)
