-- A program with its retained annotations: candidates aren't declared, a clause of a retained candidate is its right side, and a
-- clause of another candidate isn't there.
use Rattle.std.specs.Prelude.{true, List, [], ◌∷◌, map, flat_map, Option, Some, None, if◌then◌else◌}
use Rattle.bg_text.specs.Trees as t
use Rattle.bg_text.specs.Views.{option_of}
use Rattle.bg_words.specs.Sets.{Numbers, has}
use Rattle.bg_names.specs.Spaces.{Scope, names_of}
use Rattle.bg_names.specs.Clauses.{Guarded, guard_of, says_of}
use Rattle.bg_spaces.specs.Declarations.{are_candidates, Spaces, spaces_of, scope_in}
use Rattle.bg_resolve.specs.Program.{requires_scope, ensures_scope, frame_ids}

-- the clause with what it says replaced
abbrev pub saying : t.Ex → t.Clause → t.Clause
saying e k = record { pos = k.pos; is_free = k.is_free; attrs = k.attrs; says = e }

-- a clause with this guard, where `says` is its right side
abbrev pub if_retained : Numbers → Option Guarded → t.Ex → t.Clause → List t.Clause
if_retained set None says k = k ∷ []
if_retained set (Some g) says k = if has set g.0 then saying says k ∷ [] else []

-- what is kept of a clause: its right side where its candidate is retained, nothing where it isn't; all of it where it has none
abbrev pub kept_clause : Numbers → Scope → t.Clause → List t.Clause
kept_clause set s k = if_retained set (guard_of s k) (says_of s k) k

abbrev pub kept_clauses : Numbers → Scope → List t.Clause → List t.Clause
kept_clauses set s = flat_map (kept_clause set s)

-- statements before others
abbrev pub before : List t.St → t.Sts → t.Sts
before [] rest = rest
before (a ∷ xs) rest = t.Then a (before xs rest)

abbrev mutual
  -- what is kept of a statement
  pub kept_st : Numbers → Scope → t.St → List t.St
  kept_st set s (t.Assert k) = map t.Assert (kept_clause set s k)
  kept_st set s (t.If p arms) = t.If p (kept_arms set s arms) ∷ []
  kept_st set s (t.IfElse p arms ss) = t.IfElse p (kept_arms set s arms) (kept_sts set s ss) ∷ []
  kept_st set s (t.While p g is ss) = t.While p g (kept_clauses set s is) (kept_sts set s ss) ∷ []
  kept_st set s a = a ∷ []

  pub kept_sts : Numbers → Scope → t.Sts → t.Sts
  kept_sts set s t.NoSt = t.NoSt
  kept_sts set s (t.Then a rest) = before (kept_st set s a) (kept_sts set s rest)

  pub kept_arms : Numbers → Scope → t.Arms → t.Arms
  kept_arms set s t.NoArm = t.NoArm
  kept_arms set s (t.Arm g ss arms) = t.Arm g (kept_sts set s ss) (kept_arms set s arms)

-- what the clauses of a body see
abbrev pub body_scope : Spaces → t.Sig → t.Body → Scope
body_scope g s b = scope_in g (names_of (frame_ids s b)) true true

abbrev pub kept_body : Numbers → Spaces → t.Sig → t.Body → t.Body
kept_body set g s b = record { locals = b.locals; stmts = kept_sts set (body_scope g s b) b.stmts }

-- what is kept of a part of a specification
abbrev pub kept_spec : Numbers → Spaces → t.Sig → t.Spec → List t.Spec
kept_spec set g s (t.Requires k) = map t.Requires (kept_clause set (requires_scope g s) k)
kept_spec set g s (t.Ensures k) = map t.Ensures (kept_clause set (ensures_scope g s) k)
kept_spec set g s (t.Modifies p xs) = t.Modifies p xs ∷ []

abbrev pub kept_procedure : Numbers → Spaces → t.Proc → t.Proc
kept_procedure set g q =
    record {
      pos = q.pos;
      attrs = q.attrs;
      name = q.name;
      sig = q.sig;
      specs = flat_map (kept_spec set g q.sig) q.specs;
      body = option_of (kept_body set g q.sig) q.body;
    }

abbrev pub kept_implementation : Numbers → Spaces → t.Impl → t.Impl
kept_implementation set g m =
    record {
      pos = m.pos;
      attrs = m.attrs;
      name = m.name;
      sig = m.sig;
      body = kept_body set g m.sig m.body;
    }

-- what is kept of a declaration
abbrev pub kept_decl : Numbers → Spaces → t.Decl → List t.Decl
kept_decl set g (t.Constants c) = if are_candidates c then [] else t.Constants c ∷ []
kept_decl set g (t.Procedure q) = t.Procedure (kept_procedure set g q) ∷ []
kept_decl set g (t.Implementation m) = t.Implementation (kept_implementation set g m) ∷ []
kept_decl set g d = d ∷ []

-- the program with the annotations of the candidates of this set
abbrev pub kept : Numbers → List t.Decl → List t.Decl
kept set ds = flat_map (kept_decl set (spaces_of ds)) ds
