-- A program's scope has the types of what its names mean.
use Rattle.std.proofs.Common.{◌≡◌, ℕ, true, List, [], ◌++◌, map, Some, refl, sym, ap, ◌∙◌}
use Rattle.bg_ast.specs.Values as v
use Rattle.bg_ast.specs.Syntax as x
use Rattle.bg_ast.specs.Resolved as r
use Rattle.bg_ast.specs.Meaning as m
use Rattle.bg_sense.specs.Types.{const_types}
use Rattle.bg_sense.specs.Typing.{sig_in}
use Rattle.bg_sense.specs.Typed.{Around, sig_around}
use Rattle.bg_kinds.specs.Faults.{is_none}
use Rattle.bg_kinds.specs.Kinds.{Kind}
use Rattle.bg_types.specs.Programs.{const_kind, declared_kinds, function_shape, scope_in, with_frame, without_globals, synonyms_faults, consts_faults, declared_faults, functions_faults, procedures_faults, implementations_faults, types_part, bodies_part}
use Rattle.bg_types.specs.Verdicts.{IsWellTyped}
use Rattle.bg_typed.specs.Naming.{function_kinds, Matches}
use Rattle.bg_typed.specs.Bodies.{procedure_kinds, MatchesAround}
use Rattle.bg_typed.specs.Programs.{axiom_sig, body_sig}
use Rattle.bg_typed.proofs.Bits.{split_none}
use Rattle.bg_typed.proofs.Unfolded.{kind_means, named_if}
use Rattle.bg_typed.proofs.Declared.{Stands, kinds_of_decls, declared_are, consts_are, functions_are, procedures_are}

-- the types of a program's declarations have no faults, and those that are written stand for those that are meant
pub record HasTypes (named : ℕ → Kind) (p : r.Program) : Type 0 where
  pub stands : Stands named (m.named_of p.types)
  pub constants : is_none (consts_faults named p.constants) ≡ true
  pub globals : is_none (declared_faults named p.globals) ≡ true
  pub functions : is_none (functions_faults named p.functions) ≡ true
  pub procedures : is_none (procedures_faults named p.procedures) ≡ true
  pub implementations : is_none (implementations_faults named p.implementations) ≡ true

pub has_types : (p : r.Program) (w : IsWellTyped p) → HasTypes w.named p
has_types p w =
    let named = w.named in
    let n = m.named_of p.types in
    let implementations = implementations_faults named p.implementations in
    let procedures = procedures_faults named p.procedures ++ implementations in
    let functions = functions_faults named p.functions ++ procedures in
    let globals = declared_faults named p.globals ++ functions in
    let constants = consts_faults named p.constants ++ globals in
    let whole = split_none (types_part named p) (bodies_part named (scope_in named p) p) (ap is_none w.none) in
    let a = split_none (synonyms_faults named p.types) constants whole.0 in
    let b = split_none (consts_faults named p.constants) globals a.1 in
    let c = split_none (declared_faults named p.globals) functions b.1 in
    let d = split_none (functions_faults named p.functions) procedures c.1 in
    let e = split_none (procedures_faults named p.procedures) implementations d.1 in
    record {
      stands = λ t h. kind_means named n t (λ j k. named_if p.types named w.acyclic w.unfolded a.0 j) h;
      constants = b.0;
      globals = c.0;
      functions = d.0;
      procedures = e.0;
      implementations = e.1;
    }

module _ (named : ℕ → Kind) (p : r.Program) (t : HasTypes named p) where
  abbrev n : ℕ → v.Ty
  n = m.named_of p.types

  constants_are : map (const_kind named) p.constants ≡ map Some (const_types (map (m.const_of n) p.constants))
  constants_are = consts_are named n t.stands p.constants t.constants

  globals_are : declared_kinds named p.globals ≡ kinds_of_decls (map (m.decl_of n) p.globals)
  globals_are = declared_are named n t.stands p.globals t.globals

  all_functions_are : map (function_shape named) p.functions ≡ map function_kinds (map (m.fun_of n) p.functions)
  all_functions_are = functions_are named n t.stands p.functions t.functions

  pub matches_frame : (ks : List Kind) (ds : List x.Decl) → ks ≡ kinds_of_decls ds → Matches (with_frame (scope_in named p) ks) (sig_in (m.meaning_of p) ds)
  matches_frame ks ds e = record { constants = constants_are; globals = globals_are; frame = e; functions = all_functions_are }

  pub matches_axioms : Matches (without_globals (scope_in named p) []) (axiom_sig (m.meaning_of p))
  matches_axioms = record { constants = constants_are; globals = refl; frame = refl; functions = all_functions_are }

  pub matches_body : (ks : List Kind) (fn : x.Fun) → ks ≡ map Some fn.params → Matches (without_globals (scope_in named p) ks) (body_sig (m.meaning_of p) fn)
  matches_body ks fn e = record { constants = constants_are; globals = refl; frame = e; functions = all_functions_are }

  pub matches_around : (ks : List Kind) (w : Around) → w.program ≡ m.meaning_of p → Matches (with_frame (scope_in named p) ks) (sig_around w) → MatchesAround (with_frame (scope_in named p) ks) w
  matches_around ks w e h = record { names = h; procedures = procedures_are named n t.stands p.procedures t.procedures ∙ ap (λ (g : x.Prog). map procedure_kinds g.procedures) (sym e) }
