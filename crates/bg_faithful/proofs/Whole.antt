-- What an implementation of a program over values has.
use Rattle.std.proofs.Common.{◌≡◌, ℕ, ◌+◌, Bool, true, List, [], ◌∷◌, ◌++◌, length, Some}
use Rattle.std.specs.Prelude.{◌&&◌, slice_get}
use Rattle.std.specs.List.{list_all}
use Rattle.bg_ast.specs.Syntax.{Decl, Fun, Proc, Impl, Prog}
use Rattle.bg_ast.specs.Execution.{AtReturn}
use Rattle.bg_sense.specs.Types.{types_of}
use Rattle.bg_sense.specs.Variables.{procedure_of, wheres_of}
use Rattle.bg_sense.proofs.Bools.{and_left, and_right}
use Rattle.bg_flow.specs.Core.{frame_decls, demands, sayings, each_one, plain}
use Rattle.bg_fits.specs.Valued.{is_empty, decls_pass, fun_passes, proc_passes, impl_passes, st_passes, is_value_type, any_ex, is_over_values}
use Rattle.bg_block_types.specs.Typed.{blocks_in, arrivals_in, incarnations_in, passives_in}
use Rattle.bg_faithful.specs.Checks.{BlocksPlaced}
use Rattle.bg_faithful.proofs.ValueTypes.{AreValueTypes, types_append, decls_valued, ValueProc, value_proc, passes_at, none_there}
use Rattle.bg_faithful.proofs.Guards.{FitBlocks, fit_demands, fit_sayings, fit_plain, routine_fits, body_placed, ends_placed}
use Rattle.bg_faithful.proofs.Incs.{made_valued}
use Rattle.bg_faithful.proofs.Passes.{FitPassives, passives_fit, blocks_placed}

module _ (p : Prog) (o : is_over_values p ≡ true) where
  abbrev globals_pass : Bool
  globals_pass = decls_pass is_value_type any_ex p.globals

  abbrev procs_pass : Bool
  procs_pass = list_all (proc_passes p.candidates is_value_type any_ex) p.procedures

  abbrev impls_pass : Bool
  impls_pass = list_all (impl_passes p.candidates is_value_type any_ex) p.implementations

  abbrev functions_pass : Bool
  functions_pass = list_all (fun_passes is_value_type) p.functions

  behind_globals : (is_empty p.constants && (functions_pass && (is_empty p.axioms && (procs_pass && impls_pass)))) ≡ true
  behind_globals = and_right globals_pass _ o

  behind_constants : (functions_pass && (is_empty p.axioms && (procs_pass && impls_pass))) ≡ true
  behind_constants = and_right (is_empty p.constants) _ behind_globals

  behind_functions : (is_empty p.axioms && (procs_pass && impls_pass)) ≡ true
  behind_functions = and_right functions_pass _ behind_constants

  parts : (procs_pass && impls_pass) ≡ true
  parts = and_right (is_empty p.axioms) _ behind_functions

  pub no_constants : p.constants ≡ []
  no_constants = none_there p.constants (and_left (is_empty p.constants) _ behind_globals)

  pub each_function : (f : ℕ) (fn : Fun) → slice_get p.functions f ≡ Some fn → fun_passes is_value_type fn ≡ true
  each_function f fn e =
      passes_at (fun_passes is_value_type) p.functions f fn (and_left functions_pass _ behind_constants) e

  pub no_axioms : p.axioms ≡ []
  no_axioms = none_there p.axioms (and_left (is_empty p.axioms) _ behind_functions)

  globals_valued : AreValueTypes (types_of p.globals)
  globals_valued = decls_valued p.globals (and_left globals_pass _ o)

  procs : (j : ℕ) (c : Proc) → slice_get p.procedures j ≡ Some c → ValueProc p.candidates c
  procs j c e =
      value_proc p.candidates c (passes_at (proc_passes p.candidates is_value_type any_ex) p.procedures j c (and_left procs_pass _ parts) e)

  module _ (k : ℕ) (m : Impl) (q : Proc) (im : slice_get p.implementations k ≡ Some m) (pr : procedure_of p m.procedure ≡ Some q) where
    abbrev ds : List Decl
    ds = frame_decls m q

    here : impl_passes p.candidates is_value_type any_ex m ≡ true
    here =
        passes_at (impl_passes p.candidates is_value_type any_ex) p.implementations k m (and_right procs_pass _ parts) im

    its : ValueProc p.candidates q
    its = procs m.procedure q pr

    locals_valued : AreValueTypes (types_of m.locals)
    locals_valued =
        decls_valued m.locals (and_left (decls_pass is_value_type any_ex m.locals) (st_passes p.candidates any_ex m.body) here)

    frame_valued : AreValueTypes (types_of ds)
    frame_valued = types_both q.params (q.results ++ m.locals) its.params (types_both q.results m.locals its.results locals_valued)
      where
        types_both : (ds es : List Decl) → AreValueTypes (types_of ds) → AreValueTypes (types_of es) → AreValueTypes (types_of (ds ++ es))
        types_both [] es h k = k
        types_both (d ∷ ds) es h k = (h.0, types_both ds es h.1 k)

    fits : FitBlocks p (blocks_in p k m q)
    fits =
        routine_fits p ds k procs m.body (plain (wheres_of (p.globals ++ ds)) (sayings each_one q.requires_)) (demands (AtReturn k) q.ensures_) (and_right (decls_pass is_value_type any_ex m.locals) (st_passes p.candidates any_ex m.body) here)
        (body_placed p k m im)
        (fit_plain p (wheres_of (p.globals ++ ds)) (sayings each_one q.requires_) (fit_sayings p each_one q.requires_ its.requires_))
        (fit_demands p k (AtReturn k) q.ensures_ its.ensures_ (ends_placed p k m im q pr))

    pub value_types : AreValueTypes (incarnations_in p k m q)
    value_types =
        types_append (types_of p.globals) _ globals_valued
        (types_append (types_of ds) _ frame_valued (made_valued p ds globals_valued frame_valued (blocks_in p k m q) [] (length p.globals + length ds) fits))

    pub fits_passive : FitPassives p (passives_in p k m q)
    fits_passive = passives_fit p (arrivals_in p k m q).arrivals (blocks_in p k m q) fits

    pub placed : BlocksPlaced p (passives_in p k m q)
    placed = blocks_placed p (passives_in p k m q) fits_passive
