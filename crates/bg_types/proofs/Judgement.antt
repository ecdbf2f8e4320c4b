-- The answer about a program is a verdict.
use Rattle.std.proofs.Common.{◌≡◌, ◌<◌, ℕ, zero, suc, arith, length, get_or, [], ◌∷◌, List, map, Option, Some, None, slice_get, subst, ap, sym, ◌∙◌, inl, inr}
use Rattle.std.proofs.lemmas.Option.{slice_get-map}
use Rattle.std.specs.Option.{option_map}
use Rattle.bg_graph.specs.Graphs.{IsAcyclic, IsFirstOnCycle}
use Rattle.bg_ast.specs.declared.resolved.TypeName.{TypeName}
use Rattle.bg_ast.specs.Resolved as r
use Rattle.bg_ast.specs.Views.{type_name_of}
use Rattle.bg_kinds.specs.declared.kinds.ValueType.{ValueType}
use Rattle.bg_kinds.specs.Faults.{Fault, CyclicSynonym, first_of}
use Rattle.bg_kinds.specs.Kinds.{Kind, named_by}
use Rattle.bg_kinds.specs.Synonyms.{IsUnfolded, synonym_graph}
use Rattle.bg_types.specs.Programs.{program_faults}
use Rattle.bg_types.specs.Verdicts.{Verdict, IsFault}
use Rattle.bg_kinds.specs.KindViews.{kinds_in}
use Rattle.bg_types.proofs.Least.{first_none, first_some}

pub verdict_of : (p : r.Program) (named : ℕ → Kind) (f : Option Fault) → IsAcyclic (synonym_graph p.types) → IsUnfolded p.types named → f ≡ first_of None (program_faults named p) → Verdict p f
verdict_of p named None a u h = record { named = named; acyclic = a; unfolded = u; none = first_none (program_faults named p) h }
verdict_of p named (Some f) a u h = inr (record { named = named; acyclic = a; unfolded = u; first = first_some (program_faults named p) f h })

pub unfolded_at : (ds es : List TypeName) (n m : List (Option ValueType)) → ds ≡ es → n ≡ m → IsUnfolded (map type_name_of ds) (named_by (kinds_in n)) → IsUnfolded (map type_name_of es) (named_by (kinds_in m))
unfolded_at ds es n m h k u =
    subst (λ (l : List TypeName). IsUnfolded (map type_name_of l) (named_by (kinds_in m))) h
    (subst (λ (x : List (Option ValueType)). IsUnfolded (map type_name_of ds) (named_by (kinds_in x))) k u)

pub cyclic_of : (p : r.Program) (ds xs : List TypeName) (k : ℕ) (d : TypeName) (f : Fault) → p.types ≡ map type_name_of ds → xs ≡ ds → slice_get xs k ≡ Some d → IsFirstOnCycle (synonym_graph p.types) k → f ≡ CyclicSynonym (type_name_of d).name → IsFault p f
cyclic_of p ds xs k d f h e g c n =
    inl
    (record {
      number = k;
      declared = type_name_of d;
      is_there =
          ap (λ l. slice_get l k) (h ∙ ap (map type_name_of) (sym e))
          ∙ (slice_get-map type_name_of xs k ∙ ap (option_map type_name_of) g);
      first = c;
      named = n;
    })

pub get_there : {A : Type 0} (xs : List A) (k : ℕ) (d : A) → k < length xs → d ≡ get_or xs k d → slice_get xs k ≡ Some d
get_there [] k d h e = absurd (omega arith)
get_there (x ∷ xs) zero d h e = ap Some (sym e)
get_there (x ∷ xs) (suc k) d h e = get_there xs k d (omega arith) e
