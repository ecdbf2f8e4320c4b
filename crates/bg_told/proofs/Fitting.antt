-- Functions with a body have no line, whatever tables are theirs.
use Rattle.std.proofs.Common.{◌≡◌, ℕ, List, [], ◌∷◌, ◌++◌, map, if◌then◌else◌, Option, Some, None, refl, ap, ◌∙◌}
use Rattle.std.specs.Prelude.{is_some}
use Rattle.bg_ast.specs.Values as v
use Rattle.bg_ast.specs.Values.{Table}
use Rattle.bg_ast.specs.Syntax.{Prog}
use Rattle.bg_ast.specs.Resolved as r
use Rattle.bg_ast.specs.Meaning.{body_of, fun_of, named_of, meaning_of}
use Rattle.bg_sense.specs.Tables.{has_body}
use Rattle.bg_opened.specs.Moments.{blank, tables_for}
use Rattle.bg_told.specs.Lines.{texts}
use Rattle.bg_told.specs.Places.{function_text}
use Rattle.bg_told.specs.Places.{Named}
use Rattle.bg_told.specs.Sheets.{Outer, outer_of, type_name, named_as, named_in}

-- the lines of the functions are those of the program's own tables
abbrev pub Fits : Outer → Prog → Type 0
Fits s p =
    (ts : List Table) → texts (function_text (map type_name s.types)) s.functions (tables_for p.functions ts) ≡ texts (function_text (map type_name s.types)) s.functions ts

all_fit : (types : List (List ℕ)) (ds : List r.TypeName) (named : ℕ → v.Ty) (fs : List r.Fun) (ts : List Table) → texts (function_text types) (map (named_in ds) fs) (tables_for (map (fun_of named) fs) ts) ≡ texts (function_text types) (map (named_in ds) fs) ts
all_fit types ds named [] ts = refl
all_fit types ds named (f ∷ fs) [] = refl
all_fit types ds named (f ∷ fs) (t ∷ ts) =
    ap (λ (x : List ℕ). x ++ texts (function_text types) (map (named_in ds) fs) (tables_for (map (fun_of named) fs) ts)) (here f.body)
    ∙ ap (λ (x : List ℕ). function_text types (named_in ds f) t ++ x) (all_fit types ds named fs ts)
  where
    here : (o : Option r.Ex) → function_text types (named_as ds f (is_some o)) (if has_body (body_of o) then blank (fun_of named f) else t) ≡ function_text types (named_as ds f (is_some o)) t
    here None = refl
    here (Some e) = refl

pub program_fits : (p : r.Program) → Fits (outer_of p) (meaning_of p)
program_fits p = all_fit (map type_name p.types) p.types (named_of p.types) p.functions
