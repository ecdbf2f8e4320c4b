-- The lines of a section's terms and instances, as lines of a place.
use Rattle.std.specs.Prelude.{◌≡◌, ℕ, nat_lt, if◌then◌else◌, List, [], ◌∷◌, Option, Some, None, slice_get}
use Rattle.bg_ast.specs.Values.{Ty}
use Rattle.bg_ast.specs.Syntax.{Proc, Impl, Prog}
use Rattle.bg_ast.specs.Execution.{Place}
use Rattle.bg_sense.specs.Variables.{procedure_of}
use Rattle.bg_block_types.specs.Typed.{incarnations_in}
use Rattle.bg_terms.specs.Terms.{Term}
use Rattle.bg_terms.specs.Instances.{Congruent, AtIndex, Elsewhere, Apart}
use Rattle.bg_numbered.specs.Lines.{Line, Pick, Names, Says, is_there, after_line}
use Rattle.bg_termed.specs.Termed.{terms_in}
use Rattle.bg_certtext.specs.declared.text.Stated.{Stated}
use Rattle.bg_certtext.specs.declared.text.Stated.TheVariants as said

abbrev pub then_ : {A B : Type 0} → Option A → (A → Option B) → Option B
then_ None f = None
then_ (Some x) f = f x

-- What a line of the text says, whether what it names is there or not. Constants are no terms, so that two unique constants differ is no line
-- of a place
abbrev pub line_said : Stated → Option Line
line_said (said.Pick m a) = Some (Pick m a)
line_said (said.Names m o) = Some (Names m o)
line_said (said.Congruent a b) = Some (Says (Congruent a b))
line_said (said.AtIndex u s) = Some (Says (AtIndex u s))
line_said (said.Elsewhere u s r) = Some (Says (Elsewhere u s r))
line_said (said.Apart s r) = Some (Says (Apart s r))
line_said (said.Unequal a b) = None

-- a line that names what is there, over incarnations of these types and these terms
abbrev pub if_there : List Ty → List Term → Line → Option Line
if_there incs ts l = if is_there incs ts l then Some l else None

abbrev pub line_in : List Ty → List Term → Stated → Option Line
line_in incs ts s = then_ (line_said s) (if_there incs ts)

-- the lines, each over the terms with those that the ones before it bring; none where one of them names what isn't there
abbrev pub lines_in : List Ty → List Term → List Stated → Option (List Line)
lines_in incs ts [] = Some []
lines_in incs ts (s ∷ ss) =
    then_ (line_in incs ts s) (λ l. then_ (lines_in incs (after_line incs ts l) ss) (λ ls. Some (l ∷ ls)))

-- what the lines name at a place, by the incarnations and terms of its implementation
pub record NamesLines (p : Prog) (t : Place) (ss : List Stated) (o : Option (List Line)) : Type 0 where
  pub implementation : Impl
  pub procedure : Proc
  pub is_there : slice_get p.implementations t.implementation ≡ Some implementation
  pub is_its : procedure_of p implementation.procedure ≡ Some procedure
  pub named : lines_in (incarnations_in p t.implementation implementation procedure) (terms_in p t.implementation implementation procedure) ss ≡ o
