-- The numbers that names have are those of declarations, in a program whose names are declared once.
use Rattle.std.proofs.Common.{◌≡◌, ℕ, zero, suc, ◌<◌, List, [], ◌∷◌, ◌++◌, map, length, Option, Some, None, refl, sym, ap, ◌∙◌, subst, arith}
use Rattle.std.specs.Prelude.{slice_get}
use Rattle.bg_text.specs.Trees as t
use Rattle.bg_text.specs.Types.{All as Each}
use Rattle.bg_ast.specs.Resolved as r
use Rattle.bg_names.specs.Spaces.{names_of, place, repeats, value_at, or_nothing}
use Rattle.bg_names.specs.declared.scope.Meaning.{Meaning}
use Rattle.bg_names.specs.declared.scope.Meaning.TheVariants as means
use Rattle.bg_spaces.specs.Declarations.{Entry, entry_id, entries_from, no_counts, text_of, value_ids, type_ids, function_ids, procedure_ids, spaces_of, repeated}
use Rattle.bg_spaces.proofs.Joins.{entries-ids}
use Rattle.bg_resolve.specs.Program.{named}
use Rattle.bg_named.specs.Numbers.{IsNumber, IsMeant, HasNumbers, type_id, function_id, procedure_id}
use Rattle.bg_named.proofs.SpacesOnce.{entry_meaning, empty_parts, names_are, meanings_once}
use Rattle.bg_named.proofs.SpacesPlaces.{place_is}
use Rattle.bg_named.proofs.SpacesNames.{type_names, function_names, procedure_names}
use Rattle.bg_named.proofs.SpacesCounts.{changes_are}
use Rattle.bg_named.proofs.SpacesEntries.{MeansHere, Means, each_at, program_means}

pub get_small : {A : Type 0} (xs : List A) (k : ℕ) (x : A) → slice_get xs k ≡ Some x → k < length xs
get_small [] k x h = absurd (let bad : None ≡ Some x = h in cc)
get_small (y ∷ ys) zero x h = omega arith
get_small (y ∷ ys) (suc k) x h = let rest = get_small ys k x h in omega (arith, rest)

pub made_from : {A B : Type 0} (f : A → B) (xs : List A) (k : ℕ) (y : B) → slice_get (map f xs) k ≡ Some y → (x : A) × (slice_get xs k ≡ Some x) × (f x ≡ y)
made_from f [] k y h = absurd (let bad : None ≡ Some y = h in cc)
made_from f (x ∷ xs) zero y h = (x, refl, (let whole : Some (f x) ≡ Some y = h in cc))
made_from f (x ∷ xs) (suc k) y h = made_from f xs k y h

entry_means : (names : List (List ℕ)) (p : r.Program) (x : List ℕ) (y : t.Id) (m : Meaning) → MeansHere p y m → y.text ≡ x → IsMeant names p x m
entry_means names p x y (means.Constant k) h same = (y, h, same)
entry_means names p x y (means.Candidate k) h same = (y, h, same)
entry_means names p x y (means.Global k) h same = (y, h, same)
entry_means names p x y (means.Local k) h same = h
entry_means names p x y means.Nothing h same = absurd h

-- an entry with its name and meaning
record IsEntry (es : List Entry) (j : ℕ) (x : List ℕ) : Type 0 where
  entry : Entry
  is_there : slice_get es j ≡ Some entry
  name : entry.0.text ≡ x
  meaning : slice_get (map entry_meaning es) j ≡ Some entry.1

entry_at : (es : List Entry) (j : ℕ) (x : List ℕ) → slice_get (map text_of (map entry_id es)) j ≡ Some x → IsEntry es j x
entry_at [] j x h = absurd (let bad : None ≡ Some x = h in cc)
entry_at (e ∷ es) zero x h =
    let same : e.0.text ≡ x = (let whole : Some e.0.text ≡ Some x = h in cc) in
    record { entry = e; is_there = refl; name = same; meaning = refl }
entry_at (e ∷ es) (suc j) x h =
    let rest = entry_at es j x h in
    record { entry = rest.entry; is_there = rest.is_there; name = rest.name; meaning = rest.meaning }

value_found : (p : r.Program) (es : List Entry) → Each (Means p) es → (x : List ℕ) → IsMeant (map text_of (map entry_id es)) p x (value_at (map entry_meaning es) (place (map text_of (map entry_id es)) x))
value_found p es h x = by (place (map text_of (map entry_id es)) x) refl
  where
    by : (o : Option ℕ) → place (map text_of (map entry_id es)) x ≡ o → IsMeant (map text_of (map entry_id es)) p x (value_at (map entry_meaning es) o)
    by None e = e
    by (Some j) e =
        let at = entry_at es j x (place_is (map text_of (map entry_id es)) x j e).is_there in
        subst
        (λ (o : Option Meaning). IsMeant (map text_of (map entry_id es)) p x (or_nothing o))
        (sym at.meaning)
        (entry_means (map text_of (map entry_id es)) p x at.entry.0 at.entry.1 (each_at (Means p) es j at.entry h at.is_there) at.name)

pub record AreOnce (ds : List t.Decl) : Type 0 where
  pub types : repeats [] (type_ids ds) ≡ []
  pub values : repeats [] (value_ids ds) ≡ []
  pub functions : repeats [] (function_ids ds) ≡ []
  pub procedures : repeats [] (procedure_ids ds) ≡ []

pub are_once : (ds : List t.Decl) → repeated ds ≡ [] → AreOnce ds
are_once ds h =
    let all = empty_parts ((repeats [] (type_ids ds) ++ repeats [] (value_ids ds)) ++ repeats [] (function_ids ds)) (repeats [] (procedure_ids ds)) h in
    let front = empty_parts (repeats [] (type_ids ds) ++ repeats [] (value_ids ds)) (repeats [] (function_ids ds)) all.0 in
    let first = empty_parts (repeats [] (type_ids ds)) (repeats [] (value_ids ds)) front.0 in
    record { types = first.0; values = first.1; functions = front.1; procedures = all.1 }

-- the space of values holds what is declared
value_in : (ds : List t.Decl) → repeats [] (value_ids ds) ≡ [] → (x : List ℕ) → IsMeant (spaces_of ds).values (named ds) x (value_at (spaces_of ds).meanings (place (spaces_of ds).values x))
value_in ds once x =
    let es = entries_from no_counts ds in
    let ids = entries-ids no_counts ds in
    let values : (spaces_of ds).values ≡ map text_of (map entry_id es) = names_are (value_ids ds) once ∙ ap (map text_of) (sym ids) in
    let meanings : (spaces_of ds).meanings ≡ map entry_meaning es = meanings_once [] es (ap (repeats []) ids ∙ once) in
    subst
    (λ (m : List Meaning). IsMeant (spaces_of ds).values (named ds) x (value_at m (place (spaces_of ds).values x)))
    (sym meanings)
    (subst
    (λ (v : List (List ℕ)). IsMeant v (named ds) x (value_at (map entry_meaning es) (place v x)))
    (sym values)
    (value_found (named ds) es (program_means ds) x))

number_in : {A : Type 0} (name : A → t.Id) (xs : List A) (ids : List t.Id) → map name xs ≡ ids → repeats [] ids ≡ [] → (x : List ℕ) (k : ℕ) → place (names_of ids) x ≡ Some k → IsNumber (map name xs) x k
number_in name xs ids same once x k h =
    let at = (place_is (names_of ids) x k h).is_there in
    let found = made_from text_of ids k x (ap (λ (l : List (List ℕ)). slice_get l k) (sym (names_are ids once)) ∙ at) in
    (found.0, ap (λ (l : List t.Id). slice_get l k) same ∙ found.1, found.2)

pub has_numbers : (ds : List t.Decl) → repeated ds ≡ [] → HasNumbers (spaces_of ds) (named ds)
has_numbers ds h =
    let once = are_once ds h in
    record {
      types = number_in type_id (named ds).types (type_ids ds) (type_names ds) once.types;
      functions = number_in function_id (named ds).functions (function_ids ds) (function_names ds) once.functions;
      procedures = number_in procedure_id (named ds).procedures (procedure_ids ds) (procedure_names ds) once.procedures;
      values = value_in ds once.values;
      changes = changes_are ds;
    }
