-- What holds of each declaration holds of what the declarations give.
use Rattle.std.proofs.Common.{◌≡◌, ℕ, suc, ◌+◌, Bool, true, false, List, [], ◌∷◌, ◌++◌, map, flat_map, refl, sym, ap, subst, arith}
use Rattle.std.specs.Prelude.{◌||◌, All, Contains}
use Rattle.std.specs.List.{list_any}
use Rattle.std.specs.Str.{bytes_eq}
use Rattle.std.proofs.lemmas.List.Elements.{All-nil, All-cons}
use Rattle.std.proofs.lemmas.Slice.Eq.{bytes_eq-Decides}
use Rattle.bg_text.specs.Trees as t
use Rattle.bg_text.specs.Types.{All as Each}
use Rattle.bg_text.specs.Declarations.{IsDecl}
use Rattle.bg_names.specs.Spaces.{has_name}
use Rattle.bg_spaces.specs.Declarations.{Spaces, spaces_of, repeated, text_of, procedure_ids, procedure_ids_of}
use Rattle.bg_resolve.specs.Program.{decl_faults, plain_faults, in_turn, decl_count}
use Rattle.bg_named.proofs.SpacesOnce.{empty_parts, names_are}
use Rattle.bg_named.proofs.SpacesEntries.{each_append}
use Rattle.bg_named.proofs.SpacesNumbers.{are_once}

pub each_all : {A : Type 0} (P : A → Type 0) (xs : List A) → Each P xs → All P xs
each_all P [] h = All-nil P
each_all P (x ∷ xs) h = All-cons P x xs h.0 (each_all P xs h.1)

pub each_split : {A : Type 0} (P : A → Type 0) (xs ys : List A) → Each P (xs ++ ys) → Each P xs × Each P ys
each_split P [] ys h = (tt, h)
each_split P (x ∷ xs) ys h = let rest = each_split P xs ys h.1 in ((h.0, rest.0), rest.1)

pub each_weaker : {A : Type 0} (P Q : A → Type 0) → ((x : A) → P x → Q x) → (xs : List A) → Each P xs → Each Q xs
each_weaker P Q f [] h = tt
each_weaker P Q f (x ∷ xs) h = (f x h.0, each_weaker P Q f xs h.1)

pub each_from : {A : Type 0} (P : A → Type 0) (xs : List A) → ((x : A) → Contains xs x → P x) → Each P xs
each_from P [] h = tt
each_from P (x ∷ xs) h = (h x (0, omega arith, refl), each_from P xs (λ y c. h y (suc c.0, (let lt = c.1 in omega (arith, lt)), c.2)))

pub gathered : {A : Type 0} (P : A → Type 0) (K : t.Decl → Type 0) (f : t.Decl → List A) → ((d : t.Decl) → K d → Each P (f d)) → (ds : List t.Decl) → Each K ds → Each P (flat_map f ds)
gathered P K f h [] k = tt
gathered P K f h (d ∷ ds) k = each_append P (f d) (flat_map f ds) (h d k.0) (gathered P K f h ds k.1)

pub gathered_in_turn : {A : Type 0} (P : A → Type 0) (K : t.Decl → Type 0) (f : ℕ → t.Decl → List A) → ((n : ℕ) (d : t.Decl) → K d → Each P (f n d)) → (n : ℕ) (ds : List t.Decl) → Each K ds → Each P (in_turn f n ds)
gathered_in_turn P K f h n [] k = tt
gathered_in_turn P K f h n (d ∷ ds) k =
    each_append P (f n d) (in_turn f (n + decl_count d) ds) (h n d k.0) (gathered_in_turn P K f h (n + decl_count d) ds k.1)

-- a name that is in a space
abbrev pub IsIn : List (List ℕ) → t.Id → Type 0
IsIn names x = has_name names x.text ≡ true

or_right : (a b : Bool) → b ≡ true → (a || b) ≡ true
or_right true b h = refl
or_right false b h = h

own_names : (xs : List t.Id) → Each (IsIn (map text_of xs)) xs
own_names [] = tt
own_names (x ∷ xs) =
    let here : bytes_eq x.text x.text ≡ true = (bytes_eq-Decides x.text x.text).1 refl in (
      ap (λ (b : Bool). b || list_any (bytes_eq x.text) (map text_of xs)) here,
      each_weaker
          (IsIn (map text_of xs))
          (IsIn (x.text ∷ map text_of xs))
          (λ y h. or_right (bytes_eq y.text x.text) (list_any (bytes_eq y.text) (map text_of xs)) h)
          xs
          (own_names xs),
    )

-- what is known of a declaration
pub record Known (g : Spaces) (d : t.Decl) : Type 0 where
  pub grammar : IsDecl d
  pub faultless : decl_faults g d ≡ []
  pub declared : Each (IsIn g.procedures) (procedure_ids_of d)

known_from : (g : Spaces) (ds : List t.Decl) → Each IsDecl ds → flat_map (decl_faults g) ds ≡ [] → Each (IsIn g.procedures) (procedure_ids ds) → Each (Known g) ds
known_from g [] i h n = tt
known_from g (d ∷ ds) i h n =
    let parts = empty_parts (decl_faults g d) (flat_map (decl_faults g) ds) h in
    let names = each_split (IsIn g.procedures) (procedure_ids_of d) (procedure_ids ds) n in
    (record { grammar = i.0; faultless = parts.0; declared = names.0 }, known_from g ds i.1 parts.1 names.1)

pub once_of : (ds : List t.Decl) → plain_faults ds ≡ [] → repeated ds ≡ []
once_of ds h = (empty_parts (repeated ds) (flat_map (decl_faults (spaces_of ds)) ds) h).0

pub all_known : (ds : List t.Decl) → Each IsDecl ds → plain_faults ds ≡ [] → Each (Known (spaces_of ds)) ds
all_known ds i h =
    let parts = empty_parts (repeated ds) (flat_map (decl_faults (spaces_of ds)) ds) h in
    let names : (spaces_of ds).procedures ≡ map text_of (procedure_ids ds) = names_are (procedure_ids ds) (are_once ds parts.0).procedures in
    let own = subst (λ (l : List (List ℕ)). Each (IsIn l) (procedure_ids ds)) (sym names) (own_names (procedure_ids ds)) in
    known_from (spaces_of ds) ds i parts.1 own
