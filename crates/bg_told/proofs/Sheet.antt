-- What is said of a program's declarations is told by the opened one.
use Rattle.std.proofs.Common.{◌≡◌, ℕ, zero, suc, ◌-◌, ◌<◌, ◌≤◌, arith, Bool, Some, get_or, List, [], ◌∷◌, ◌++◌, map, take, drop, length, refl, sym, ap, ◌∙◌}
use Rattle.std.specs.Prelude.{filter, slice_get}
use Rattle.bg_ast.specs.Resolved as r
use Rattle.bg_ast.specs.declared.resolved.Implementation.{Implementation}
use Rattle.bg_ast.specs.declared.resolved.TypeName.{TypeName}
use Rattle.bg_ast.specs.Views.{program_of, impl_of, type_name_of}
use Rattle.bg_places.specs.Placed.{Placed, placed, placed_from}
use Rattle.bg_opened.specs.Written.{global_for, bodiless, claims, opened_in, opened_proc, opened_impl, opened_program}
use Rattle.bg_carried.proofs.Placing.{impl_placed}
use Rattle.bg_expanded.specs.Chains.{most_bodies}
use Rattle.bg_inference.specs.declared.outcome.Outcome.{Outcome}
use Rattle.bg_inference.specs.Outcomes.{has_body}
use Rattle.bg_told.specs.Places.{Named}
use Rattle.bg_told.specs.Sheets.{Head, Sheet, head_of, type_name, named_in, sheet_of}
use Rattle.bg_told.specs.declared.declared.Declarations.{Declarations}
use Rattle.bg_told.specs.Entries.{declared_types, types_in, all_named, outer_in, sheet_told, sheet_in, IsOf}
use Rattle.bg_told.specs.History.{has_candidate, guarded}

take_front : {A : Type 0} (xs ys : List A) → take (length xs) (xs ++ ys) ≡ xs
take_front [] ys = refl
take_front (x ∷ xs) ys = ap (λ l. x ∷ l) (take_front xs ys)

drop_front : {A : Type 0} (xs ys : List A) → drop (length xs) (xs ++ ys) ≡ ys
drop_front [] ys = refl
drop_front (x ∷ xs) ys = drop_front xs ys

pub map_drop : {A B : Type 0} (f : A → B) (n : ℕ) (xs : List A) → map f (drop n xs) ≡ drop n (map f xs)
map_drop f zero xs = refl
map_drop f (suc n) [] = refl
map_drop f (suc n) (x ∷ xs) = map_drop f n xs

pub map_take : {A B : Type 0} (f : A → B) (n : ℕ) (xs : List A) → map f (take n xs) ≡ take n (map f xs)
map_take f zero xs = refl
map_take f (suc n) [] = refl
map_take f (suc n) (x ∷ xs) = ap (λ l. f x ∷ l) (map_take f n xs)

take_all : {A : Type 0} (n : ℕ) (xs : List A) → length xs ≤ n → take n xs ≡ xs
take_all zero [] h = refl
take_all (suc n) [] h = refl
take_all zero (x ∷ xs) h = absurd (omega (arith, h))
take_all (suc n) (x ∷ xs) h = ap (λ l. x ∷ l) (take_all n xs (omega (arith, h)))

length_drop : {A : Type 0} (n : ℕ) (xs : List A) → length (drop n xs) ≡ length xs - n
length_drop zero xs = omega arith
length_drop (suc n) [] = omega arith
length_drop (suc n) (x ∷ xs) = let h = length_drop n xs in omega (arith, h)

-- what is behind so many
pub tail_taken : {A : Type 0} (n : ℕ) (xs : List A) → take (length xs - n) (drop n xs) ≡ drop n xs
tail_taken n xs = let h = length_drop n xs in take_all (length xs - n) (drop n xs) (omega (arith, h))

pub at_heads : (ms : List Implementation) (k : ℕ) (m : Implementation) → k < length ms → m ≡ get_or ms k m → slice_get (map head_of (map impl_of ms)) k ≡ Some (head_of (impl_of m))
at_heads [] k m h e = absurd (omega (arith, h))
at_heads (x ∷ ms) zero m h e = ap (λ y. Some (head_of (impl_of y))) (sym e)
at_heads (x ∷ ms) (suc k) m h e = at_heads ms k m (omega (arith, h)) e

pub at_types : (ds : List TypeName) (t : ℕ) (d : TypeName) → t < length ds → d ≡ get_or ds t d → slice_get (types_in ds) t ≡ Some (type_name (type_name_of d))
at_types [] t d h e = absurd (omega (arith, h))
at_types (x ∷ ds) zero d h e = ap (λ y. Some (type_name (type_name_of y))) (sym e)
at_types (x ∷ ds) (suc t) d h e = at_types ds t d (omega (arith, h)) e

heads_same : (o : r.Ex → r.Ex) (axioms : List r.Ex) (ms : List r.Impl) → map head_of (map (opened_impl o axioms) ms) ≡ map head_of ms
heads_same o axioms [] = refl
heads_same o axioms (m ∷ ms) = ap (λ (hs : List Head). head_of m ∷ hs) (heads_same o axioms ms)

-- opened functions have no body: which had one is told beside them
named_same : (types : List r.TypeName) (fs : List r.Fun) → all_named types (map bodiless fs) (map has_body fs) ≡ map (named_in types) fs
named_same types [] = refl
named_same types (f ∷ fs) = ap (λ (l : List Named). named_in types f ∷ l) (named_same types fs)

sheets : (p : r.Program) → sheet_told (length p.globals) (map has_body p.functions) (opened_program most_bodies p) ≡ sheet_of p
sheets p =
    rw (drop_front p.globals (map global_for p.constants), take_front p.globals (map global_for p.constants), named_same p.types p.functions, heads_same (opened_in most_bodies p) (claims p) p.implementations) refl

pub sheet_same : (p : r.Program) (o : Outcome) → IsOf p o → sheet_in o ≡ sheet_of p
sheet_same p o h =
    ap (λ (n : ℕ). sheet_told n o.bodies.items (program_of o.opened)) h.1
    ∙ ap (λ (bs : List Bool). sheet_told (length p.globals) bs (program_of o.opened)) h.2
    ∙ ap (sheet_told (length p.globals) (map has_body p.functions)) h.0
    ∙ sheets p

-- what all implementations see, part by part
pub outer_same : (ds : Declarations) (s : Sheet) → (outer_in ds).types ≡ s.outer.types → (outer_in ds).constants ≡ s.outer.constants → (outer_in ds).functions ≡ s.outer.functions → (outer_in ds).globals ≡ s.outer.globals → outer_in ds ≡ s.outer
outer_same ds s t a b c = rw (a, b, c, t) refl

module _ (p : r.Program) where
  from_same : (k : ℕ) (ms : List r.Impl) → placed_from (map (opened_proc (opened_in most_bodies p)) p.procedures) k (map (opened_impl (opened_in most_bodies p) (claims p)) ms) ≡ placed_from p.procedures k ms
  from_same k [] = refl
  from_same k (m ∷ ms) =
      ap (λ (xs : List Placed). xs ++ placed_from (map (opened_proc (opened_in most_bodies p)) p.procedures) (suc k) (map (opened_impl (opened_in most_bodies p) (claims p)) ms)) (impl_placed (opened_in most_bodies p) p.procedures (claims p) k m)
      ∙ ap (λ (xs : List Placed). Rattle.bg_places.specs.Placed.placed_impl p.procedures k m ++ xs) (from_same (suc k) ms)

  pub guarded_same : guarded (opened_program most_bodies p) ≡ guarded p
  guarded_same = ap (filter has_candidate) (from_same 0 p.implementations)
