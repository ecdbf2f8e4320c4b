use Rattle.std.proofs.Common.{◌≡◌, ◌≢◌, ℕ, Bool, true, false, if◌then◌else◌, List, [], ◌∷◌, ◌++◌, codes, flat_map, map, sym, ap, ◌∙◌, append_assoc, arith, refl}
use Rattle.std.proofs.lemmas.List.{append_cancel_left}
use Rattle.bg_ast.specs.Values.{Ty, Val, Table}
use Rattle.bg_ast.specs.Execution.{Interp, Choice}
use Rattle.bg_places.specs.Placed.{Placed}
use Rattle.bg_sound.specs.Told.{Why, Verdict, Proved, Refuted, Unknown, Judged, SomeRefuted}
use Rattle.bg_told.specs.Kept.{why_text, kept_text}
use Rattle.bg_told.specs.Lines.{texts}
use Rattle.bg_told.specs.ValueTexts.{value_text, table_text}
use Rattle.bg_lines.specs.Lines.{line}
use Rattle.bg_told.specs.Places.{Variable, Named, Names, told_text, constant_text, function_text, variable_text, chosen_text, choice_text, interp_text, unknown_text, verdict_text, judged_text}
use Rattle.bg_lines.specs.Places.{place_text}
use Rattle.bg_told.proofs.Cuts.{IsFlat, append_is_flat, word_is_flat, cut, place_is_flat, value_is_flat, table_is_flat, chosen_is_flat, why_is_flat, kept_is_flat}

abbrev pub first : List ℕ → ℕ
first [] = 0
first (a ∷ as') = a

abbrev pub third : List ℕ → ℕ
third (a ∷ b ∷ c ∷ rest) = c
third _ = 0

abbrev pub fifth : List ℕ → ℕ
fifth (a ∷ b ∷ c ∷ d ∷ e ∷ rest) = e
fifth _ = 0

abbrev pub sixth : List ℕ → ℕ
sixth (a ∷ b ∷ c ∷ d ∷ e ∷ f ∷ rest) = f
sixth _ = 0

abbrev pub seventh : List ℕ → ℕ
seventh (a ∷ b ∷ c ∷ d ∷ e ∷ f ∷ g ∷ rest) = g
seventh _ = 0

-- the text begins with no constant's line, no function's, no value's, and no choice's
pub record IsPast (text : List ℕ) : Type 0 where
  pub no_constant : sixth text ≢ 111
  pub no_function : seventh text ≢ 110
  pub no_value : fifth text ≢ 118
  pub no_choice : third text ≢ 32

-- nor does it with a place's line
pub record IsHead (text : List ℕ) : Type 0 where
  pub no_place : first text ≢ 32
  pub past : IsPast text

-- where types have these names
module _ (types : List (List ℕ)) where
  value_cells : (a : Variable) (v : Val) (x : List ℕ) → variable_text types a v ++ x ≡ (codes "    var " ++ a.name ++ codes " = ") ++ (value_text types a.ty v ++ (10 ∷ x))
  value_cells a v x = simp append_assoc

  value_apart : (a : Variable) (v w : Val) (x y : List ℕ) → variable_text types a v ++ x ≡ variable_text types a w ++ y → x ≡ y
  value_apart a v w x y h =
      cut (value_text types a.ty v) (value_text types a.ty w) x y (value_is_flat types a.ty v) (value_is_flat types a.ty w)
      (append_cancel_left (codes "    var " ++ a.name ++ codes " = ") _ _ (sym (value_cells a v x) ∙ h ∙ value_cells a w y))

  -- the values of one row of names end where no value's line follows
  values_apart : (names : List Variable) (vs ws : List Val) (x y : List ℕ) → fifth x ≢ 118 → fifth y ≢ 118 → texts (variable_text types) names vs ++ x ≡ texts (variable_text types) names ws ++ y → x ≡ y
  values_apart [] vs ws x y hx hy h = h
  values_apart (n ∷ ns) [] [] x y hx hy h = h
  values_apart (n ∷ ns) (v ∷ vs) [] x y hx hy h = absurd (hy (sym (ap fifth h)))
  values_apart (n ∷ ns) [] (w ∷ ws) x y hx hy h = absurd (hx (ap fifth h))
  values_apart (n ∷ ns) (v ∷ vs) (w ∷ ws) x y hx hy h =
      values_apart ns vs ws x y hx hy
      (value_apart n v w _ _ (sym (append_assoc (variable_text types n v) (texts (variable_text types) ns vs) x) ∙ h ∙ append_assoc (variable_text types n w) (texts (variable_text types) ns ws) y))

  constant_cells : (a : Variable) (v : Val) (x : List ℕ) → constant_text types a v ++ x ≡ (codes "    const " ++ a.name ++ codes " = ") ++ (value_text types a.ty v ++ (10 ∷ x))
  constant_cells a v x = simp append_assoc

  constant_apart : (a : Variable) (v w : Val) (x y : List ℕ) → constant_text types a v ++ x ≡ constant_text types a w ++ y → x ≡ y
  constant_apart a v w x y h =
      cut (value_text types a.ty v) (value_text types a.ty w) x y (value_is_flat types a.ty v) (value_is_flat types a.ty w)
      (append_cancel_left (codes "    const " ++ a.name ++ codes " = ") _ _ (sym (constant_cells a v x) ∙ h ∙ constant_cells a w y))

  -- and those of constants where no constant's line follows
  constants_apart : (names : List Variable) (vs ws : List Val) (x y : List ℕ) → sixth x ≢ 111 → sixth y ≢ 111 → texts (constant_text types) names vs ++ x ≡ texts (constant_text types) names ws ++ y → x ≡ y
  constants_apart [] vs ws x y hx hy h = h
  constants_apart (n ∷ ns) [] [] x y hx hy h = h
  constants_apart (n ∷ ns) (v ∷ vs) [] x y hx hy h = absurd (hy (sym (ap sixth h)))
  constants_apart (n ∷ ns) [] (w ∷ ws) x y hx hy h = absurd (hx (ap sixth h))
  constants_apart (n ∷ ns) (v ∷ vs) (w ∷ ws) x y hx hy h =
      constants_apart ns vs ws x y hx hy
      (constant_apart n v w _ _ (sym (append_assoc (constant_text types n v) (texts (constant_text types) ns vs) x) ∙ h ∙ append_assoc (constant_text types n w) (texts (constant_text types) ns ws) y))

  -- ---- functions

  function_cells : (a b x : List ℕ) → line (a ++ b) ++ x ≡ a ++ (b ++ (10 ∷ x))
  function_cells a b x = simp append_assoc

  function_apart : (f : Named) (t u : Table) (x y : List ℕ) → function_text types f t ++ x ≡ function_text types f u ++ y → x ≡ y
  function_apart f t u x y = by f.has_body
    where
      by : (b : Bool) → (if b then [] else line (codes "    function " ++ f.name ++ codes " = " ++ table_text types f.params f.result t)) ++ x ≡ (if b then [] else line (codes "    function " ++ f.name ++ codes " = " ++ table_text types f.params f.result u)) ++ y → x ≡ y
      by true h = h
      by false h =
          cut (table_text types f.params f.result t) (table_text types f.params f.result u) x y (table_is_flat types f.params f.result t) (table_is_flat types f.params f.result u)
          (append_cancel_left (codes "    function " ++ f.name ++ codes " = ") _ _ (sym (function_cells (codes "    function " ++ f.name ++ codes " = ") (table_text types f.params f.result t) x) ∙ h ∙ function_cells (codes "    function " ++ f.name ++ codes " = ") (table_text types f.params f.result u) y))

  -- a function without a body has a line
  function_first : (f : Named) (t : Table) (x y : List ℕ) → seventh y ≢ 110 → function_text types f t ++ x ≡ y → x ≡ y
  function_first f t x y hy = by f.has_body
    where
      by : (b : Bool) → (if b then [] else line (codes "    function " ++ f.name ++ codes " = " ++ table_text types f.params f.result t)) ++ x ≡ y → x ≡ y
      by true h = h
      by false h = absurd (hy (sym (ap seventh h)))

  functions_end : (fs : List Named) (ts : List Table) (x y : List ℕ) → seventh y ≢ 110 → texts (function_text types) fs ts ++ x ≡ y → x ≡ y
  functions_end [] ts x y hy h = h
  functions_end (f ∷ fs) [] x y hy h = h
  functions_end (f ∷ fs) (t ∷ ts) x y hy h =
      functions_end fs ts x y hy
      (function_first f t (texts (function_text types) fs ts ++ x) y hy (sym (append_assoc (function_text types f t) (texts (function_text types) fs ts) x) ∙ h))

  -- the tables of functions end where no function's line follows
  functions_apart : (fs : List Named) (ts us : List Table) (x y : List ℕ) → seventh x ≢ 110 → seventh y ≢ 110 → texts (function_text types) fs ts ++ x ≡ texts (function_text types) fs us ++ y → x ≡ y
  functions_apart [] ts us x y hx hy h = h
  functions_apart (f ∷ fs) [] [] x y hx hy h = h
  functions_apart (f ∷ fs) (t ∷ ts) [] x y hx hy h = functions_end (f ∷ fs) (t ∷ ts) x y hy h
  functions_apart (f ∷ fs) [] (u ∷ us) x y hx hy h = sym (functions_end (f ∷ fs) (u ∷ us) y x hx (sym h))
  functions_apart (f ∷ fs) (t ∷ ts) (u ∷ us) x y hx hy h =
      functions_apart fs ts us x y hx hy
      (function_apart f t u _ _ (sym (append_assoc (function_text types f t) (texts (function_text types) fs ts) x) ∙ h ∙ append_assoc (function_text types f u) (texts (function_text types) fs us) y))

  -- a function's line is no constant's
  no_constant_function : (fs : List Named) (ts : List Table) (z : List ℕ) → sixth z ≢ 111 → sixth (texts (function_text types) fs ts ++ z) ≢ 111
  no_constant_function [] ts z h = h
  no_constant_function (f ∷ fs) [] z h = h
  no_constant_function (f ∷ fs) (t ∷ ts) z h = by (no_constant_function fs ts z h) f.has_body
    where
      by : sixth (texts (function_text types) fs ts ++ z) ≢ 111 → (b : Bool) → sixth (((if b then [] else line (codes "    function " ++ f.name ++ codes " = " ++ table_text types f.params f.result t)) ++ texts (function_text types) fs ts) ++ z) ≢ 111
      by more true = more
      by more false = λ e. let g : 117 ≡ 111 = e in omega (arith, g)

  -- ---- choices, each behind its type

  abbrev line_of : Ty × Choice → List ℕ
  line_of c = choice_text types c.0 c.1

  choice_cells : (c : Ty × Choice) (x : List ℕ) → line_of c ++ x ≡ codes "    choice " ++ (chosen_text types c.0 c.1 ++ (10 ∷ x))
  choice_cells c x = append_assoc (codes "    choice " ++ chosen_text types c.0 c.1) (10 ∷ []) x

  choice_apart : (c d : Ty × Choice) (x y : List ℕ) → line_of c ++ x ≡ line_of d ++ y → x ≡ y
  choice_apart c d x y h =
      cut (chosen_text types c.0 c.1) (chosen_text types d.0 d.1) x y (chosen_is_flat types c.0 c.1) (chosen_is_flat types d.0 d.1)
      (append_cancel_left (codes "    choice ") _ _ (sym (choice_cells c x) ∙ h ∙ choice_cells d y))

  -- the choices end where no choice's line follows
  choices_apart : (cs ds : List (Ty × Choice)) (x y : List ℕ) → third x ≢ 32 → third y ≢ 32 → flat_map line_of cs ++ x ≡ flat_map line_of ds ++ y → x ≡ y
  choices_apart [] [] x y hx hy h = h
  choices_apart (c ∷ cs) [] x y hx hy h = absurd (hy (sym (ap third h)))
  choices_apart [] (d ∷ ds) x y hx hy h = absurd (hx (ap third h))
  choices_apart (c ∷ cs) (d ∷ ds) x y hx hy h =
      choices_apart cs ds x y hx hy
      (choice_apart c d _ _ (sym (append_assoc (line_of c) (flat_map line_of cs) x) ∙ h ∙ append_assoc (line_of d) (flat_map line_of ds) y))

  -- behind the values
  no_value_behind : (cs : List (Ty × Choice)) (x : List ℕ) → IsPast x → fifth (flat_map line_of cs ++ x) ≢ 118
  no_value_behind [] x h = h.no_value
  no_value_behind (c ∷ cs) x h = λ e. let f : 99 ≡ 118 = e in omega (arith, f)

  -- behind the functions' tables
  no_function_behind : (ns : List Variable) (vs : List Val) (cs : List (Ty × Choice)) (x : List ℕ) → IsPast x → seventh (texts (variable_text types) ns vs ++ (flat_map line_of cs ++ x)) ≢ 110
  no_function_behind [] vs [] x h = h.no_function
  no_function_behind [] vs (c ∷ cs) x h = λ e. let f : 111 ≡ 110 = e in omega (arith, f)
  no_function_behind (n ∷ ns) [] [] x h = h.no_function
  no_function_behind (n ∷ ns) [] (c ∷ cs) x h = λ e. let f : 111 ≡ 110 = e in omega (arith, f)
  no_function_behind (n ∷ ns) (v ∷ vs) cs x h = λ e. let f : 114 ≡ 110 = e in omega (arith, f)

  -- behind the constants' values
  no_constant_behind : (ns : List Variable) (vs : List Val) (cs : List (Ty × Choice)) (x : List ℕ) → IsPast x → sixth (texts (variable_text types) ns vs ++ (flat_map line_of cs ++ x)) ≢ 111
  no_constant_behind [] vs [] x h = h.no_constant
  no_constant_behind [] vs (c ∷ cs) x h = λ e. let f : 104 ≡ 111 = e in omega (arith, f)
  no_constant_behind (n ∷ ns) [] [] x h = h.no_constant
  no_constant_behind (n ∷ ns) [] (c ∷ cs) x h = λ e. let f : 104 ≡ 111 = e in omega (arith, f)
  no_constant_behind (n ∷ ns) (v ∷ vs) cs x h = λ e. let f : 97 ≡ 111 = e in omega (arith, f)

refuted_cells : (a k f t u x : List ℕ) → (line (codes "  refuted " ++ a) ++ ((k ++ f) ++ (t ++ u))) ++ x ≡ codes "  refuted " ++ (a ++ (10 ∷ (k ++ (f ++ (t ++ (u ++ x))))))
refuted_cells a k f t u x = by (codes "  refuted ")
  where
    by : (c : List ℕ) → (line (c ++ a) ++ ((k ++ f) ++ (t ++ u))) ++ x ≡ c ++ (a ++ (10 ∷ (k ++ (f ++ (t ++ (u ++ x))))))
    by c = simp append_assoc

unknown_cells : (a w d x : List ℕ) → ((codes "  unknown " ++ a) ++ (line (codes " " ++ w) ++ line (codes "    kept " ++ d))) ++ x ≡ codes "  unknown " ++ ((a ++ (codes " " ++ w)) ++ (10 ∷ (codes "    kept " ++ (d ++ (10 ∷ x)))))
unknown_cells a w d x = two_lines (codes "  unknown ") a (codes " " ++ w) (codes "    kept ") d x
  where
    two_lines : (c a m k d x : List ℕ) → ((c ++ a) ++ (line m ++ line (k ++ d))) ++ x ≡ c ++ ((a ++ m) ++ (10 ∷ (k ++ (d ++ (10 ∷ x)))))
    two_lines c a m k d x = simp append_assoc

-- choices behind their types, as far as both go
abbrev pairs : List Ty → List Choice → List (Ty × Choice)
pairs [] cs = []
pairs (t ∷ ts) [] = []
pairs (t ∷ ts) (c ∷ cs) = (t, c) ∷ pairs ts cs

paired : (types : List (List ℕ)) (ts : List Ty) (cs : List Choice) → texts (choice_text types) ts cs ≡ flat_map (line_of types) (pairs ts cs)
paired types [] cs = refl
paired types (t ∷ ts) [] = refl
paired types (t ∷ ts) (c ∷ cs) = ap (λ (u : List ℕ). choice_text types t c ++ u) (paired types ts cs)

-- a refuted place, and how it fails
abbrev example_text : Names → Placed → Interp → List Val → List (Ty × Choice) → List ℕ
example_text names a i values cs =
    line (told_text SomeRefuted a) ++ (interp_text names.types names.constants names.functions i ++ (texts (variable_text names.types) names.variables values ++ flat_map (line_of names.types) cs))

refuted_apart : (names : Names) (p q : Placed) (i j : Interp) (vs ws : List Val) (cs ds : List (Ty × Choice)) (x y : List ℕ) → IsPast x → IsPast y → example_text names p i vs cs ++ x ≡ example_text names q j ws ds ++ y → x ≡ y
refuted_apart names p q i j vs ws cs ds x y hx hy h =
    choices_apart names.types cs ds x y hx.no_choice hy.no_choice
    (values_apart names.types names.variables vs ws (flat_map (line_of names.types) cs ++ x) (flat_map (line_of names.types) ds ++ y) (no_value_behind names.types cs x hx) (no_value_behind names.types ds y hy)
    (functions_apart names.types names.functions i.tables j.tables _ _ (no_function_behind names.types names.variables vs cs x hx) (no_function_behind names.types names.variables ws ds y hy)
    (constants_apart names.types names.constants i.constants j.constants _ _ (no_constant_function names.types names.functions i.tables _ (no_constant_behind names.types names.variables vs cs x hx)) (no_constant_function names.types names.functions j.tables _ (no_constant_behind names.types names.variables ws ds y hy))
    (cut (place_text p) (place_text q) _ _ (place_is_flat p) (place_is_flat q)
    (append_cancel_left (codes "  refuted ") _ _ (sym (refuted_cells (place_text p) (texts (constant_text names.types) names.constants i.constants) (texts (function_text names.types) names.functions i.tables) (texts (variable_text names.types) names.variables vs) (flat_map (line_of names.types) cs) x) ∙ h ∙ refuted_cells (place_text q) (texts (constant_text names.types) names.constants j.constants) (texts (function_text names.types) names.functions j.tables) (texts (variable_text names.types) names.variables ws) (flat_map (line_of names.types) ds) y))))))

unknown_apart : (p q : Placed) (v w : Why) (x y : List ℕ) → unknown_text p v ++ x ≡ unknown_text q w ++ y → x ≡ y
unknown_apart p q v w x y h =
    cut (kept_text v) (kept_text w) x y (kept_is_flat v) (kept_is_flat w)
    (append_cancel_left (codes "    kept ") _ _
    (cut (place_text p ++ (codes " " ++ why_text v)) (place_text q ++ (codes " " ++ why_text w)) _ _ (flat_front p v) (flat_front q w)
    (append_cancel_left (codes "  unknown ") _ _
    (sym (unknown_cells (place_text p) (why_text v) (kept_text v) x) ∙ h ∙ unknown_cells (place_text q) (why_text w) (kept_text w) y))))
  where
    flat_front : (a : Placed) (why : Why) → IsFlat (place_text a ++ (codes " " ++ why_text why))
    flat_front a why =
        append_is_flat (place_text a) (codes " " ++ why_text why) (place_is_flat a) (append_is_flat (codes " ") (why_text why) (word_is_flat (codes " ") refl) (why_is_flat why))

-- a place's part of a report: nothing, or that of a refuted or an unknown place
data Shape : Type 0 where
  Nothing : Shape
  Shown : Placed → Interp → List Val → List (Ty × Choice) → Shape
  Spent : Placed → Why → Shape

abbrev shape_text : Names → Shape → List ℕ
shape_text names Nothing = []
shape_text names (Shown p i vs cs) = example_text names p i vs cs
shape_text names (Spent p ns) = unknown_text p ns

abbrev shape_by : Placed → Verdict → Shape
shape_by p Proved = Nothing
shape_by p (Refuted i s ts choices) = Shown p i (s.globals ++ s.frame) (pairs ts choices)
shape_by p (Unknown why) = Spent p why

abbrev shape_of : Judged → Shape
shape_of j = shape_by j.placed j.verdict

shaped : (names : Names) (p : Placed) (v : Verdict) → verdict_text names p v ≡ shape_text names (shape_by p v)
shaped names p Proved = refl
shaped names p (Refuted i s ts choices) =
    ap (λ (u : List ℕ). line (told_text SomeRefuted p) ++ (interp_text names.types names.constants names.functions i ++ (texts (variable_text names.types) names.variables (s.globals ++ s.frame) ++ u))) (paired names.types ts choices)
shaped names p (Unknown why) = refl

abbrev shapes_text : Names → List Shape → List ℕ
shapes_text names = flat_map (shape_text names)

all_shaped : (names : Names) (js : List Judged) → flat_map (judged_text names) js ≡ shapes_text names (map shape_of js)
all_shaped names [] = refl
all_shaped names (j ∷ js) =
    ap (λ (t : List ℕ). t ++ flat_map (judged_text names) js) (shaped names j.placed j.verdict)
    ∙ ap (λ (t : List ℕ). shape_text names (shape_of j) ++ t) (all_shaped names js)

past_shapes : (names : Names) (ss : List Shape) (x : List ℕ) → IsPast x → IsPast (shapes_text names ss ++ x)
past_shapes names [] x hx = hx
past_shapes names (Nothing ∷ ss) x hx = past_shapes names ss x hx
past_shapes names (Shown p i vs cs ∷ ss) x hx = record { no_constant = λ e. omega (arith, e); no_function = λ e. omega (arith, e); no_value = λ e. omega (arith, e); no_choice = λ e. omega (arith, e) }
past_shapes names (Spent p ns ∷ ss) x hx = record { no_constant = λ e. omega (arith, e); no_function = λ e. omega (arith, e); no_value = λ e. omega (arith, e); no_choice = λ e. omega (arith, e) }

-- where no place is told, none is on the other side
none_apart : (names : Names) (ss : List Shape) (x y : List ℕ) → IsHead x → x ≡ shapes_text names ss ++ y → x ≡ y
none_apart names [] x y hx h = h
none_apart names (Nothing ∷ ss) x y hx h = none_apart names ss x y hx h
none_apart names (Shown p i vs cs ∷ ss) x y hx h = absurd (hx.no_place (ap first h))
none_apart names (Spent p ns ∷ ss) x y hx h = absurd (hx.no_place (ap first h))

-- a refuted place, and then a text t that is read in one way
refuted_first : (names : Names) (q : Placed) (j : Interp) (ws : List Val) (ds : List (Ty × Choice)) (ss : List Shape) (t x y : List ℕ) → IsPast t → IsHead y → ((rest : List Shape) → t ≡ shapes_text names rest ++ y → x ≡ y) → example_text names q j ws ds ++ t ≡ shapes_text names ss ++ y → x ≡ y
refuted_first names q j ws ds [] t x y ht hy ih h = absurd (hy.no_place (sym (ap first h)))
refuted_first names q j ws ds (Nothing ∷ ss) t x y ht hy ih h = refuted_first names q j ws ds ss t x y ht hy ih h
refuted_first names q j ws ds (Shown p i vs cs ∷ ss) t x y ht hy ih h =
    ih ss (refuted_apart names q p j i ws vs ds cs t _ ht (past_shapes names ss y hy.past) (h ∙ append_assoc (example_text names p i vs cs) (shapes_text names ss) y))
refuted_first names q j ws ds (Spent p ns ∷ ss) t x y ht hy ih h = let e : 114 ≡ 117 = ap third h in absurd (omega (arith, e))

-- an unknown place, and then a text t that is read in one way
unknown_first : (names : Names) (q : Placed) (ms : Why) (ss : List Shape) (t x y : List ℕ) → IsHead y → ((rest : List Shape) → t ≡ shapes_text names rest ++ y → x ≡ y) → unknown_text q ms ++ t ≡ shapes_text names ss ++ y → x ≡ y
unknown_first names q ms [] t x y hy ih h = absurd (hy.no_place (sym (ap first h)))
unknown_first names q ms (Nothing ∷ ss) t x y hy ih h = unknown_first names q ms ss t x y hy ih h
unknown_first names q ms (Shown p i vs cs ∷ ss) t x y hy ih h = let e : 117 ≡ 114 = ap third h in absurd (omega (arith, e))
unknown_first names q ms (Spent p ns ∷ ss) t x y hy ih h =
    ih ss (unknown_apart q p ms ns t _ (h ∙ append_assoc (unknown_text p ns) (shapes_text names ss) y))

shapes_apart : (names : Names) (ss rs : List Shape) (x y : List ℕ) → IsHead x → IsHead y → shapes_text names ss ++ x ≡ shapes_text names rs ++ y → x ≡ y
shapes_apart names [] rs x y hx hy h = none_apart names rs x y hx h
shapes_apart names (Nothing ∷ ss) rs x y hx hy h = shapes_apart names ss rs x y hx hy h
shapes_apart names (Shown p i vs cs ∷ ss) rs x y hx hy h =
    refuted_first names p i vs cs rs (shapes_text names ss ++ x) x y (past_shapes names ss x hx.past) hy
    (λ (rest : List Shape). shapes_apart names ss rest x y hx hy)
    (sym (append_assoc (example_text names p i vs cs) (shapes_text names ss) x) ∙ h)
shapes_apart names (Spent p ns ∷ ss) rs x y hx hy h =
    unknown_first names p ns rs (shapes_text names ss ++ x) x y hy
    (λ (rest : List Shape). shapes_apart names ss rest x y hx hy)
    (sym (append_assoc (unknown_text p ns) (shapes_text names ss) x) ∙ h)

-- what follows the places of one implementation
pub places_apart : (names : Names) (js ks : List Judged) (x y : List ℕ) → IsHead x → IsHead y → flat_map (judged_text names) js ++ x ≡ flat_map (judged_text names) ks ++ y → x ≡ y
places_apart names js ks x y hx hy h =
    shapes_apart names (map shape_of js) (map shape_of ks) x y hx hy
    (ap (λ (t : List ℕ). t ++ x) (sym (all_shaped names js)) ∙ h ∙ ap (λ (t : List ℕ). t ++ y) (all_shaped names ks))
