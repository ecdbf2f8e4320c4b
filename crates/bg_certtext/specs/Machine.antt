-- The reader as a machine: what is read so far, and what the next line makes of it.
use Rattle.std.specs.Prelude.{◌≡◌, ℕ, zero, suc, ◌+◌, ◌-◌, ◌≤◌, ◌==◌, Bool, true, false, not, ◌&&◌, List, [], ◌∷◌, ◌++◌, length, map, flat_map, codes, Result, Ok, Err, Option, Some, None, option_map, ℤ, pos, negsuc, int_le, nat_lt, nat_le, if◌then◌else◌, take, drop}
use Rattle.std.specs.Str.{bytes_eq}
use Rattle.std.specs.List.{list_all}
use Rattle.bg_rows.specs.declared.step.Step.{Step}
use Rattle.bg_rows.specs.declared.step.Step.TheVariants.{Path, Sum, Tight}
use Rattle.bg_cert.specs.declared.cert.Named.{Named}
use Rattle.bg_cert.specs.declared.cert.Named.TheVariants.{OfAtom, OfRow}
use Rattle.bg_certtext.specs.declared.text.Term.{Term}
use Rattle.bg_certtext.specs.declared.text.Stated.{Stated}
use Rattle.bg_certtext.specs.declared.text.Stated.TheVariants as said
use Rattle.bg_certtext.specs.Views.{PartOf, AtNumber, AtElement, ValueOf, Truth, Number, Element, Default, with_slots}
use Rattle.bg_certtext.specs.declared.draft.Stage.{Stage}
use Rattle.bg_certtext.specs.declared.draft.Stage.TheVariants as at
use Rattle.bg_certtext.specs.declared.draft.Draft.{Draft}
use Rattle.bg_certtext.specs.declared.error.ReadError.{ReadError}
use Rattle.bg_certtext.specs.declared.error.ReadError.TheVariants as errors
use Rattle.bg_certtext.specs.declared.text.CertText.{CertText}
use Rattle.bg_certtext.specs.Lines.{line, spaced}
use Rattle.bg_certtext.specs.Views.{cert_of, RowOf, NodeOf, Splits, Bounds, Cuts, Learns, IsClause, IsUnit, IsKnown, Derives, SectionOf, GivenOf, EntryOf, FunctionOf, InterpOf, CertOf, interp_of, section_of, row_of, node_of}
use Rattle.bg_certtext.specs.Spellable.{is_empty, is_name, is_type, is_factor, are_slots, are_entries, children}
use Rattle.bg_certtext.specs.Words.{natural, integer, words_of, parts_of, is_in_line, is_in_word, word_in, value_end, type_in}

-- ---- options

abbrev pub then_ : {A B : Type 0} → Option A → (A → Option B) → Option B
then_ None f = None
then_ (Some x) f = f x

abbrev pub when : {A : Type 0} → Bool → A → Option A
when true x = Some x
when false x = None

-- ---- the words of a line, behind its first

-- one number
abbrev pub one : List (List ℕ) → Option ℕ
one (a ∷ []) = natural a
one _ = None

-- a number of lines, at least 1
abbrev pub count : List (List ℕ) → Option ℕ
count words = then_ (one words) (λ n. when (not (n == 0)) n)

-- two numbers
abbrev pub two : List (List ℕ) → Option (ℕ × ℕ)
two (a ∷ b ∷ []) = then_ (natural a) (λ m. then_ (natural b) (λ n. Some (m, n)))
two _ = None

-- a number, and a whole number
abbrev pub with_sign : List (List ℕ) → Option (ℕ × ℤ)
with_sign (a ∷ b ∷ []) = then_ (natural a) (λ n. then_ (integer b) (λ z. Some (n, z)))
with_sign _ = None

abbrev pub name_in : List (List ℕ) → Option (List ℕ)
name_in (name ∷ []) = when (is_name name) name
name_in _ = None

-- ---- values

-- what stands in front of the first exclamation mark of a word, and what stands from there on: a number, or an element
abbrev pub marked_in : List ℕ → List ℕ → Option PartOf
marked_in t [] = then_ (integer t) (λ k. Some (AtNumber k))
marked_in t (b ∷ bs) = then_ (integer bs) (λ k. when (is_type t) (AtElement t k))

-- the part of an index that a word is
abbrev pub part_in : List ℕ → Option PartOf
part_in w = marked_in (take (type_in w) w) (drop (type_in w) w)

abbrev pub as_value : PartOf → ValueOf
as_value (AtNumber k) = Number k
as_value (AtElement t k) = Element t k

-- the value, no map, that a word is
abbrev pub value_in : List ℕ → Option ValueOf
value_in w =
    if bytes_eq w (codes "true") then Some (Truth true)
    else (if bytes_eq w (codes "false") then Some (Truth false) else then_ (part_in w) (λ p. Some (as_value p)))

-- the parts that words are
abbrev pub index_in : List (List ℕ) → Option (List PartOf)
index_in [] = Some []
index_in (w ∷ ws) = then_ (part_in w) (λ p. then_ (index_in ws) (λ ps. Some (p ∷ ps)))

-- what stands behind these bytes, where they stand in front
abbrev pub behind : List ℕ → List ℕ → Option (List ℕ)
behind [] bs = Some bs
behind (k ∷ ks) [] = None
behind (k ∷ ks) (b ∷ bs) = if b == k then behind ks bs else None

-- what is read from bytes, and what stands behind it
abbrev pub Got : Type 0 → Type 0
Got A = Option (A × List ℕ)

abbrev pub either : {A B : Type 0} → Option A → (A → B) → B → B
either None f other = other
either (Some x) f other = f x

-- an index ends in front of the first space
abbrev pub index_from : List ℕ → Got (List PartOf)
index_from bs = then_ (index_in (parts_of (take (word_in bs) bs))) (λ k. Some (k, drop (word_in bs) bs))

-- a value that is no map ends in front of the first space, comma or closing bracket
abbrev pub plain_from : List ℕ → Got ValueOf
plain_from bs = then_ (value_in (take (value_end bs) bs)) (λ v. Some (v, drop (value_end bs) bs))

-- rows of a table, the default, and what stands behind the bracket that closes
pub record RowsOf (K : Type 0) : Type 0 where
  pub entries : List (K × ValueOf)
  pub default : ValueOf
  pub rest : List ℕ

module _ {K : Type 0} (key : List ℕ → Got K) (value : List ℕ → Got ValueOf) where
  abbrev pub default_from : List ℕ → Option (RowsOf K)
  default_from bs =
      then_ (value bs) (λ d. then_ (behind (codes "]") d.1) (λ r. Some (record { entries = []; default = d.0; rest = r })))

  abbrev pub row_from : List ℕ → Got (K × ValueOf)
  row_from bs =
      then_ (key bs) (λ k. then_ (behind (codes " := ") k.1) (λ r.
      then_ (value r) (λ v. then_ (behind (codes ", ") v.1) (λ s. Some ((k.0, v.0), s)))))

  -- at most this many rows and the default
  abbrev pub rows_from : ℕ → List ℕ → Option (RowsOf K)
  rows_from zero bs = None
  rows_from (suc n) bs =
      either (behind (codes "else ") bs) default_from
      (then_ (row_from bs) (λ e. then_ (rows_from n e.1) (λ (s : RowsOf K). Some (record s { entries = e.0 ∷ s.entries }))))

-- slots stand in the order of their indices, and none has the default's value
abbrev pub map_of : RowsOf (List PartOf) → Got ValueOf
map_of s = when (are_slots None s.default s.entries) (with_slots s.entries (Default s.default), s.rest)

-- a value of at most so many brackets within one another
abbrev pub value_from : ℕ → List ℕ → Got ValueOf
value_from zero bs = None
value_from (suc n) bs =
    either (behind (codes "[") bs) (λ r. then_ (rows_from index_from (value_from n) n r) map_of) (plain_from bs)

abbrev pub value_at : List ℕ → Got ValueOf
value_at bs = value_from (suc (length bs)) bs

-- at most this many values, with a comma between two
abbrev pub values_from : ℕ → List ℕ → Got (List ValueOf)
values_from zero bs = None
values_from (suc n) bs =
    then_ (value_at bs) (λ v.
    either (behind (codes ",") v.1) (λ r. then_ (values_from n r) (λ vs. Some (v.0 ∷ vs.0, vs.1))) (Some (v.0 ∷ [], v.1)))

-- the arguments of an entry; none in front of a space
abbrev pub key_at : List ℕ → Got (List ValueOf)
key_at bs = either (behind (codes " ") bs) (λ r. Some ([], bs)) (values_from (suc (length bs)) bs)

-- a function's table
abbrev pub table_at : List ℕ → Option (RowsOf (List ValueOf))
table_at bs = then_ (behind (codes "[") bs) (λ r. rows_from key_at value_at (suc (length r)) r)

abbrev pub whole : {A : Type 0} → Got A → Option A
whole o = then_ o (λ p. when (is_empty p.1) p.0)

abbrev pub are_words : List (List ℕ) → Bool
are_words ws = list_all (list_all is_in_word) ws

-- a constant's name and value
abbrev pub given_in : List (List ℕ) → Option GivenOf
given_in [] = None
given_in (name ∷ ws) =
    then_ (when (are_words ws) (spaced ws)) (λ bs. then_ (whole (value_at bs)) (λ v. when (is_name name) (record { name = name; value = v })))

-- a function's name and table
abbrev pub entry_for : List ValueOf × ValueOf → EntryOf
entry_for e = record { key = e.0; value = e.1 }

abbrev pub function_with : List ℕ → RowsOf (List ValueOf) → Option FunctionOf
function_with name s =
    when (is_empty s.rest && (is_name name && are_entries None s.default (map entry_for s.entries))) (record { name = name; entries = map entry_for s.entries; default = s.default })

abbrev pub function_in : List (List ℕ) → Option FunctionOf
function_in [] = None
function_in (name ∷ ws) = then_ (when (are_words ws) (spaced ws)) (λ bs. then_ (table_at bs) (function_with name))

-- ---- the words of other lines

-- a line of terms and instances: two numbers, or three
abbrev pub pair_in : (ℕ → ℕ → Stated) → List (List ℕ) → Option Stated
pair_in f ws = then_ (two ws) (λ p. Some (f p.0 p.1))

abbrev pub triple_in : (ℕ → ℕ → ℕ → Stated) → List (List ℕ) → Option Stated
triple_in f (a ∷ b ∷ c ∷ []) = then_ (natural a) (λ i. then_ (natural b) (λ j. then_ (natural c) (λ k. Some (f i j k))))
triple_in f _ = None

abbrev pub instance_in : List (List ℕ) → Option Stated
instance_in [] = None
instance_in (key ∷ ws) =
    if bytes_eq key (codes "c") then pair_in said.Congruent ws
    else (if bytes_eq key (codes "s") then pair_in said.AtIndex ws
    else (if bytes_eq key (codes "d") then triple_in said.Elsewhere ws
    else (if bytes_eq key (codes "x") then pair_in said.Apart ws else None)))

abbrev pub stated_in : List (List ℕ) → Option Stated
stated_in [] = None
stated_in (key ∷ ws) =
    if bytes_eq key (codes "inst") then instance_in ws
    else (if bytes_eq key (codes "pick") then pair_in said.Pick ws
    else (if bytes_eq key (codes "names") then pair_in said.Names ws
    else (if bytes_eq key (codes "apart") then pair_in said.Unequal ws else None)))

abbrev pub sign_in : ℕ → Option Bool
sign_in b = if b == 43 then Some true else (if b == 45 then Some false else None)

abbrev pub signed_in : Bool → List ℕ → Option Named
signed_in s [] = None
signed_in s (b ∷ bs) =
    if b == 35 then then_ (natural bs) (λ r. Some (OfRow r s)) else then_ (natural (b ∷ bs)) (λ a. Some (OfAtom a s))

abbrev pub literal_in : List ℕ → Option Named
literal_in [] = None
literal_in (b ∷ bs) = then_ (sign_in b) (λ s. signed_in s bs)

abbrev pub literals_in : List (List ℕ) → Option (List Named)
literals_in [] = Some []
literals_in (w ∷ ws) = then_ (literal_in w) (λ l. then_ (literals_in ws) (λ ls. Some (l ∷ ls)))

-- a term that isn't below a number
abbrev pub term_in : ℕ → List ℕ → List ℕ → Option Term
term_in low a b =
    then_ (natural a) (λ t. then_ (integer b) (λ k. when (nat_le low t && is_factor k) (record { term = t; by = k })))

abbrev pub terms_in : ℕ → List (List ℕ) → Option (List Term)
terms_in low [] = Some []
terms_in low (a ∷ []) = None
terms_in low (a ∷ b ∷ ws) =
    then_ (term_in low a b) (λ t. then_ (terms_in (t.term + 1) ws) (λ ts. Some (t ∷ ts)))

abbrev pub row_behind : List (List ℕ) → Option RowOf
row_behind [] = None
row_behind (c ∷ ws) =
    then_ (integer c) (λ z. then_ (terms_in 0 ws) (λ ts. Some (record { bound = z; terms = ts })))

abbrev pub row_in : List (List ℕ) → Option RowOf
row_in [] = None
row_in (key ∷ ws) = if bytes_eq key (codes "row") then row_behind ws else None

abbrev pub sum_in : ℕ → List (List ℕ) → Option Step
sum_in n (r ∷ p ∷ s ∷ q ∷ []) =
    then_ (natural r) (λ r. then_ (integer p) (λ p. then_ (natural s) (λ s. then_ (integer q) (λ q.
    when (nat_lt r n && (int_le (pos 0) p && (nat_lt s n && int_le (pos 0) q))) (Sum r p s q)))))
sum_in n _ = None

-- the step of a row's number
abbrev pub step_in : ℕ → List (List ℕ) → Option Step
step_in n [] = None
step_in n (key ∷ ws) =
    if bytes_eq key (codes "path") then then_ (one ws) (λ j. Some (Path j))
    else (if bytes_eq key (codes "sum") then sum_in n ws
    else (if bytes_eq key (codes "tight") then then_ (one ws) (λ r. when (nat_lt r n) (Tight r)) else None))

-- a node whose line has this first word and no list behind it
abbrev pub plain_in : List ℕ → List (List ℕ) → Option NodeOf
plain_in key ws =
    if bytes_eq key (codes "split") then then_ (one ws) (λ a. Some (Splits a))
    else (if bytes_eq key (codes "bound") then then_ (with_sign ws) (λ p. Some (Bounds p.0 p.1))
    else (if bytes_eq key (codes "cut") then then_ (one ws) (λ r. Some (Cuts r))
    else (if bytes_eq key (codes "clause") then then_ (one ws) (λ c. Some (IsClause c))
    else (if bytes_eq key (codes "unit") then then_ (name_in ws) (λ name. Some (IsUnit name))
    else (if bytes_eq key (codes "known") then then_ (one ws) (λ i. Some (IsKnown i)) else None)))))

-- a node whose line has these words; not one that steps follow
abbrev pub node_in : List (List ℕ) → Option NodeOf
node_in [] = None
node_in (key ∷ ws) =
    if bytes_eq key (codes "lemma") then then_ (literals_in ws) (λ ls. Some (Learns ls)) else plain_in key ws

-- a line of this first word and a number of lines
abbrev pub count_in : List ℕ → List (List ℕ) → Option ℕ
count_in key [] = None
count_in key (w ∷ ws) = if bytes_eq w key then count ws else None

-- ---- the machine

-- what is read so far: the stage, what is finished, the place that is open with its lines of instances, its table, nodes and steps, how many
-- trees of it are still to come, and how many rows or steps
pub record DraftOf : Type 0 where
  pub stage : Stage
  pub interp : Option InterpOf
  pub retained : List (List ℕ)
  pub sections : List SectionOf
  pub implementation : ℕ
  pub place : ℕ
  pub stated : List Stated
  pub table : List RowOf
  pub nodes : List NodeOf
  pub steps : List Step
  pub trees : ℕ
  pub left : ℕ

abbrev pub draft_of : Draft → DraftOf
draft_of d =
    record {
      stage = d.stage;
      interp = option_map interp_of d.interp;
      retained = map (λ name. name.now) d.retained.items;
      sections = map section_of d.sections.items;
      implementation = d.implementation;
      place = d.place;
      stated = d.stated.items;
      table = map row_of d.table.items;
      nodes = map node_of d.nodes.items;
      steps = d.steps.items;
      trees = d.trees;
      left = d.left;
    }

-- no more trees are to come than nodes make
abbrev pub HasRoom : DraftOf → Type 0
HasRoom d = d.trees ≤ length d.nodes + 1

abbrev pub start : DraftOf
start =
    record {
      stage = at.Version;
      interp = None;
      retained = [];
      sections = [];
      implementation = 0;
      place = 0;
      stated = [];
      table = [];
      nodes = [];
      steps = [];
      trees = 0;
      left = 0;
    }

abbrev pub finished : DraftOf → SectionOf
finished d =
    record { implementation = d.implementation; place = d.place; stated = d.stated; table = d.table; nodes = d.nodes }

-- the tree is whole
abbrev pub with_section : DraftOf → DraftOf
with_section d =
    record d { stage = at.Sections; sections = d.sections ++ finished d ∷ []; stated = []; table = []; nodes = [] }

abbrev pub closed : ℕ → DraftOf → DraftOf
closed zero d = with_section d
closed (suc n) d = record d { stage = at.Nodes }

-- one more node
abbrev pub with_node : NodeOf → DraftOf → DraftOf
with_node n d =
    let trees = children n + (d.trees - 1) in
    closed trees (record d { nodes = d.nodes ++ n ∷ []; trees = trees })

abbrev pub with_rows : ℕ → DraftOf → DraftOf
with_rows m d = record d { stage = at.Rows; left = m }

abbrev pub with_row : RowOf → DraftOf → DraftOf
with_row r d =
    record d { stage = (if d.left - 1 == 0 then at.Nodes else at.Rows); table = d.table ++ r ∷ []; left = d.left - 1 }

abbrev pub with_steps : ℕ → DraftOf → DraftOf
with_steps m d = record d { stage = at.Steps; left = m }

abbrev pub with_step : Step → DraftOf → DraftOf
with_step s d =
    if d.left - 1 == 0 then with_node (Derives (d.steps ++ s ∷ [])) (record d { steps = []; left = 0 })
    else record d { steps = d.steps ++ s ∷ []; left = d.left - 1 }

abbrev pub with_place : ℕ → ℕ → DraftOf → DraftOf
with_place i k d = record d { stage = at.Table; implementation = i; place = k; stated = []; trees = 1 }

abbrev pub with_stated : Stated → DraftOf → DraftOf
with_stated s d = record d { stated = d.stated ++ s ∷ [] }

abbrev pub with_name : List ℕ → DraftOf → DraftOf
with_name name d = record d { stage = at.Retained; retained = d.retained ++ name ∷ [] }

abbrev pub with_given : GivenOf → DraftOf → DraftOf
with_given g d =
    record d { interp = option_map (λ (i : InterpOf). record i { constants = i.constants ++ g ∷ [] }) d.interp }

abbrev pub with_function : FunctionOf → DraftOf → DraftOf
with_function f d =
    record d { stage = at.Functions; interp = option_map (λ (i : InterpOf). record i { functions = i.functions ++ f ∷ [] }) d.interp }

abbrev pub or_else : {A : Type 0} → Option A → Option A → Option A
or_else None other = other
or_else (Some x) other = Some x

-- a line where a node may stand
abbrev pub on_node : List (List ℕ) → DraftOf → Option DraftOf
on_node ws d =
    or_else (then_ (count_in (codes "rows") ws) (λ m. Some (with_steps m d))) (then_ (node_in ws) (λ n. Some (with_node n d)))

-- a line where a table may stand
abbrev pub on_table : List (List ℕ) → DraftOf → Option DraftOf
on_table ws d = or_else (then_ (count_in (codes "table") ws) (λ m. Some (with_rows m d))) (on_node ws d)

-- a line behind a place or an instance
abbrev pub on_stated : List (List ℕ) → DraftOf → Option DraftOf
on_stated ws d = or_else (then_ (stated_in ws) (λ s. Some (with_stated s d))) (on_table ws d)

-- a line where a place may stand, or the end
abbrev pub on_section : List (List ℕ) → DraftOf → Option DraftOf
on_section [] d = None
on_section (key ∷ ws) d =
    if bytes_eq key (codes "place") then then_ (two ws) (λ p. Some (with_place p.0 p.1 d))
    else (if bytes_eq key (codes "end") && is_empty ws then Some (record d { stage = at.End }) else None)

abbrev pub on_retained : List (List ℕ) → DraftOf → Option DraftOf
on_retained [] d = None
on_retained (key ∷ ws) d =
    if bytes_eq key (codes "retain") then then_ (name_in ws) (λ name. Some (with_name name d)) else on_section (key ∷ ws) d

-- a line where a function may stand
abbrev pub on_function : List (List ℕ) → DraftOf → Option DraftOf
on_function [] d = None
on_function (key ∷ ws) d =
    if bytes_eq key (codes "function") then then_ (function_in ws) (λ f. Some (with_function f d)) else on_retained (key ∷ ws) d

-- a line where a constant may stand
abbrev pub on_given : List (List ℕ) → DraftOf → Option DraftOf
on_given [] d = None
on_given (key ∷ ws) d =
    if bytes_eq key (codes "const") then then_ (given_in ws) (λ g. Some (with_given g d)) else on_function (key ∷ ws) d

abbrev pub on_version : List (List ℕ) → DraftOf → Option DraftOf
on_version (key ∷ v ∷ []) d =
    when (bytes_eq key (codes "bg-cert") && bytes_eq v (codes "1")) (record d { stage = at.Interp })
on_version _ d = None

abbrev pub on_interp : List (List ℕ) → DraftOf → Option DraftOf
on_interp (key ∷ []) d = when (bytes_eq key (codes "interp")) (record d { stage = at.Givens; interp = Some (record { constants = []; functions = [] }) })
on_interp (first ∷ key ∷ []) d =
    when (bytes_eq first (codes "no") && bytes_eq key (codes "interp")) (record d { stage = at.Retained; interp = None })
on_interp _ d = None

abbrev pub by_stage : Stage → List (List ℕ) → DraftOf → Option DraftOf
by_stage at.Version ws d = on_version ws d
by_stage at.Interp ws d = on_interp ws d
by_stage at.Givens ws d = on_given ws d
by_stage at.Functions ws d = on_function ws d
by_stage at.Retained ws d = on_retained ws d
by_stage at.Table ws d = on_stated ws d
by_stage at.Rows ws d = then_ (row_in ws) (λ r. Some (with_row r d))
by_stage at.Nodes ws d = on_node ws d
by_stage at.Steps ws d = then_ (step_in (length d.steps) ws) (λ s. Some (with_step s d))
by_stage at.Sections ws d = on_section ws d
by_stage at.End ws d = None

-- what the next line makes of it, or nothing where it may not stand there
abbrev pub next : List (List ℕ) → DraftOf → Option DraftOf
next ws d = by_stage d.stage ws d

-- what these lines make of it
abbrev pub after : List (List (List ℕ)) → DraftOf → Option DraftOf
after [] d = Some d
after (ws ∷ rest) d = then_ (next ws d) (after rest)

abbrev pub is_one : ℤ → Bool
is_one (pos n) = n == 1
is_one (negsuc n) = false

abbrev pub is_another : Option ℤ → Bool
is_another None = false
is_another (Some z) = not (is_one z)

-- the words of the first line of another version
abbrev pub is_other_version : List (List ℕ) → Bool
is_other_version (key ∷ v ∷ []) = bytes_eq key (codes "bg-cert") && is_another (integer v)
is_other_version _ = false

-- a line was taken, or refused
abbrev pub Takes : Option DraftOf → DraftOf → Bool → Type 0
Takes made d true = made ≡ Some d
Takes made d false = made ≡ None

-- ---- what the machine answers

-- the machine stands at line n, in front of the rest
pub record Stands (bytes : List ℕ) (n : ℕ) (d : DraftOf) (rest : List ℕ) : Type 0 where
  pub before : List (List (List ℕ))
  pub cut : bytes ≡ flat_map line before ++ rest
  pub count : n ≡ length before + 1
  pub ran : after before start ≡ Some d

abbrev pub cert_in : DraftOf → CertOf
cert_in d = record { interp = d.interp; retained = d.retained; sections = d.sections }

-- the line of these bytes stands in front
pub record IsNextLine (l rest : List ℕ) : Type 0 where
  pub inside : list_all is_in_line l ≡ true
  pub behind : List ℕ
  pub cut : rest ≡ l ++ 10 ∷ behind

-- the machine stops at line n: it refuses the line that stands there, or none does and it isn't at the end
pub record Stops (bytes : List ℕ) (n : ℕ) : Type 0 where
  pub draft : DraftOf
  pub rest : List ℕ
  pub stands : Stands bytes n draft rest
  pub refuses : (l : List ℕ) → IsNextLine l rest → next (words_of l) draft ≡ None
  pub short : rest ≡ [] → draft.stage ≡ at.End → ⊥

-- what reading answers, as the machine has it
abbrev pub Answers : List ℕ → Result CertText ReadError → Type 0
Answers bytes (Ok c) = (d : DraftOf) × (n : ℕ) × Stands bytes n d [] × (d.stage ≡ at.End) × (cert_of c ≡ cert_in d)
Answers bytes (Err errors.Version) = (l : List ℕ) × IsNextLine l bytes × (is_other_version (words_of l) ≡ true)
Answers bytes (Err (errors.BadLine n)) = Stops bytes n × ((l : List ℕ) → IsNextLine l bytes → is_other_version (words_of l) ≡ false)
Answers bytes (Err errors.Memory) = Unit {0}
