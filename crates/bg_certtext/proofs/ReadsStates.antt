-- Where the machine may stand: what it read, which lines those were, and that they are right so far.
use Rattle.std.proofs.Common.{◌≡◌, ℕ, suc, ◌+◌, true, List, [], ◌∷◌, ◌++◌, map, flat_map, length, codes, Option, Some, None}
use Rattle.std.specs.List.{list_all}
use Rattle.std.specs.Fmt.{decimal}
use Rattle.bg_rows.specs.declared.step.Step.{Step}
use Rattle.bg_certtext.specs.declared.draft.Stage.{Stage}
use Rattle.bg_certtext.specs.declared.draft.Stage.TheVariants as at
use Rattle.bg_certtext.specs.declared.text.Stated.{Stated}
use Rattle.bg_certtext.specs.Views.{RowOf, NodeOf, SectionOf, GivenOf, FunctionOf, InterpOf}
use Rattle.bg_certtext.specs.Spellable.{is_name, is_number, is_row, is_node, are_steps, are_trees, is_stated, is_section, is_given, is_function, is_interp}
use Rattle.bg_certtext.specs.Texts.{retain_words, given_words, stated_words, interp_lines, version_words, place_words, section_lines, row_words, step_words, end_words}
use Rattle.bg_certtext.specs.Machine.{DraftOf}

-- an interpretation, where there is one
abbrev pub Interp : Type 0
Interp = Option InterpOf

-- one of these constants and functions
abbrev pub interp_with : List GivenOf → List FunctionOf → InterpOf
interp_with gs fs = record { constants = gs; functions = fs }

-- what stands in front of the place that is open, with its instances
pub record Head : Type 0 where
  pub interp : Interp
  pub retained : List (List ℕ)
  pub sections : List SectionOf
  pub implementation : ℕ
  pub place : ℕ
  pub stated : List Stated

abbrev pub first_head : Interp → List (List ℕ) → Head
first_head i names = record { interp = i; retained = names; sections = []; implementation = 0; place = 0; stated = [] }

abbrev pub open_section : Head → List RowOf → List NodeOf → SectionOf
open_section h table nodes = record { implementation = h.implementation; place = h.place; stated = h.stated; table = table; nodes = nodes }

abbrev pub with_open : Head → List RowOf → List NodeOf → Head
with_open h table nodes = record h { sections = h.sections ++ open_section h table nodes ∷ []; stated = [] }

-- where the machine may stand; the numbers are one less than the trees, rows or steps that are still to come
pub data State : Type 0 where
  AtVersion : State
  AtInterp : State
  AtGivens : List GivenOf → State
  AtFunctions : List GivenOf → List FunctionOf → State
  AtRetained : Interp → List (List ℕ) → State
  AtTable : Head → State
  AtRows : Head → List RowOf → ℕ → State
  AtNodes : Head → List RowOf → List NodeOf → ℕ → State
  AtSteps : Head → List RowOf → List NodeOf → ℕ → List Step → ℕ → State
  AtSections : Head → State
  AtEnd : Head → State

abbrev pub open_draft : Stage → Head → List RowOf → List NodeOf → List Step → ℕ → ℕ → DraftOf
open_draft s h table nodes steps trees left =
    record {
      stage = s;
      interp = h.interp;
      retained = h.retained;
      sections = h.sections;
      implementation = h.implementation;
      place = h.place;
      stated = h.stated;
      table = table;
      nodes = nodes;
      steps = steps;
      trees = trees;
      left = left;
    }

abbrev pub head_draft : Stage → Head → DraftOf
head_draft s h = open_draft s h [] [] [] 0 0

abbrev pub draft_at : State → DraftOf
draft_at AtVersion = head_draft at.Version (first_head None [])
draft_at AtInterp = head_draft at.Interp (first_head None [])
draft_at (AtGivens gs) = head_draft at.Givens (first_head (Some (interp_with gs [])) [])
draft_at (AtFunctions gs fs) = head_draft at.Functions (first_head (Some (interp_with gs fs)) [])
draft_at (AtRetained i names) = head_draft at.Retained (first_head i names)
draft_at (AtTable h) = open_draft at.Table h [] [] [] 1 0
draft_at (AtRows h table m) = open_draft at.Rows h table [] [] 1 (suc m)
draft_at (AtNodes h table nodes t) = open_draft at.Nodes h table nodes [] (suc t) 0
draft_at (AtSteps h table nodes t steps m) = open_draft at.Steps h table nodes steps (suc t) (suc m)
draft_at (AtSections h) = head_draft at.Sections h
draft_at (AtEnd h) = head_draft at.End h

-- ---- the lines that were read

abbrev pub Lines : Type 0
Lines = List (List (List ℕ))

abbrev pub head_lines : Head → Lines
head_lines h = version_words ∷ (interp_lines h.interp ++ map retain_words h.retained ++ flat_map section_lines h.sections)

abbrev pub nodes_lines : Head → List RowOf → List NodeOf → Lines
nodes_lines h table nodes = head_lines h ++ section_lines (open_section h table nodes)

abbrev pub counted : List ℕ → ℕ → List (List ℕ)
counted key n = key ∷ decimal n ∷ []

abbrev pub rows_lines : Head → List RowOf → ℕ → Lines
rows_lines h table n =
    head_lines h ++ (place_words h.implementation h.place ∷ (map stated_words h.stated ++ counted (codes "table") n ∷ map row_words table))

abbrev pub steps_lines : Head → List RowOf → List NodeOf → List Step → ℕ → Lines
steps_lines h table nodes steps n = nodes_lines h table nodes ++ (counted (codes "rows") n ∷ map step_words steps)

abbrev pub written : State → Lines
written AtVersion = []
written AtInterp = version_words ∷ []
written (AtGivens gs) = version_words ∷ (codes "interp" ∷ []) ∷ map given_words gs
written (AtFunctions gs fs) = version_words ∷ interp_lines (Some (interp_with gs fs))
written (AtRetained i names) = version_words ∷ (interp_lines i ++ map retain_words names)
written (AtTable h) = nodes_lines h [] []
written (AtRows h table m) = rows_lines h table (length table + suc m)
written (AtNodes h table nodes t) = nodes_lines h table nodes
written (AtSteps h table nodes t steps m) = steps_lines h table nodes steps (length steps + suc m)
written (AtSections h) = head_lines h
written (AtEnd h) = head_lines h ++ end_words ∷ []

-- ---- they are right so far

pub record GoodHead (h : Head) : Type 0 where
  pub interp : is_interp h.interp ≡ true
  pub names : list_all is_name h.retained ≡ true
  pub sections : list_all is_section h.sections ≡ true

pub record GoodPlace (h : Head) : Type 0 where
  pub head : GoodHead h
  pub implementation : is_number h.implementation ≡ true
  pub place : is_number h.place ≡ true
  pub stated : list_all is_stated h.stated ≡ true

pub record GoodRows (h : Head) (table : List RowOf) (n : ℕ) : Type 0 where
  pub place : GoodPlace h
  pub rows : list_all is_row table ≡ true
  pub count : is_number n ≡ true

-- behind these nodes so many trees are still to come
abbrev pub Leaves : List NodeOf → ℕ → Type 0
Leaves nodes n = (rest : List NodeOf) → are_trees 1 (nodes ++ rest) ≡ are_trees n rest

pub record GoodNodes (h : Head) (table : List RowOf) (nodes : List NodeOf) (n : ℕ) : Type 0 where
  pub rows : GoodRows h table (length table)
  pub fine : list_all is_node nodes ≡ true
  pub trees : Leaves nodes n

pub record GoodSteps (steps : List Step) (n : ℕ) : Type 0 where
  pub fine : are_steps 0 steps ≡ true
  pub count : is_number n ≡ true

abbrev pub Good : State → Type 0
Good AtVersion = Unit {0}
Good AtInterp = Unit {0}
Good (AtGivens gs) = list_all is_given gs ≡ true
Good (AtFunctions gs fs) = (list_all is_given gs ≡ true) × (list_all is_function fs ≡ true)
Good (AtRetained i names) = (is_interp i ≡ true) × (list_all is_name names ≡ true)
Good (AtTable h) = GoodPlace h
Good (AtRows h table m) = GoodRows h table (length table + suc m)
Good (AtNodes h table nodes t) = GoodNodes h table nodes (suc t)
Good (AtSteps h table nodes t steps m) = GoodNodes h table nodes (suc t) × GoodSteps steps (length steps + suc m)
Good (AtSections h) = GoodHead h
Good (AtEnd h) = GoodHead h

-- the machine stands somewhere behind these lines
pub record Stays (lines : Lines) (d : DraftOf) : Type 0 where
  pub state : State
  pub good : Good state
  pub is : d ≡ draft_at state
  pub lines_are : lines ≡ written state

-- the next line is taken, and what was read is right
abbrev pub Goes : Lines → List (List ℕ) → DraftOf → Type 0
Goes lines ws e = Stays (lines ++ ws ∷ []) e
