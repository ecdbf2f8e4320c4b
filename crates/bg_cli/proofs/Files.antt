-- A command whose first place takes files reads plain words as files.
use Rattle.std.proofs.Common.{◌≡◌, ◌≤◌, ◌<◌, sym, ap, ap₂, refl, ◌∙◌, Bool, false, ℕ, List, [], ◌∷◌, ◌++◌, length, Some, None, codes, fold, arith, append_assoc, append-nil, ne_eqb, le-ltb}
use Rattle.clap.specs.Walk.{Row, Rule, Text, Walk, arg_by_id, arg_by_index, finished, nothing_held, positional, settled, walk, walk_from, walked}
use Rattle.clap.specs.Simple.{Shape, filled, with_index}
use Rattle.clap.specs.Lexer.{usize_max}
use Rattle.clap.specs.Kinds.{Kinds, or_else, range_kinds, values_kinds}
use Rattle.clap.specs.Faults.{check_fault, defaults_fault, level_fault, settle_fault, turn_fault, walk_fault}
use Rattle.clap.specs.declared.builder.value_parser.ValueParser.TheVariants as parser
use Rattle.bg_cli.specs.Cli.{files, Plain, AllPlain}

-- the first place takes files
pub record TakesFiles (c : List Rule) : Type 0 where
  pub here : arg_by_index c 1 ≡ Some (with_index 1 (filled files))
  pub named : arg_by_id c (codes "FILE") ≡ Some (with_index 1 (filled files))

-- files are being read
abbrev pub reading : List Row → List Text → Walk
reading rows xs =
    record {
      held = record { rows = rows; pending = Some (codes "FILE", xs); skip = 0 };
      waiting = positional;
      position = 1;
      is_trailing = false;
      stopped = None;
    }

one_more : (c : List Rule) → TakesFiles c → (rows : List Row) (xs : List Text) (word : Text) → Plain word → walked c [] (reading rows xs) word ≡ reading rows (xs ++ word ∷ [])
unfolding walked
one_more c t rows xs [] h = absurd h
one_more c t rows xs (b ∷ bs) h = simp (h, t.here) refl

first_file : (c : List Rule) → TakesFiles c → (word : Text) → Plain word → walked c [] (walk_from nothing_held) word ≡ reading [] (word ∷ [])
unfolding walked
first_file c t [] h = absurd h
first_file c t (b ∷ bs) h = simp (h, t.here) refl

pub more : (c : List Rule) → TakesFiles c → (rows : List Row) (xs ws : List Text) → AllPlain ws → fold (walked c []) (reading rows xs) ws ≡ reading rows (xs ++ ws)
more c t rows xs [] h = ap (reading rows) (sym (append-nil xs))
more c t rows xs (w ∷ ws) h =
    ap (λ s. fold (walked c []) s ws) (one_more c t rows xs w h.0) ∙ more c t rows (xs ++ w ∷ []) ws h.1 ∙ ap (reading rows) (append_assoc xs (w ∷ []) ws)

pub files_walk : (c : List Rule) → TakesFiles c → (f : Text) (fs : List Text) → AllPlain (f ∷ fs) → walk c [] nothing_held (f ∷ fs) ≡ reading [] (f ∷ fs)
files_walk c t f fs h = ap (λ s. fold (walked c []) s fs) (first_file c t f h.0) ∙ more c t [] (f ∷ []) fs h.1

word_fine : (s : Shape) → TakesFiles s.rules → (rows : List Row) (xs : List Text) (word : Text) → Plain word → turn_fault s [] (reading rows xs) word ≡ []
word_fine s t rows xs [] h = absurd h
word_fine s t rows xs (b ∷ bs) h = simp (h, t.here) refl

first_fine : (s : Shape) → TakesFiles s.rules → (word : Text) → Plain word → turn_fault s [] (walk_from nothing_held) word ≡ []
first_fine s t [] h = absurd h
first_fine s t (b ∷ bs) h = simp (h, t.here) refl

pub words_fine : (s : Shape) → TakesFiles s.rules → (rows : List Row) (xs ws : List Text) → AllPlain ws → walk_fault s [] (reading rows xs) ws ≡ []
unfolding walk_fault
words_fine s t rows xs [] h = refl
words_fine s t rows xs (w ∷ ws) h =
    ap₂ or_else (word_fine s t rows xs w h.0) (ap (λ k. walk_fault s [] k ws) (one_more s.rules t rows xs w h.0) ∙ words_fine s t rows (xs ++ w ∷ []) ws h.1)

pub files_fine : (s : Shape) → TakesFiles s.rules → (f : Text) (fs : List Text) → AllPlain (f ∷ fs) → walk_fault s [] (walk_from nothing_held) (f ∷ fs) ≡ []
unfolding walk_fault
files_fine s t f fs h =
    ap₂ or_else (first_fine s t f h.0) (ap (λ k. walk_fault s [] k fs) (first_file s.rules t f h.0) ∙ words_fine s t [] (f ∷ []) fs h.1)

-- values that any text passes
texts_pass : (ws : List Text) → values_kinds false parser.String ws ≡ []
texts_pass [] = refl
texts_pass (w ∷ ws) = texts_pass ws

many_pass : (n : ℕ) → 0 < n → n ≤ usize_max → range_kinds 1 usize_max n ≡ []
many_pass n low high = rw (ne_eqb n 0 (λ e. absurd (omega (arith, low, e))), le-ltb n 1 low, le-ltb usize_max n high) refl

settled_fine : (c : List Rule) → TakesFiles c → (again : Bool) (rows : List Row) (f : Text) (fs : List Text) → length (f ∷ fs) ≤ usize_max → settle_fault c again (reading rows (f ∷ fs)).held ≡ []
settled_fine c t again rows f fs n = rw t.named (ap₂ or_else (many_pass (length (f ∷ fs)) (omega arith) n) (texts_pass (f ∷ fs)))

-- what is found at the end of the words
abbrev ends : Shape → Walk → Kinds
ends s w = or_else (defaults_fault (settled s.rules w.held).rows s.rules) (check_fault s (finished s.rules w.held) false)

abbrev after_words : Shape → Kinds → Walk → Kinds
after_words s first w = or_else first (or_else [] (or_else (settle_fault s.rules s.args_override_self w.held) (ends s w)))

-- words that end in files are taken, where what is left at their end is
pub level_fine : (s : Shape) → TakesFiles s.rules → (rows : List Row) (words : List Text) (f : Text) (fs : List Text)
    → walk_fault s [] (walk_from nothing_held) words ≡ [] → walk s.rules [] nothing_held words ≡ reading rows (f ∷ fs)
    → length (f ∷ fs) ≤ usize_max → ends s (reading rows (f ∷ fs)) ≡ [] → level_fault s [] nothing_held words false [] ≡ []
level_fine s t rows words f fs fine walks n end =
    ap₂ (after_words s) fine walks ∙ ap₂ or_else (settled_fine s.rules t s.args_override_self rows f fs n) end
