-- A program and its bare form have the same tokens, and at no place the bare form has the tokens' positions.
use Rattle.std.proofs.Common.{◌≡◌, List, map, sym, ap, ◌∙◌, subst}
use Rattle.bg_text.specs.Tokens.{Tok}
use Rattle.bg_text.specs.Trees.{Decl}
use Rattle.bg_text.specs.Marks.{unplaced, each, Fits}
use Rattle.bg_text.specs.Declarations.{decl_marks, SpellsTree, SpellsTreeAt}
use Rattle.bg_reread.specs.Bare.{bare_decls}
use Rattle.bg_reread.specs.Nowhere.{all_nowhere}
use Rattle.bg_reread.proofs.Stripped.{stripped_fits, stripped_words}
use Rattle.bg_reread.proofs.DeclMarks.{decls_strip}
use Rattle.bg_reread.proofs.DeclRules.{decls_same}

words_are : (ds : List Decl) → map unplaced (each decl_marks (bare_decls ds)) ≡ map unplaced (each decl_marks ds)
words_are ds = ap (map unplaced) (decls_strip ds).same ∙ stripped_words (each decl_marks ds)

pub bare_spells : (ds : List Decl) (ts : List Tok) → SpellsTree ds ts → SpellsTree (bare_decls ds) ts
bare_spells ds ts h = ((decls_same ds).back h.0, subst (Fits ts) (sym (words_are ds)) h.1)

pub spells_bare : (ds : List Decl) (ts : List Tok) → SpellsTree (bare_decls ds) ts → SpellsTree ds ts
spells_bare ds ts h = ((decls_same ds).there h.0, subst (Fits ts) (words_are ds) h.1)

-- the bare form is the tree of the tokens at no place
pub bare_placed : (ds : List Decl) (ts : List Tok) → SpellsTree ds ts → SpellsTreeAt (bare_decls ds) (all_nowhere ts)
bare_placed ds ts h = ((decls_same ds).back h.0, subst (Fits (all_nowhere ts)) (sym (decls_strip ds).same) (stripped_fits ts (each decl_marks ds) h.1))

-- programs that are the same, positions apart, have the same tokens
pub same_spells : (ds es : List Decl) (ts : List Tok) → bare_decls ds ≡ bare_decls es → SpellsTree ds ts → SpellsTree es ts
same_spells ds es ts e h = spells_bare es ts (subst (λ l. SpellsTree l ts) e (bare_spells ds ts h))
