-- Blocks of forms with those of commands in front say what the passive blocks behind the commands say.
use Rattle.std.proofs.Common.{◌≡◌, ◌<◌, ◌≤◌, ◌+◌, ℕ, zero, suc, Bool, true, false, List, [], ◌∷◌, ◌++◌, length, map, replicate, Some, ℤ, refl, sym, ap, ◌∙◌, arith, subst}
use Rattle.std.specs.Prelude.{◌&&◌, if◌then◌else◌, nat_lt, Option, slice_get, Ok, Err}
use Rattle.std.proofs.lemmas.List.{append-nil, length-append}
use Rattle.bg_ast.specs.Values.{Truth}
use Rattle.bg_ast.specs.Syntax as s
use Rattle.bg_sense.specs.Eval.{Scope}
use Rattle.bg_passive.specs.Passive.{PassiveCmd, Claims, Supposes, Edge, PassiveBlock}
use Rattle.bg_rows.specs.declared.entry.Entry.{Entry}
use Rattle.bg_formula.specs.declared.atom.Linear.{Linear}
use Rattle.bg_formula.specs.declared.atom.Literal.{Literal}
use Rattle.bg_formula.specs.Atoms.{AtomOf, IsTruth, IsRow, view_linear}
use Rattle.bg_formula.specs.Formulas.{entries_below, atom_below, rows_below}
use Rattle.bg_formula.specs.Meaning.{AtomsAgree}
use Rattle.bg_forms.specs.Forms.{literal_in}
use Rattle.bg_forms.specs.Worth.{bools_at}
use Rattle.bg_forms.proofs.Meaning.{same_true}
use Rattle.bg_formed.specs.Agree.{AreRows, RowsAgree}
use Rattle.bg_formed.specs.Formed.{Says, FormCmd, Asks, Takes, FormEdge, FormBlock, said, is_of, form_below, cmds_below, edges_below, blocks_below}
use Rattle.bg_formed.specs.Said.{IsSaid, SaidCmds, SaidEdges, SaidBlocks}
use Rattle.bg_formed.specs.Views.{blocks_of}
use Rattle.bg_formed.proofs.Below.{and_left, and_right, and_both, lower}
use Rattle.bg_linear.specs.declared.scalar.Sort.{Sort}
use Rattle.bg_linear.specs.declared.scalar.Sort.TheVariants as sort
use Rattle.bg_linear.specs.Sorts.{HoldScalars}
use Rattle.bg_atoms.specs.Ranks.{rank, truths}
use Rattle.bg_atoms.specs.Listed.{is_there}
use Rattle.bg_atoms.specs.Made.{rows_in}
use Rattle.bg_atoms.specs.declared.product.Atoms.{Atoms}
use Rattle.bg_faithful.specs.Encoded.{Encodes}
use Rattle.bg_flat.specs.Blocks.{supposed, in_front}
use Rattle.bg_ahead.specs.Exact.{encoding_of, blanks}
use Rattle.bg_ahead.specs.Rows.{fresh, itself, goes}
use Rattle.bg_ahead.specs.Moved.{moved_atom, moved_says, moved_cmd, moved_edge, moved_blocks, first_cmds, behind_cmds}
use Rattle.bg_ahead.specs.Ahead.{IsAhead}
use Rattle.bg_ahead.proofs.Sorts.{truths_more, rank_more, rank_below}
use Rattle.bg_ahead.proofs.Places.{goes_stay}
use Rattle.bg_ahead.proofs.Worth.{worth, front_agree, moved_agree, form_worth, atom_goes_below, form_goes_below, form_raised}

-- ---- rows of the code

are_rows : (rows : List Linear) → AreRows (map view_linear rows)
are_rows [] = tt
are_rows (a ∷ rows) = are_rows rows

rows_agree : (rows : List Linear) → AtomsAgree (map view_linear rows)
rows_agree [] = tt
rows_agree (a ∷ rows) = (a.denies, rows_agree rows)

-- ---- terms that are there

entries_raised : (n m : ℕ) → n ≤ m → (ts : List Entry) → entries_below n ts ≡ true → entries_below m ts ≡ true
entries_raised n m le [] h = refl
entries_raised n m le (t ∷ ts) h =
    and_both (nat_lt t.variable m) _ (lower t.variable n m le (and_left (nat_lt t.variable n) (entries_below n ts) h)) (entries_raised n m le ts (and_right (nat_lt t.variable n) (entries_below n ts) h))

atom_raised : (n m : ℕ) → n ≤ m → (a : AtomOf) → atom_below n a ≡ true → atom_below m a ≡ true
atom_raised n m le (IsTruth x) h = refl
atom_raised n m le (IsRow r d) h = entries_raised n m le r.entries h

fresh_raised : (n m : ℕ) → n ≤ m → (front rows : List AtomOf) → rows_below n rows ≡ true → rows_below m (fresh front rows) ≡ true
fresh_raised n m le front [] h = refl
fresh_raised n m le front (IsTruth x ∷ rs) h = fresh_raised n m le front rs h
fresh_raised n m le front (IsRow r d ∷ rs) h =
    by_test (is_there r front) (fresh_raised n m le front rs (and_right (entries_below n r.entries) (rows_below n rs) h))
  where
    by_test : (b : Bool) → rows_below m (fresh front rs) ≡ true → rows_below m (if b then fresh front rs else IsRow r d ∷ fresh front rs) ≡ true
    by_test true k = k
    by_test false k = and_both (entries_below m r.entries) _ (entries_raised n m le r.entries (and_left (entries_below n r.entries) (rows_below n rs) h)) k

beside_below : (m : ℕ) (xs ys : List AtomOf) → rows_below m xs ≡ true → rows_below m ys ≡ true → rows_below m (xs ++ ys) ≡ true
beside_below m [] ys h k = k
beside_below m (x ∷ xs) ys h k =
    and_both (atom_below m x) _ (and_left (atom_below m x) (rows_below m xs) h) (beside_below m xs ys (and_right (atom_below m x) (rows_below m xs) h) k)

-- ---- values of incarnations, of which there are more

got_more : (ss ts : List Sort) (j : ℕ) (s : Sort) → slice_get ss j ≡ Some s → slice_get (ss ++ ts) j ≡ Some s
got_more [] ts j s h = absurd (let bad : ⊥ = cc in bad)
got_more (x ∷ ss) ts zero s h = h
got_more (x ∷ ss) ts (suc j) s h = got_more ss ts j s h

-- the first atoms are worth what they were, so values of incarnations are those of the first ones
fewer_hold : (ss more : List Sort) (z : ℕ → ℤ) (w : ℕ → Bool) (c : Scope) (n : ℕ) (to : List Literal) → n ≡ truths ss → ((a : ℕ) → a < n → moved_atom to a ≡ itself a) → HoldScalars (ss ++ more) z (λ j. w (rank (ss ++ more) j)) c.frame → HoldScalars ss z (λ j. worth w to (rank ss j)) c.frame
fewer_hold ss more z w c n to first stay h =
    record {
      number = λ j is. h.number j (got_more ss more j sort.Number is);
      truth = λ j is. h.truth j (got_more ss more j sort.Truth is) ∙ ap Truth (rank_worth j is);
    }
  where
    rank_worth : (j : ℕ) → slice_get ss j ≡ Some sort.Truth → w (rank (ss ++ more) j) ≡ worth w to (rank ss j)
    rank_worth j is =
        ap w (rank_more ss more j sort.Truth is)
        ∙ (sym (same_true (w (rank ss j)))
        ∙ ap (literal_in w) (sym (stay (rank ss j) (subst (λ x. rank ss j < x) (sym first) (rank_below ss j is)))))

-- ---- blocks that say the same

module _ (to : List Literal) (w : ℕ → Bool) (c : Scope) where
  says_moved : (b : Option ℕ) (e : s.Ex) (d : Option ℕ) (r : Says) → IsSaid (worth w to) c b e d r → IsSaid w c b e d (moved_says to r)
  says_moved b e d (Ok f) h = (h.0, form_worth to w f ∙ h.1)
  says_moved b e d (Err x) h = h

  cmds_moved : (ks : List PassiveCmd) (ls : List FormCmd) → SaidCmds (worth w to) c ks ls → SaidCmds w c ks (map (moved_cmd to) ls)
  cmds_moved [] [] h = tt
  cmds_moved [] (l ∷ ls) h = absurd h
  cmds_moved (Claims s b e ∷ ks) [] h = absurd h
  cmds_moved (Claims s b e ∷ ks) (Asks t d r ∷ ls) h = ((h.0.0, says_moved b e d r h.0.1), cmds_moved ks ls h.1)
  cmds_moved (Claims s b e ∷ ks) (Takes d r ∷ ls) h = absurd h
  cmds_moved (Supposes b e ∷ ks) [] h = absurd h
  cmds_moved (Supposes b e ∷ ks) (Asks t d r ∷ ls) h = absurd h
  cmds_moved (Supposes b e ∷ ks) (Takes d r ∷ ls) h = (says_moved b e d r h.0, cmds_moved ks ls h.1)

  edges_moved : (es : List Edge) (fs : List FormEdge) → SaidEdges (worth w to) c es fs → SaidEdges w c es (map (moved_edge to) fs)
  edges_moved [] [] h = tt
  edges_moved [] (f ∷ fs) h = absurd h
  edges_moved (e ∷ es) [] h = absurd h
  edges_moved (e ∷ es) (f ∷ fs) h = ((h.0.0, cmds_moved e.cmds f.cmds h.0.1), edges_moved es fs h.1)

  blocks_moved : (bs : List PassiveBlock) (fs : List FormBlock) → SaidBlocks (worth w to) c bs fs → SaidBlocks w c bs (moved_blocks to fs)
  blocks_moved [] [] h = tt
  blocks_moved [] (f ∷ fs) h = absurd h
  blocks_moved (b ∷ bs) [] h = absurd h
  blocks_moved (b ∷ bs) (f ∷ fs) h =
      ((cmds_moved b.cmds f.cmds h.0.0, edges_moved b.next f.next h.0.1), blocks_moved bs fs h.1)

module _ (w : ℕ → Bool) (c : Scope) where
  both_said : (xs : List PassiveCmd) (ys : List FormCmd) (ks : List PassiveCmd) (ls : List FormCmd) → SaidCmds w c xs ys → SaidCmds w c ks ls → SaidCmds w c (xs ++ ks) (ys ++ ls)
  both_said [] [] ks ls h k = k
  both_said [] (y ∷ ys) ks ls h k = absurd h
  both_said (Claims s b e ∷ xs) [] ks ls h k = absurd h
  both_said (Claims s b e ∷ xs) (Asks t d r ∷ ys) ks ls h k = (h.0, both_said xs ys ks ls h.1 k)
  both_said (Claims s b e ∷ xs) (Takes d r ∷ ys) ks ls h k = absurd h
  both_said (Supposes b e ∷ xs) [] ks ls h k = absurd h
  both_said (Supposes b e ∷ xs) (Asks t d r ∷ ys) ks ls h k = absurd h
  both_said (Supposes b e ∷ xs) (Takes d r ∷ ys) ks ls h k = (h.0, both_said xs ys ks ls h.1 k)

  said_behind : (xs : List s.Ex) (bs : List PassiveBlock) (fs gs : List FormBlock) → SaidBlocks w c (in_front xs (blanks bs)) fs → SaidBlocks w c bs gs → SaidBlocks w c (in_front xs bs) (behind_cmds (first_cmds fs) gs)
  said_behind xs [] fs [] h k = tt
  said_behind xs [] fs (g ∷ gs) h k = absurd k
  said_behind xs (b ∷ bs) fs [] h k = absurd k
  said_behind xs (b ∷ bs) [] (g ∷ gs) h k = absurd h
  said_behind xs (b ∷ bs) (f ∷ fs) (g ∷ gs) h k =
      ((both_said (supposed xs) f.cmds b.cmds g.cmds (subst (λ l. SaidCmds w c l f.cmds) (append-nil (supposed xs)) h.0.0) k.0.0, k.0.1), k.1)

-- ---- atoms that are there

module _ (n top : ℕ) (to : List Literal) (these : ℕ → Bool) (down : (a : ℕ) → nat_lt a n ≡ true → nat_lt (moved_atom to a).atom top ≡ true) where
  says_down : (r : Says) → form_below n (said r) ≡ true → form_below top (said (moved_says to r)) ≡ true
  says_down (Ok f) h = form_goes_below n top to down f h
  says_down (Err x) h = refl

  cmd_down : (b : Option ℕ) (r : Says) (on new_on : Bool) → (is_of these b && (form_below n (said r) && on)) ≡ true → (on ≡ true → new_on ≡ true) → (is_of these b && (form_below top (said (moved_says to r)) && new_on)) ≡ true
  cmd_down b r on new_on h next =
      let more = and_right (is_of these b) (form_below n (said r) && on) h in
      and_both (is_of these b) _ (and_left (is_of these b) (form_below n (said r) && on) h) (and_both (form_below top (said (moved_says to r))) _ (says_down r (and_left (form_below n (said r)) on more)) (next (and_right (form_below n (said r)) on more)))

  cmds_down : (ks : List FormCmd) → cmds_below n these ks ≡ true → cmds_below top these (map (moved_cmd to) ks) ≡ true
  cmds_down [] h = refl
  cmds_down (Asks s b r ∷ ks) h = cmd_down b r (cmds_below n these ks) _ h (cmds_down ks)
  cmds_down (Takes b r ∷ ks) h = cmd_down b r (cmds_below n these ks) _ h (cmds_down ks)

  edges_down : (es : List FormEdge) → edges_below n these es ≡ true → edges_below top these (map (moved_edge to) es) ≡ true
  edges_down [] h = refl
  edges_down (e ∷ es) h =
      and_both (cmds_below top these (map (moved_cmd to) e.cmds)) _ (cmds_down e.cmds (and_left (cmds_below n these e.cmds) (edges_below n these es) h)) (edges_down es (and_right (cmds_below n these e.cmds) (edges_below n these es) h))

  blocks_down : (bs : List FormBlock) → blocks_below n these bs ≡ true → blocks_below top these (moved_blocks to bs) ≡ true
  blocks_down [] h = refl
  blocks_down (b ∷ bs) h =
      let more = and_right (cmds_below n these b.cmds) (edges_below n these b.next && blocks_below n these bs) h in
      let first = cmds_down b.cmds (and_left (cmds_below n these b.cmds) (edges_below n these b.next && blocks_below n these bs) h) in
      let second = edges_down b.next (and_left (edges_below n these b.next) (blocks_below n these bs) more) in
      let third = blocks_down bs (and_right (edges_below n these b.next) (blocks_below n these bs) more) in
      and_both (cmds_below top these (map (moved_cmd to) b.cmds)) _ first (and_both (edges_below top these (map (moved_edge to) b.next)) _ second third)

module _ (these : ℕ → Bool) where
  cmd_raised : (n top : ℕ) → n ≤ top → (b : Option ℕ) (r : Says) (on new_on : Bool) → (is_of these b && (form_below n (said r) && on)) ≡ true → (on ≡ true → new_on ≡ true) → (is_of these b && (form_below top (said r) && new_on)) ≡ true
  cmd_raised n top le b r on new_on h next =
      let more = and_right (is_of these b) (form_below n (said r) && on) h in
      and_both (is_of these b) _ (and_left (is_of these b) (form_below n (said r) && on) h) (and_both (form_below top (said r)) _ (form_raised n top le (said r) (and_left (form_below n (said r)) on more)) (next (and_right (form_below n (said r)) on more)))

  cmds_raised : (n top : ℕ) → n ≤ top → (ks : List FormCmd) → cmds_below n these ks ≡ true → cmds_below top these ks ≡ true
  cmds_raised n top le [] h = refl
  cmds_raised n top le (Asks s b r ∷ ks) h = cmd_raised n top le b r (cmds_below n these ks) _ h (cmds_raised n top le ks)
  cmds_raised n top le (Takes b r ∷ ks) h = cmd_raised n top le b r (cmds_below n these ks) _ h (cmds_raised n top le ks)

  first_raised : (n top : ℕ) → n ≤ top → (bs : List FormBlock) → blocks_below n these bs ≡ true → cmds_below top these (first_cmds bs) ≡ true
  first_raised n top le [] h = refl
  first_raised n top le (b ∷ bs) h =
      cmds_raised n top le b.cmds (and_left (cmds_below n these b.cmds) (edges_below n these b.next && blocks_below n these bs) h)

  cmd_joined : (x y on more : Bool) → (x && (y && on)) ≡ true → (on ≡ true → more ≡ true) → (x && (y && more)) ≡ true
  cmd_joined true true on more h f = f h
  cmd_joined true false on more h f = h
  cmd_joined false y on more h f = h

  cmds_joined : (n : ℕ) (ks ls : List FormCmd) → cmds_below n these ks ≡ true → cmds_below n these ls ≡ true → cmds_below n these (ks ++ ls) ≡ true
  cmds_joined n [] ls h k = k
  cmds_joined n (Asks s b r ∷ ks) ls h k =
      cmd_joined (is_of these b) (form_below n (said r)) (cmds_below n these ks) _ h (λ g. cmds_joined n ks ls g k)
  cmds_joined n (Takes b r ∷ ks) ls h k =
      cmd_joined (is_of these b) (form_below n (said r)) (cmds_below n these ks) _ h (λ g. cmds_joined n ks ls g k)

  behind_below : (n : ℕ) (ks : List FormCmd) (bs : List FormBlock) → cmds_below n these ks ≡ true → blocks_below n these bs ≡ true → blocks_below n these (behind_cmds ks bs) ≡ true
  behind_below n ks [] h k = refl
  behind_below n ks (b ∷ bs) h k =
      and_both (cmds_below n these (ks ++ b.cmds)) _ (cmds_joined n ks b.cmds h (and_left (cmds_below n these b.cmds) (edges_below n these b.next && blocks_below n these bs) k)) (and_right (cmds_below n these b.cmds) (edges_below n these b.next && blocks_below n these bs) k)

-- ---- the whole

pub said_ahead : (ss more : List Sort) (k : ℕ) (xs : List s.Ex) (bs : List PassiveBlock) (front base made : Atoms) → Encodes (ss ++ more) k (in_front xs (blanks bs)) (encoding_of k front) → Encodes ss k bs (encoding_of k base) → IsAhead front base made → Encodes (ss ++ more) k (in_front xs bs) (encoding_of k made)
said_ahead ss more k xs bs front base made f b is =
    record {
      first = is.first ∙ f.first;
      terms = is.terms ∙ f.terms;
      said = λ z w c agree holds.
          let agrees = subst (λ n. RowsAgree z w n (fs ++ fresh fs rs)) is.first (subst (RowsAgree z w made.first) is.rows agree) in
          let ahead = f.said z w c (front_agree z w front.first fs rs agrees) holds in
          let behind = b.said z (worth w to) c (moved_agree z w base.first front.first fs rs f.denials b.rows agrees) (fewer_hold ss more z w c base.first to b.first (goes_stay base.first front.first fs rs) holds) in
          subst (SaidBlocks w c (in_front xs bs)) (sym is.blocks) (said_behind w c xs bs (blocks_of front.blocks) (moved_blocks to (blocks_of base.blocks)) ahead (blocks_moved to w c bs (blocks_of base.blocks) behind));
      below =
          subst (λ l. blocks_below (made.first + length (rows_in made.rows)) these l ≡ true) (sym is.blocks)
          (behind_below these (made.first + length (rows_in made.rows)) (first_cmds (blocks_of front.blocks)) (moved_blocks to (blocks_of base.blocks))
          (first_raised these (front.first + length fs) (made.first + length (rows_in made.rows)) (omega (arith, room)) (blocks_of front.blocks) f.below)
          (blocks_down (base.first + length rs) (made.first + length (rows_in made.rows)) to these (atom_goes_below base.first front.first (made.first + length (rows_in made.rows)) fs rs b.rows fewer (omega (arith, room))) (blocks_of base.blocks) b.below));
      count = f.count;
      rows = are_rows made.rows.items;
      denials = rows_agree made.rows.items;
      inside =
          subst (λ l. rows_below made.terms l ≡ true) (sym is.rows)
          (subst (λ t. rows_below t (fs ++ fresh fs rs) ≡ true) (sym is.terms)
          (beside_below front.terms fs (fresh fs rs) f.inside (fresh_raised base.terms front.terms terms fs rs b.inside)));
    }
  where
    fs : List AtomOf
    fs = rows_in front.rows

    rs : List AtomOf
    rs = rows_in base.rows

    to : List Literal
    to = goes base.first front.first (rows_in front.rows) (rows_in base.rows)

    these : ℕ → Bool
    these = bools_at (replicate k true)

    fewer : base.first ≤ front.first
    fewer = omega (arith, b.first, f.first, truths_more ss more)

    terms : base.terms ≤ front.terms
    terms = omega (arith, b.terms, f.terms, length-append ss more)

    room : made.first + length (rows_in made.rows) ≡ (front.first + length (rows_in front.rows)) + length (fresh (rows_in front.rows) (rows_in base.rows))
    room =
        let count = ap length is.rows ∙ length-append (rows_in front.rows) (fresh (rows_in front.rows) (rows_in base.rows)) in
        let same = is.first in
        omega (arith, count, same)
