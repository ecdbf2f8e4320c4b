-- Marks of rows and of candidates.
use Rattle.std.proofs.Common.{◌≡◌, ℕ, Bool, false, List, [], ◌∷◌, map, drop, refl, ap, ◌∙◌}
use Rattle.std.specs.Prelude.{◌||◌}
use Rattle.bg_ast.specs.Execution.{Spot}
use Rattle.bg_formed.specs.Formed.{FormCmd, FormEdge, FormBlock}
use Rattle.bg_formed.specs.declared.used.Use as code
use Rattle.bg_formed.specs.Seen.{use_of}
use Rattle.bg_formed.specs.Used.{Use, use_later, use_edges, uses}
use Rattle.bg_slice.specs.Slices.{slice_cmds, slice_edge, slice_edges, slice_block, sliced, names_cmds, names_edges, names_blocks, guards_cmds, guards_edges, guards_blocks}
use Rattle.bg_slice.specs.Marks.{marked}
use Rattle.bg_slice.specs.Noted.{KeptOf, noted, noted_cmds, noted_edges, noted_block, noted_blocks}
use Rattle.bg_slice.specs.Counting.{IsFront}
use Rattle.bg_slice.proofs.Marking.{marked_none, marked_both}
use Rattle.bg_slice.proofs.Fronts.{front_names, front_guards}

pub noted_none : (n : ℕ) (m : KeptOf) → noted n (λ j. false) (λ c. false) m ≡ m
noted_none n m =
    ap (λ l. record { rows = l; named = marked (λ c. false) 0 m.named }) (marked_none n m.rows)
    ∙ ap (λ l. record { rows = m.rows; named = l }) (marked_none 0 m.named)

noted_both : (n : ℕ) (p q r s : ℕ → Bool) (m : KeptOf) → noted n r s (noted n p q m) ≡ noted n (λ j. p j || r j) (λ c. q c || s c) m
noted_both n p q r s m =
    ap (λ l. record { rows = l; named = marked s 0 (marked q 0 m.named) }) (marked_both p r n m.rows)
    ∙ ap (λ l. record { rows = marked (λ j. p j || r j) n m.rows; named = l }) (marked_both q s 0 m.named)

front_noted : (n : ℕ) (t : Spot) (ks : List FormCmd) (u : Use) (front : List FormCmd) (m : KeptOf) → IsFront t ks u front → noted_cmds n front m ≡ noted_cmds n (slice_cmds t ks u) m
front_noted n t ks u front m is =
    ap (λ p. noted n p (λ c. guards_cmds c front) m) (front_names t ks u front is)
    ∙ ap (λ q. noted n (λ j. names_cmds j (slice_cmds t ks u)) q m) (front_guards t ks u front is)

-- one way more
pub one_edge : (n : ℕ) (t : Spot) (later : List Use) (e : FormEdge) (es : List FormEdge) (ks front : List FormCmd) (u : Use) (m new : KeptOf) → ks ≡ e.cmds → u ≡ use_later later e.to → IsFront t ks u front → new ≡ noted_cmds n front m → noted_edges n (slice_edges t later es) new ≡ noted_edges n (slice_edges t later (e ∷ es)) m
one_edge n t later e es ks front u m new same on is eq =
    ap (noted_edges n (slice_edges t later es)) (eq ∙ (front_noted n t ks u front m is ∙ (ap (λ l. noted_cmds n (slice_cmds t l u) m) same ∙ ap (λ v. noted_cmds n (slice_cmds t e.cmds v) m) on)))
    ∙ noted_both n (λ j. names_cmds j (slice_cmds t e.cmds (use_later later e.to))) (λ c. guards_cmds c (slice_cmds t e.cmds (use_later later e.to))) (λ j. names_edges j (slice_edges t later es)) (λ c. guards_edges c (slice_edges t later es)) m

pub one_block : (n : ℕ) (t : Spot) (later : List Use) (b : FormBlock) (ks front : List FormCmd) (es : List FormEdge) (u : Use) (m mid new : KeptOf) → ks ≡ b.cmds → es ≡ b.next → u ≡ use_edges t later b.next → IsFront t ks u front → mid ≡ noted_cmds n front m → new ≡ noted_edges n (slice_edges t later es) mid → new ≡ noted_block n (slice_block t later b) m
one_block n t later b ks front es u m mid new same ways on is first second =
    second
    ∙ (ap (λ l. noted_edges n (slice_edges t later l) mid) ways
    ∙ (ap (noted_edges n (slice_edges t later b.next)) (first ∙ (front_noted n t ks u front m is ∙ (ap (λ l. noted_cmds n (slice_cmds t l u) m) same ∙ ap (λ v. noted_cmds n (slice_cmds t b.cmds v) m) on)))
    ∙ noted_both n (λ j. names_cmds j (slice_cmds t b.cmds (use_edges t later b.next))) (λ c. guards_cmds c (slice_cmds t b.cmds (use_edges t later b.next))) (λ j. names_edges j (slice_edges t later b.next)) (λ c. guards_edges c (slice_edges t later b.next)) m))

pub more_blocks : (n : ℕ) (t : Spot) (b : FormBlock) (bs : List FormBlock) (m new : KeptOf) → new ≡ noted_block n (slice_block t (uses t bs) b) m → noted_blocks n (sliced t bs) new ≡ noted_blocks n (sliced t (b ∷ bs)) m
more_blocks n t b bs m new eq =
    ap (noted_blocks n (sliced t bs)) eq
    ∙ noted_both n (λ j. names_cmds j (slice_block t (uses t bs) b).cmds || names_edges j (slice_block t (uses t bs) b).next) (λ c. guards_cmds c (slice_block t (uses t bs) b).cmds || guards_edges c (slice_block t (uses t bs) b).next) (λ j. names_blocks j (sliced t bs)) (λ c. guards_blocks c (sliced t bs)) m

-- what is reached from the blocks behind the first
pub behind_first : (old new : List code.Use) (t : Spot) (b : FormBlock) (more : List FormBlock) → map use_of old ≡ uses t (b ∷ more) → new ≡ drop 1 old → map use_of new ≡ uses t more
behind_first [] new t b more h e = absurd (let bad : ⊥ = cc in bad)
behind_first (x ∷ old) new t b more h e = ap (map use_of) e ∙ ap (drop 1) h
