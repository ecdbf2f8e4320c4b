-- What the code's state means.
use Rattle.std.proofs.Common.{◌≡◌, ℕ, Bool, true, false, List, [], ◌∷◌, ◌++◌, length, map, refl, sym, ap, ◌∙◌, subst, append_assoc, append-nil}
use Rattle.std.specs.Prelude.{reverse}
use Rattle.std.proofs.lemmas.List.{length-map, length-reverse, map-append, reverse-append, reverse-reverse}
use Rattle.bg_ast.specs.Resolved as r
use Rattle.bg_sense.specs.Flow.{Point}
use Rattle.bg_flow.specs.Core.{Cmd, Do, To}
use Rattle.bg_flow.specs.Blocks.{Block, Leap, to_points, led}
use Rattle.bg_blocks.specs.declared.block.Block as whole
use Rattle.bg_blocks.specs.declared.emit.Emitted as code
use Rattle.bg_blocks.specs.Marks.{ahead}
use Rattle.bg_blocks.specs.MarkViews.{marked}
use Rattle.bg_blocks.specs.Views.{exit_of}
use Rattle.bg_blocks.specs.Emitted.{State, pushed, performed, where_in, Emits}
use Rattle.bg_blocks.specs.EmittedViews.{made_of, state_of, ahead_in}
use Rattle.bg_blocks.proofs.Emission.{emits_do, emits_to}

pub long : (p : r.Program) (e : code.Emitted) → length (state_of p e).blocks ≡ length e.blocks.items
long p e = length-reverse (map (made_of p) e.blocks.items) ∙ length-map e.blocks.items (made_of p)

-- where points lie, by the code's state
pub where_is : (p : r.Program) (e : code.Emitted) → where_in (state_of p e) ≡ ahead_in e
where_is p e = ap (ahead (marked e.marks)) (long p e)

-- a block that leads to points
pub emits_leap : (p : r.Program) (ps : List Point) (to : List ℕ) (old new : code.Emitted) → to ≡ to_points (ahead_in old) ps → state_of p new ≡ pushed (record { cmds = []; exit = Leap to }) (state_of p old) → Emits (To ps) (state_of p old) (state_of p new)
emits_leap p ps to old new is made =
    let said = made ∙ ap (λ l. pushed (record { cmds = []; exit = Leap l }) (state_of p old)) (is ∙ ap (λ w. to_points w ps) (sym (where_is p old))) in
    subst (Emits (To ps) (state_of p old)) (sym said) (emits_to ps (state_of p old))

-- commands in front
pub emits_single : (p : r.Program) (ks : List Cmd) (old new : code.Emitted) → state_of p new ≡ performed ks (state_of p old) → Emits (Do ks) (state_of p old) (state_of p new)
emits_single p ks old new is = subst (Emits (Do ks) (state_of p old)) (sym is) (emits_do ks (state_of p old))

-- ---- lists with the last one first

pub map_reverse : {A B : Type 0} (f : A → B) (xs : List A) → map f (reverse xs) ≡ reverse (map f xs)
map_reverse f [] = refl
map_reverse f (x ∷ xs) = ap (map f) (reverse-append (x ∷ []) xs) ∙ (map-append f (reverse xs) (x ∷ []) ∙ (ap (λ l. l ++ f x ∷ []) (map_reverse f xs) ∙ sym (reverse-append (f x ∷ []) (map f xs))))

-- the last one comes first
pub last_first : {A B : Type 0} (f : A → B) (us vs : List A) (x : A) → us ≡ vs ++ x ∷ [] → reverse (map f us) ≡ f x ∷ reverse (map f vs)
last_first f us vs x is =
    ap (λ l. reverse (map f l)) is
    ∙ (ap reverse (map-append f vs (x ∷ [])) ∙ reverse-append (map f vs) (f x ∷ []))

-- a list that is turned
pub turned_back : {A B : Type 0} (f : A → B) (us xs : List A) → us ≡ reverse xs → reverse (map f us) ≡ map f xs
turned_back f us xs is =
    ap (λ l. reverse (map f l)) is ∙ (ap reverse (map_reverse f xs) ∙ reverse-reverse (map f xs))

-- commands behind those of a block that is being made are in front of them
pub in_front_of : {A B : Type 0} (f : A → B) (all us ys xs : List A) → us ≡ reverse xs → all ≡ ys ++ us → reverse (map f all) ≡ map f xs ++ reverse (map f ys)
in_front_of f all us ys xs is h =
    ap (λ l. reverse (map f l)) h
    ∙ (ap reverse (map-append f ys us)
    ∙ (reverse-append (map f ys) (map f us)
    ∙ ap (λ l. l ++ reverse (map f ys)) (turned_back f us xs is)))

-- one more of a list that is turned
pub one_turned : {A B : Type 0} (f g : A → B) (made more left less : List A) (x y : A) (all : List B) → left ≡ less ++ x ∷ [] → more ≡ made ++ y ∷ [] → f y ≡ g x → map f made ++ reverse (map g left) ≡ all → map f more ++ reverse (map g less) ≡ all
one_turned f g made more left less x y all d e same h =
    let rest = reverse (map g less) in
    ap (λ l. map f l ++ rest) e
    ∙ (ap (λ l. l ++ rest) (map-append f made (y ∷ []))
    ∙ (append_assoc (map f made) (f y ∷ []) rest
    ∙ (ap (λ z. map f made ++ z ∷ rest) same
    ∙ (sym (ap (λ l. map f made ++ l) (last_first g left less x d))
    ∙ h))))

pub all_turned : {A B : Type 0} (f g : A → B) (made left : List A) (all : List B) → left ≡ [] → map f made ++ reverse (map g left) ≡ all → map f made ≡ all
all_turned f g made left all none h =
    sym (append-nil (map f made)) ∙ (sym (ap (λ l. map f made ++ reverse (map g l)) none) ∙ h)

-- ---- commands in front

pub same_state : (s t : State) → s.blocks ≡ t.blocks → s.takes_in ≡ t.takes_in → s.marks ≡ t.marks → s.undo ≡ t.undo → s ≡ t
same_state s t b o m u = rw (b, o, m, u) refl

-- the first block takes them in
pub lead_is : (p : r.Program) (ks : List Cmd) (old new : code.Emitted) (first more : whole.Block) (left : List whole.Block) → old.takes_in ≡ true → old.blocks.items ≡ left ++ first ∷ [] → new.blocks.items ≡ left ++ more ∷ [] → made_of p more ≡ record { cmds = ks ++ (made_of p first).cmds; exit = exit_of first.exit } → new.takes_in ≡ old.takes_in → new.marks ≡ old.marks → state_of p new ≡ performed ks (state_of p old)
lead_is p ks old new first more left h d e made o m =
    let bs = reverse (map (made_of p) left) in
    let there : reverse (map (made_of p) old.blocks.items) ≡ made_of p first ∷ bs = last_first (made_of p) old.blocks.items left first d in
    let takes : led old.takes_in ks (reverse (map (made_of p) old.blocks.items)) ≡ record { cmds = ks ++ (made_of p first).cmds; exit = exit_of first.exit } ∷ bs =
    ap (λ b. led b ks (reverse (map (made_of p) old.blocks.items))) h ∙ ap (led true ks) there in
    same_state (state_of p new) (performed ks (state_of p old))
    (last_first (made_of p) new.blocks.items left more e ∙ (ap (λ b. b ∷ bs) made ∙ sym takes))
    (o ∙ h)
    (ap marked m)
    (ap (λ k. k.undo.items) m)

led_none : (o : Bool) (ks : List Cmd) → led o ks [] ≡ record { cmds = ks; exit = Leap (0 ∷ []) } ∷ []
led_none true ks = refl
led_none false ks = refl

-- there is none that does
pub none_is : (p : r.Program) (ks : List Cmd) (old before : code.Emitted) → old.blocks.items ≡ [] → before.blocks.items ≡ [] → before.marks ≡ old.marks → pushed (record { cmds = ks; exit = Leap (0 ∷ []) }) (state_of p before) ≡ performed ks (state_of p old)
none_is p ks old before d e m =
    let b : Block = record { cmds = ks; exit = Leap (0 ∷ []) } in
    same_state (pushed b (state_of p before)) (performed ks (state_of p old))
    (ap (λ l. b ∷ reverse (map (made_of p) l)) e ∙ sym (ap (λ l. led old.takes_in ks (reverse (map (made_of p) l))) d ∙ led_none old.takes_in ks))
    refl
    (ap marked m)
    (ap (λ k. k.undo.items) m)

pub alone_is : (p : r.Program) (ks : List Cmd) (old : code.Emitted) → old.takes_in ≡ false → pushed (record { cmds = ks; exit = Leap (0 ∷ []) }) (state_of p old) ≡ performed ks (state_of p old)
alone_is p ks old h =
    let bs = (state_of p old).blocks in
    ap (λ l. record { blocks = l; takes_in = true; marks = marked old.marks; undo = old.marks.undo.items }) (sym (ap (λ b. led b ks bs) h))
