-- Lines that the machine took so far.
use Rattle.std.proofs.Common.{◌≡◌, ℕ, ◌+◌, List, [], ◌∷◌, ◌++◌, flat_map, length, Option, Some, None, refl, ap, sym, ◌∙◌, append_assoc, arith}
use Rattle.bg_certtext.specs.Lines.{line}
use Rattle.bg_certtext.specs.Words.{words_of}
use Rattle.bg_certtext.specs.Machine.{DraftOf, start, next, after, then_, Stands}
use Rattle.bg_certtext.proofs.Joined.{line_words}

after_by : (xs more : List (List (List ℕ))) (e f : DraftOf) (o : Option DraftOf) → ((d : DraftOf) → after xs d ≡ Some e → after more d ≡ Some f) → then_ o (after xs) ≡ Some e → then_ o (after more) ≡ Some f
after_by xs more e f None go h = absurd (cc)
after_by xs more e f (Some d) go h = go d h

pub after_one : (xs : List (List (List ℕ))) (ws : List (List ℕ)) (d e f : DraftOf) → after xs d ≡ Some e → next ws e ≡ Some f → after (xs ++ ws ∷ []) d ≡ Some f
after_one [] ws d e f h k =
    let same : d ≡ e = cc in
    ap (λ (x : DraftOf). then_ (next ws x) (after [])) same ∙ ap (λ (o : Option DraftOf). then_ o (after [])) k
after_one (x ∷ xs) ws d e f h k = after_by xs (xs ++ ws ∷ []) e f (next x d) (λ y m. after_one xs ws y e f m k) h

append_nothing : (xs : List ℕ) → xs ++ [] ≡ xs
append_nothing [] = refl
append_nothing (x ∷ xs) = ap (λ (ys : List ℕ). x ∷ ys) (append_nothing xs)

one_more_line : (xs : List (List (List ℕ))) (ws : List (List ℕ)) → flat_map line (xs ++ ws ∷ []) ≡ flat_map line xs ++ line ws
one_more_line [] ws = append_nothing (line ws)
one_more_line (x ∷ xs) ws = ap (λ (bs : List ℕ). line x ++ bs) (one_more_line xs ws) ∙ sym (append_assoc (line x) (flat_map line xs) (line ws))

length_more : {A : Type 0} (xs : List A) (x : A) → length (xs ++ x ∷ []) ≡ length xs + 1
length_more [] x = refl
length_more (y ∷ ys) x = omega (arith, length_more ys x)

pub stands_first : (bytes : List ℕ) → Stands bytes 1 start bytes
stands_first bytes = record { before = []; cut = refl; count = refl; ran = refl }

pub stands_more : (bytes rest l behind : List ℕ) (n : ℕ) (d e : DraftOf) → Stands bytes n d rest → rest ≡ l ++ 10 ∷ behind → next (words_of l) d ≡ Some e → Stands bytes (n + 1) e behind
stands_more bytes rest l behind n d e h cut k =
    record {
      before = h.before ++ words_of l ∷ [];
      cut =
          h.cut ∙ ap (λ (bs : List ℕ). flat_map line h.before ++ bs) (cut ∙ sym (append_assoc l (10 ∷ []) behind) ∙ ap (λ (bs : List ℕ). bs ++ behind) (sym (line_words l)))
          ∙ sym (append_assoc (flat_map line h.before) (line (words_of l)) behind)
          ∙ ap (λ (bs : List ℕ). bs ++ behind) (sym (one_more_line h.before (words_of l)));
      count = omega (arith, h.count, length_more h.before (words_of l));
      ran = after_one h.before (words_of l) start d e h.ran k;
    }
