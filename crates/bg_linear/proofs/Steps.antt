-- The steps of the loop over entries: what is made so far, in front of what is left.
use Rattle.std.proofs.Common.{◌≡◌, ℕ, suc, ◌+◌, ◌<◌, ◌≤◌, List, [], ◌∷◌, ℤ, sym, ap, ◌∙◌, drop, length, drop-cons, add-one, append-nil, get_or}
use Rattle.std.specs.Prelude.{Result, Ok, Err}
use Rattle.std.proofs.lemmas.List.{drop_all}
use Rattle.bg_base.specs.declared.exact.OutOfRange.{OutOfRange}
use Rattle.bg_rows.specs.declared.entry.Entry.{Entry}
use Rattle.bg_rows.specs.declared.refused.Refused.{Refused}
use Rattle.bg_rows.specs.declared.refused.Refused.TheVariants.{Range, Memory}
use Rattle.bg_rows.specs.Rows.{Told, after, and_then, put}
use Rattle.bg_rows.proofs.Steps.{put_made, nothing}
use Rattle.bg_linear.specs.declared.scaled.Change.{Change}
use Rattle.bg_linear.specs.Lins.{each}
use Rattle.bg_linear.specs.Views.{changing}

each_step : (how : Change) (made : List Entry) (t : Entry) (ts us : List Entry) → after made (each (changing how) (t ∷ [])) ≡ Ok us → after made (each (changing how) (t ∷ ts)) ≡ after us (each (changing how) ts)
each_step how made t ts us h = by_step (changing how t.by) h
  where
    by_step : (s : Result ℤ OutOfRange) → after made (and_then s (λ c. Ok (put t.variable c []))) ≡ Ok us → after made (and_then s (λ c. and_then (each (changing how) ts) (λ vs. Ok (put t.variable c vs)))) ≡ after us (each (changing how) ts)
    by_step (Ok c) h = put_made made t.variable c (each (changing how) ts) ∙ ap (λ vs. after vs (each (changing how) ts)) (cc)
    by_step (Err o) h = absurd (cc)

each_stop : (how : Change) (made : List Entry) (t : Entry) (ts : List Entry) (o : OutOfRange) → after made (each (changing how) (t ∷ [])) ≡ Err o → after made (each (changing how) (t ∷ ts)) ≡ Err o
each_stop how made t ts o h = by_step (changing how t.by) h
  where
    by_step : (s : Result ℤ OutOfRange) → after made (and_then s (λ c. Ok (put t.variable c []))) ≡ Err o → after made (and_then s (λ c. and_then (each (changing how) ts) (λ vs. Ok (put t.variable c vs)))) ≡ Err o
    by_step (Ok c) h = absurd (cc)
    by_step (Err p) h = cc

pub each_more : (how : Change) (made ts : List Entry) (i : ℕ) (us : List Entry) → i < length ts → after made (each (changing how) (get_or ts i nothing ∷ [])) ≡ Ok us → after made (each (changing how) (drop i ts)) ≡ after us (each (changing how) (drop (i + 1) ts))
each_more how made ts i us h e = rw (drop-cons ts i nothing h, add-one) (each_step how made (get_or ts i nothing) (drop (suc i) ts) us e)

each_end : (how : Change) (made ts : List Entry) (i : ℕ) (o : OutOfRange) → i < length ts → after made (each (changing how) (get_or ts i nothing ∷ [])) ≡ Err o → after made (each (changing how) (drop i ts)) ≡ Err o
each_end how made ts i o h e = rw (drop-cons ts i nothing h) (each_stop how made (get_or ts i nothing) (drop (suc i) ts) o e)

-- what a step refuses, the whole does
pub each_refused : (how : Change) (made ts : List Entry) (i : ℕ) (e : Refused) (all : Result (List Entry) OutOfRange) → i < length ts → Told (λ (x : List Entry). x) (Err e) (after made (each (changing how) (get_or ts i nothing ∷ []))) → after made (each (changing how) (drop i ts)) ≡ all → Told (λ (x : List Entry). x) (Err e) all
each_refused how made ts i (Range o) all h e k = sym k ∙ each_end how made ts i o h e
each_refused how made ts i Memory all h e k = tt

-- the whole, where nothing is left
pub each_done : (how : Change) (made ts : List Entry) (i : ℕ) (all : Result (List Entry) OutOfRange) → length ts ≤ i → after made (each (changing how) (drop i ts)) ≡ all → all ≡ Ok made
each_done how made ts i all h k =
    sym k ∙ (ap (λ l. after made (each (changing how) l)) (drop_all i ts h) ∙ ap Ok (append-nil made))
