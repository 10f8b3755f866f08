-- Laws of lists made entry by entry and written over the front of a target.
-- Assumes nothing.
use mathlib.Core.Path.{◌≡◌, refl, sym, ap, ap₂, ◌∙◌}
use mathlib.Core.List.{List, [], ◌∷◌, ◌++◌, append_assoc, append-nil}
use mathlib.Core.Bool.{Bool, true, false}
use Prim.Native.Nat.{ℕ, zero, suc, ◌+◌, ◌≤◌, ◌<◌}
use native.Mathlib.Numerals.{add-one}
use native.Mathlib.Omega.{arith}
use lib.Dec.{ltb}
use borrow.Author.Tests.{ltb-true, ltb-false}
use lib.ListN.{length, drop, get_or, set, length-append, length-drop, get_or-append}
use lib.Seq.{drop-cons, set_at, drop-length, ext_get_or, get_or-append-add}
use Rattle.base.specs.Places.{tabulate, written}

pub tabulate_length : (f : ℕ → ℕ) (n : ℕ) → length (tabulate f n) ≡ n
unfolding tabulate
tabulate_length f zero = refl
tabulate_length f (suc n) = omega (arith, length-append (tabulate f n) (f n ∷ []), tabulate_length f n)

pub tabulate_at : (f : ℕ → ℕ) (n i : ℕ) → i < n → get_or (tabulate f n) i 0 ≡ f i
unfolding tabulate
tabulate_at f zero i h = absurd (omega arith)
tabulate_at f (suc n) i h = go (tabulate_at f n i) (ltb i n) refl
  where
    l : length (tabulate f n) ≡ n
    l = tabulate_length f n

    go : (i < n → get_or (tabulate f n) i 0 ≡ f i) → (t : Bool) → ltb i n ≡ t → get_or (tabulate f n ++ (f n ∷ [])) i 0 ≡ f i
    go ih true e = get_or-append (tabulate f n) (f n ∷ []) 0 i (omega (arith, l, ltb-true i n e)) ∙ ih (ltb-true i n e)
    go ih false e =
        let p : i ≡ length (tabulate f n) + 0 = omega (arith, l, ltb-false i n e) in
        let q : n ≡ i = omega (arith, ltb-false i n e) in
        ap (λ (k : ℕ). get_or (tabulate f n ++ (f n ∷ [])) k 0) p ∙ get_or-append-add (tabulate f n) (f n ∷ []) 0 0 ∙ ap f q

-- two rules that agree below n make one list
pub tabulate_same : (f g : ℕ → ℕ) (n : ℕ) → ((i : ℕ) → i < n → f i ≡ g i) → tabulate f n ≡ tabulate g n
unfolding tabulate
tabulate_same f g zero h = refl
tabulate_same f g (suc n) h = ap₂ (λ (l : List ℕ) (x : ℕ). l ++ (x ∷ [])) (tabulate_same f g n (λ i k. h i (omega arith))) (h n (omega arith))

-- a list is what its entries make
pub tabulate_of : (l : List ℕ) (f : ℕ → ℕ) (n : ℕ) → length l ≡ n → ((i : ℕ) → i < n → get_or l i 0 ≡ f i) → l ≡ tabulate f n
tabulate_of l f n e h =
    ext_get_or 0 l (tabulate f n) (e ∙ sym (tabulate_length f n)) (λ i k. h i (omega arith) ∙ sym (tabulate_at f n i (omega arith)))

pub tabulate_more : (f : ℕ → ℕ) (n : ℕ) → tabulate f (n + 1) ≡ tabulate f n ++ (f n ∷ [])
unfolding tabulate
tabulate_more f n = rw add-one

-- ---- a loop that writes entry i at place i
pub write_none : (f : ℕ → ℕ) (d : List ℕ) → d ≡ written (tabulate f 0) d
unfolding tabulate
write_none f d = refl

-- one entry more behind what was written
pub written_more : (new d : List ℕ) (x n : ℕ) → length new ≡ n → n < length d → set (written new d) n x ≡ written (new ++ (x ∷ [])) d
written_more new d x n e h =
    let l : length (new ++ (x ∷ [])) ≡ suc n = omega (arith, length-append new (x ∷ [])) in
    ap (λ (k : ℕ). set (new ++ drop k d) n x) e
    ∙ ap (λ (r : List ℕ). set (new ++ r) n x) (drop-cons d n 0 h)
    ∙ set_at new (get_or d n 0) (drop (suc n) d) x n e
    ∙ sym (append_assoc new (x ∷ []) (drop (suc n) d))
    ∙ ap (λ (k : ℕ). (new ++ (x ∷ [])) ++ drop k d) (sym l)

pub write_more : (f : ℕ → ℕ) (i : ℕ) (d : List ℕ) → i < length d → set (written (tabulate f i) d) i (f i) ≡ written (tabulate f (i + 1)) d
write_more f i d h = written_more (tabulate f i) d (f i) i (tabulate_length f i) h ∙ ap (λ (l : List ℕ). written l d) (sym (tabulate_more f i))

-- ---- what is written
pub written_length : (new old : List ℕ) → length new ≤ length old → length (written new old) ≡ length old
written_length new old h = omega (arith, length-append new (drop (length new) old), length-drop (length new) old)

-- a whole target
pub written_whole : (new old : List ℕ) → length new ≡ length old → written new old ≡ new
written_whole new old e =
    ap (λ (l : List ℕ). new ++ l) (ap (λ (k : ℕ). drop k old) e ∙ drop-length old) ∙ append-nil new
