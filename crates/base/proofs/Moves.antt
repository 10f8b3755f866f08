-- Entries moved from place to place: scattering and gathering by the same places undo each other.
-- Assumes nothing.
use mathlib.Core.Path.{◌≡◌, refl, sym, ap, ap₂, ◌∙◌}
use mathlib.Core.List.{List}
use mathlib.Core.Bool.{Bool, true, false}
use Prim.Native.Nat.{ℕ, zero, suc, ◌+◌, ◌-◌, ◌≤◌, ◌<◌}
use native.Mathlib.Numerals.{add-one}
use native.Mathlib.Omega.{arith}
use lib.Dec.{eqb, ltb}
use borrow.Author.Tests.{eqb-true, eqb-false, ltb-true, ltb-false}
use lib.ListN.{length, take, drop, get_or, set, replicate, length-replicate, length-set, length-drop, length-append, get_or-append}
use lib.Seq.{ext_get_or, set_comm, get_or-set_same, get_or-set_other, get_or-take, length-take-le, get_or-drop, get_or-append-add}
use Rattle.base.specs.Places.{written, gather, scatter, Apart}
use Rattle.base.specs.private.Places.{Within}
use Rattle.base.proofs.Lists.{tabulate_length, tabulate_at, tabulate_same, tabulate_of}

pub gather_length : (place : ℕ → ℕ) (n : ℕ) (src : List ℕ) → length (gather place n src) ≡ n
gather_length place n src = tabulate_length (λ j. get_or src (place j) 0) n

pub gather_at : (place : ℕ → ℕ) (n : ℕ) (src : List ℕ) (j : ℕ) → j < n → get_or (gather place n src) j 0 ≡ get_or src (place j) 0
gather_at place n src j h = tabulate_at (λ j. get_or src (place j) 0) n j h

-- places that agree below n gather the same
pub gather_same : (p q : ℕ → ℕ) (n : ℕ) (src : List ℕ) → ((i : ℕ) → i < n → p i ≡ q i) → gather p n src ≡ gather q n src
gather_same p q n src h = tabulate_same (λ j. get_or src (p j) 0) (λ j. get_or src (q j) 0) n (λ i k. ap (λ (x : ℕ). get_or src x 0) (h i k))

pub scatter_length : (place : ℕ → ℕ) (n : ℕ) (src dst : List ℕ) → length (scatter place n src dst) ≡ length dst
unfolding scatter
scatter_length place zero src dst = refl
scatter_length place (suc n) src dst = length-set (scatter place n src dst) (place n) (get_or src n 0) ∙ scatter_length place n src dst

-- ---- a loop that writes entry i at place i
pub scatter_none : (place : ℕ → ℕ) (src dst : List ℕ) → dst ≡ scatter place 0 src dst
unfolding scatter
scatter_none place src dst = refl

pub scatter_more : (place : ℕ → ℕ) (i : ℕ) (src dst : List ℕ) → set (scatter place i src dst) (place i) (get_or src i 0) ≡ scatter place (i + 1) src dst
unfolding scatter
scatter_more place i src dst = rw add-one

-- places that agree below n scatter the same
pub scatter_same : (p q : ℕ → ℕ) (n : ℕ) (src dst : List ℕ) → ((i : ℕ) → i < n → p i ≡ q i) → scatter p n src dst ≡ scatter q n src dst
unfolding scatter
scatter_same p q zero src dst h = refl
scatter_same p q (suc n) src dst h =
    ap₂ (λ (l : List ℕ) (x : ℕ). set l x (get_or src n 0)) (scatter_same p q n src dst (λ i k. h i (omega arith))) (h n (omega arith))

-- what is scattered in two pieces
pub scatter_join : (place : ℕ → ℕ) (n m : ℕ) (src dst : List ℕ)
    → scatter (λ i. place (n + i)) m (drop n src) (scatter place n src dst) ≡ scatter place (n + m) src dst
unfolding scatter
scatter_join place n zero src dst =
    let e : n ≡ n + 0 = omega arith in
    ap (λ (k : ℕ). scatter place k src dst) e
scatter_join place n (suc m) src dst =
    let e : suc (n + m) ≡ n + suc m = omega arith in
    ap₂ (λ (l : List ℕ) (x : ℕ). set l (place (n + m)) x) (scatter_join place n m src dst) (get_or-drop n src m 0)
    ∙ ap (λ (k : ℕ). scatter place k src dst) e

-- an entry put where nothing goes, before or after
pub scatter_set : (place : ℕ → ℕ) (n : ℕ) (src dst : List ℕ) (x v : ℕ) → ((i : ℕ) → i < n → place i ≡ x → ⊥)
    → set (scatter place n src dst) x v ≡ scatter place n src (set dst x v)
unfolding scatter
scatter_set place zero src dst x v h = refl
scatter_set place (suc n) src dst x v h =
    set_comm (scatter place n src dst) (place n) x (get_or src n 0) v (h n (omega arith))
    ∙ ap (λ (l : List ℕ). set l (place n) (get_or src n 0)) (scatter_set place n src dst x v (λ i k. h i (omega arith)))

-- a place that nothing goes to keeps its entry
pub scatter_miss : (place : ℕ → ℕ) (n : ℕ) (src dst : List ℕ) (x : ℕ) → ((i : ℕ) → i < n → place i ≡ x → ⊥)
    → get_or (scatter place n src dst) x 0 ≡ get_or dst x 0
unfolding scatter
scatter_miss place zero src dst x h = refl
scatter_miss place (suc n) src dst x h =
    get_or-set_other (scatter place n src dst) (place n) x (get_or src n 0) 0 (λ e. h n (omega arith) (sym e))
    ∙ scatter_miss place n src dst x (λ i k. h i (omega arith))

-- each place has what went there
pub scatter_hit : (place : ℕ → ℕ) (n : ℕ) (src dst : List ℕ) → Apart place n → Within place n (length dst)
    → (i : ℕ) → i < n → get_or (scatter place n src dst) (place i) 0 ≡ get_or src i 0
unfolding scatter
scatter_hit place zero src dst a w i h = absurd (omega arith)
scatter_hit place (suc n) src dst a w i h = go (λ k. scatter_hit place n src dst (λ i j p q. a i j (omega arith) (omega arith)) (λ i p. w i (omega arith)) i k) (eqb i n) refl
  where
    go : (i < n → get_or (scatter place n src dst) (place i) 0 ≡ get_or src i 0) → (t : Bool) → eqb i n ≡ t
        → get_or (set (scatter place n src dst) (place n) (get_or src n 0)) (place i) 0 ≡ get_or src i 0
    go ih true e =
        let p = eqb-true i n e in
        ap (λ (x : ℕ). get_or (set (scatter place n src dst) (place n) (get_or src n 0)) (place x) 0) p
        ∙ get_or-set_same (scatter place n src dst) (place n) (get_or src n 0) 0 (omega (arith, scatter_length place n src dst, w n (omega arith)))
        ∙ ap (λ (x : ℕ). get_or src x 0) (sym p)
    go ih false e =
        get_or-set_other (scatter place n src dst) (place n) (place i) (get_or src n 0) 0 (λ q. eqb-false i n e (a i n h (omega arith) q))
        ∙ ih (omega (arith, eqb-false i n e))

-- ---- undone
-- what was scattered is gathered back
pub gather_scatter : (place : ℕ → ℕ) (n : ℕ) (src dst : List ℕ) → Apart place n → Within place n (length dst) → n ≤ length src
    → gather place n (scatter place n src dst) ≡ take n src
gather_scatter place n src dst a w h =
    sym (tabulate_of (take n src) (λ j. get_or (scatter place n src dst) (place j) 0) n (length-take-le n src h)
    (λ i k. get_or-take n src i 0 k ∙ sym (scatter_hit place n src dst a w i k)))

-- each place below n is reached
abbrev pub Onto : (ℕ → ℕ) → ℕ → Type 0
Onto place n = (x : ℕ) → x < n → (i : ℕ) × (i < n) × (place i ≡ x)

-- what was gathered is scattered back, where the places fill the front of the target
pub scatter_gather : (place : ℕ → ℕ) (n : ℕ) (src dst : List ℕ) → Apart place n → Within place n n → Onto place n → n ≤ length src → n ≤ length dst
    → scatter place n (gather place n src) dst ≡ written (take n src) dst
scatter_gather place n src dst a w o h k =
    ext_get_or 0 (scatter place n (gather place n src) dst) (written (take n src) dst)
    (omega (arith, scatter_length place n (gather place n src) dst, tl, length-append (take n src) (drop (length (take n src)) dst), length-drop (length (take n src)) dst))
    (λ x p. at x (ltb x n) refl)
  where
    tl : length (take n src) ≡ n
    tl = length-take-le n src h

    at : (x : ℕ) → (t : Bool) → ltb x n ≡ t → get_or (scatter place n (gather place n src) dst) x 0 ≡ get_or (written (take n src) dst) x 0
    at x true e =
        let q = o x (ltb-true x n e) in
        ap (λ (y : ℕ). get_or (scatter place n (gather place n src) dst) y 0) (sym q.2)
        ∙ scatter_hit place n (gather place n src) dst a (λ i p. omega (arith, w i p)) q.0 q.1
        ∙ gather_at place n src q.0 q.1 ∙ ap (λ (y : ℕ). get_or src y 0) q.2
        ∙ sym (get_or-append (take n src) (drop (length (take n src)) dst) 0 x (omega (arith, tl, ltb-true x n e))
        ∙ get_or-take n src x 0 (ltb-true x n e))
    at x false e =
        let l = ltb-false x n e in
        let s : x ≡ length (take n src) + (x - n) = omega (arith, tl) in
        scatter_miss place n (gather place n src) dst x (λ i p q. omega (arith, w i p))
        ∙ sym (ap (λ (y : ℕ). get_or (written (take n src) dst) y 0) s ∙ get_or-append-add (take n src) (drop (length (take n src)) dst) (x - n) 0
        ∙ get_or-drop (length (take n src)) dst (x - n) 0 ∙ ap (λ (y : ℕ). get_or dst y 0) (sym s))

-- where the places fill the front of the target, what is scattered is written over the front
pub scatter_over : (place : ℕ → ℕ) (n : ℕ) (src blank dst : List ℕ) → Apart place n → Within place n n → Onto place n → length blank ≡ n → n ≤ length dst
    → scatter place n src dst ≡ written (scatter place n src blank) dst
scatter_over place n src blank dst a w o l h =
    ext_get_or 0 (scatter place n src dst) (written front dst)
    (omega (arith, scatter_length place n src dst, long, length-append front (drop (length front) dst), length-drop (length front) dst))
    (λ x k. at x (ltb x n) refl)
  where
    front : List ℕ
    front = scatter place n src blank

    long : length front ≡ n
    long = scatter_length place n src blank ∙ l

    at : (x : ℕ) → (t : Bool) → ltb x n ≡ t → get_or (scatter place n src dst) x 0 ≡ get_or (written front dst) x 0
    at x true e =
        let q = o x (ltb-true x n e) in
        ap (λ (y : ℕ). get_or (scatter place n src dst) y 0) (sym q.2)
        ∙ scatter_hit place n src dst a (λ i p. omega (arith, w i p)) q.0 q.1
        ∙ sym (get_or-append front (drop (length front) dst) 0 x (omega (arith, long, ltb-true x n e))
        ∙ ap (λ (y : ℕ). get_or front y 0) (sym q.2) ∙ scatter_hit place n src blank a (λ i p. omega (arith, w i p)) q.0 q.1)
    at x false e =
        let s : x ≡ length front + (x - n) = omega (arith, long, ltb-false x n e) in
        scatter_miss place n src dst x (λ i p q. omega (arith, w i p, ltb-false x n e))
        ∙ sym (ap (λ (y : ℕ). get_or (written front dst) y 0) s ∙ get_or-append-add front (drop (length front) dst) (x - n) 0
        ∙ get_or-drop (length front) dst (x - n) 0 ∙ ap (λ (y : ℕ). get_or dst y 0) (sym s))

-- scattering by the places that lead back is gathering
pub scatter_back : (place back : ℕ → ℕ) (n : ℕ) (src dst : List ℕ) → Apart back n → Within back n n → Within place n n
    → ((x : ℕ) → x < n → back (place x) ≡ x) → n ≤ length dst → scatter back n src dst ≡ written (gather place n src) dst
scatter_back place back n src dst a w v u h =
    scatter_over back n src blank dst a w (λ x k. (place x, v x k, u x k)) long h
    ∙ ap (λ (l : List ℕ). written l dst)
    (tabulate_of (scatter back n src blank) (λ i. get_or src (place i) 0) n (scatter_length back n src blank ∙ long)
    (λ x k. ap (λ (y : ℕ). get_or (scatter back n src blank) y 0) (sym (u x k))
    ∙ scatter_hit back n src blank a (λ i p. omega (arith, w i p, long)) (place x) (v x k)))
  where
    blank : List ℕ
    blank = replicate n 0

    long : length blank ≡ n
    long = length-replicate {A = ℕ} n 0

-- ---- scattering reads only the front of its source
