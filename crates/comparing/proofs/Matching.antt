-- That what the code gathers of two words decides how they compare.
-- Assumes nothing.
use mathlib.Core.Path.{◌≡◌, refl, ap, ◌∙◌}
use mathlib.Core.List.{List, [], ◌∷◌, ◌++◌}
use mathlib.Core.Bool.{Bool, true, false}
use Prim.Native.Nat.{ℕ, zero, suc, ◌+◌, ◌≤◌, ◌<◌, min}
use native.Mathlib.Numerals.{add-one}
use native.Mathlib.Omega.{arith}
use lib.Bits.{bit_or}
use lib.Dec.{eqb}
use lib.ListN.{length, take, get_or}
use lib.Seq.{take-suc}
use Rattle.std.specs.Prelude.{Option, Some, None}
use Rattle.std.specs.List.{fold, zip}
use Rattle.base.specs.Bits.{ERASED}
use Rattle.comparing.specs.Comparing.{one_more, pick, compare}
use Rattle.comparing.specs.private.Gathering.{unless_erased, unlike, counts, difference, unerased, differing}

-- ---- how many entries are compared
pub counts_most : (d : ℕ) → counts d ≤ 1
counts_most d = go (eqb d ERASED)
  where
    go : (a : Bool) → unless_erased a 1 ≤ 1
    go true = omega arith
    go false = omega arith

pub unerased_most : (ds : List ℕ) → unerased ds ≤ length ds
unfolding unerased
unerased_most [] = omega arith
unerased_most (d ∷ ds) = omega (arith, counts_most d, unerased_most ds)

unerased_append : (v w : List ℕ) → unerased (v ++ w) ≡ unerased v + unerased w
unfolding unerased
unerased_append [] w = omega arith
unerased_append (d ∷ v) w = omega (arith, unerased_append v w)

pub unerased_none : (ds : List ℕ) → 0 ≡ unerased (take 0 ds)
unfolding unerased
unerased_none ds = refl

-- where nothing is left, what was found is what the whole gives
pub unerased_all : (ds rest : List ℕ) (n : ℕ) → length rest ≡ 0 → n + unerased rest ≡ unerased ds → n ≡ unerased ds
unfolding unerased
unerased_all ds [] n l e = omega arith
unerased_all ds (d ∷ rest) n l e = absurd (omega arith)

-- one part more
pub unerased_part : (rest part rest' : List ℕ) (n m : ℕ) → rest ≡ part ++ rest' → m ≡ unerased part → n + m + unerased rest' ≡ n + unerased rest
unerased_part rest part rest' n m e is = omega (arith, is, ap unerased e, unerased_append part rest')

pub unerased_more : (ds : List ℕ) (i : ℕ) → i < length ds → unerased (take (i + 1) ds) ≡ unerased (take i ds) + counts (get_or ds i 0)
unfolding unerased
unerased_more ds i h =
    ap (λ (n : ℕ). unerased (take n ds)) (add-one i) ∙ ap unerased (take-suc ds i 0 h) ∙ unerased_append (take i ds) (get_or ds i 0 ∷ []) ∙ omega arith

-- ---- whether some entries differ
abbrev gather : ℕ → List (ℕ × ℕ) → ℕ
gather = fold (λ found pair. bit_or found (difference pair.0 pair.1))

-- a difference is not forgotten
kept : (pairs : List (ℕ × ℕ)) → gather 1 pairs ≡ 1
kept [] = refl
kept ((m, d) ∷ pairs) = one (eqb d ERASED) (eqb d m) ∙ kept pairs
  where
    one : (a b : Bool) → gather (bit_or 1 (unless_erased a (unlike b))) pairs ≡ gather 1 pairs
    one true b = refl
    one false true = refl
    one false false = refl

-- what was gathered decides how the words compare
record Decided (compared : Option ℕ) (gathered matched : ℕ) : Type 0 where
  pub bit : gathered < 2
  pub same : gathered ≡ 0 → compared ≡ Some matched
  pub other : gathered ≡ 1 → compared ≡ None

-- one entry more in front
one_entry : {compared : Option ℕ} {matched : ℕ} (pairs : List (ℕ × ℕ)) (erased same : Bool) → Decided compared (gather 0 pairs) matched
    → Decided (pick erased compared (pick same (one_more compared) None)) (gather (bit_or 0 (unless_erased erased (unlike same))) pairs) (unless_erased erased 1 + matched)
one_entry pairs true same rest = record { bit = rest.bit; same = λ e. rest.same e ∙ ap Some (omega arith); other = rest.other }
one_entry pairs false true rest = record {
  bit = rest.bit;
  same = λ e. ap one_more (rest.same e) ∙ ap Some (omega arith);
  other = λ e. ap one_more (rest.other e);
}
one_entry pairs false false rest = record {
  bit = omega (arith, kept pairs);
  same = λ e. absurd (omega (arith, kept pairs));
  other = λ e. refl;
}

decided : (ms ds : List ℕ) (n : ℕ) → n ≡ min (length ms) (length ds) → Decided (compare ms ds) (differing ms ds) (unerased (take n ds))
unfolding compare unerased
decided [] ds zero h = record { bit = omega arith; same = λ e. refl; other = λ e. absurd (omega arith) }
decided [] ds (suc n) h = absurd (omega arith)
decided (m ∷ ms) [] zero h = record { bit = omega arith; same = λ e. refl; other = λ e. absurd (omega arith) }
decided (m ∷ ms) [] (suc n) h = absurd (omega arith)
decided (m ∷ ms) (d ∷ ds) zero h = absurd (omega arith)
decided (m ∷ ms) (d ∷ ds) (suc n) h = one_entry (zip ms ds) (eqb d ERASED) (eqb d m) (decided ms ds n (omega arith))

module _ (ms ds : List ℕ) (n : ℕ) (h : n ≡ min (length ms) (length ds)) where
  pub some_differ : (differing ms ds ≡ 0 → ⊥) → compare ms ds ≡ None
  some_differ some = (decided ms ds n h).other (omega (arith, (decided ms ds n h).bit))

  pub none_differ : differing ms ds ≡ 0 → compare ms ds ≡ Some (unerased (take n ds))
  none_differ none = (decided ms ds n h).same none
