-- A walk follows any places whose next one is a step onward; what the loops leave along it.
-- Assumes nothing.
use mathlib.Core.Path.{◌≡◌, refl, ap, ap₂, ◌∙◌}
use mathlib.Core.List.{List}
use Prim.Native.Nat.{ℕ, zero, suc, ◌+◌, ◌<◌}
use native.Mathlib.Numerals.{add-one}
use native.Mathlib.Omega.{arith}
use lib.ListN.{length, get_or, set}
use Rattle.base.specs.Places.{written, gather, scatter}
use Rattle.base.proofs.Lists.{write_more}
use Rattle.base.proofs.Moves.{scatter_more}
use Rattle.interleaver.specs.private.Walk.{onward, walk}

pub walk_none : (start step count : ℕ) → start ≡ walk start step count 0
unfolding walk
walk_none start step count = refl

pub walk_more : (start step count i : ℕ) → onward step count (walk start step count i) ≡ walk start step count (i + 1)
unfolding walk
walk_more start step count i = rw add-one

-- places that begin at the start, and go a step onward below the count, are the walk's
pub walk_along : (place : ℕ → ℕ) (start step count : ℕ) → (0 < count → start ≡ place 0)
    → ((i : ℕ) → i + 1 < count → onward step count (place i) ≡ place (i + 1))
    → (i : ℕ) → i < count → walk start step count i ≡ place i
unfolding walk
walk_along place start step count first next zero h = first h
walk_along place start step count first next (suc i) h =
    ap (onward step count) (walk_along place start step count first next i (omega arith))
    ∙ next i (omega arith) ∙ ap place (add-one i)

-- ---- a turn of a loop
pub spread_more : (place : ℕ → ℕ) (i at : ℕ) (src dst out : List ℕ) → at ≡ place i → out ≡ scatter place i src dst
    → set out at (get_or src i 0) ≡ scatter place (i + 1) src dst
spread_more place i at src dst out e was =
    ap₂ (λ (l : List ℕ) (x : ℕ). set l x (get_or src i 0)) was e ∙ scatter_more place i src dst

pub collect_more : (place : ℕ → ℕ) (i at : ℕ) (src dst out : List ℕ) → at ≡ place i → out ≡ written (gather place i src) dst → i < length dst
    → set out i (get_or src at 0) ≡ written (gather place (i + 1) src) dst
collect_more place i at src dst out e was h =
    ap₂ (λ (l : List ℕ) (x : ℕ). set l i (get_or src x 0)) was e ∙ write_more (λ j. get_or src (place j) 0) i dst h
