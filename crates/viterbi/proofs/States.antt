-- The two orders of the states, by tests of all sixteen.
-- Assumes nothing.
use mathlib.Core.Path.{◌≡◌}
use Prim.Native.Nat.{ℕ, ◌/◌, ◌%◌, ◌<◌}
use native.Mathlib.Omega.{arith}
use lib.Dec.{eqb, eqb→eq}
use Rattle.base.proofs.Table.{below, at}
use Rattle.trellis.specs.Walk.{before}
use Rattle.viterbi.specs.private.Scores.{mirrored, earlier, handicap}

pub mirrored_lt : (s : ℕ) → mirrored s < 16
unfolding mirrored
mirrored_lt s = omega arith

pub mirrored_back : (s : ℕ) → s < 16 → mirrored (mirrored s) ≡ s
unfolding mirrored
mirrored_back s h = eqb→eq (mirrored (mirrored s)) s (at (λ s. eqb (mirrored (mirrored s)) s) 16 tt s h)

pub mirrored_newest : (s : ℕ) → s < 16 → s % 2 ≡ mirrored s / 8
unfolding mirrored
mirrored_newest s h = eqb→eq (s % 2) (mirrored s / 8) (at (λ s. eqb (s % 2) (mirrored s / 8)) 16 tt s h)

pub mirrored_earlier : (x s : ℕ) → x < 2 → s < 16 → mirrored (earlier x s) ≡ before x (mirrored s)
unfolding mirrored
mirrored_earlier x s l h =
    eqb→eq (mirrored (earlier x s)) (before x (mirrored s))
    (at (λ s. eqb (mirrored (earlier x s)) (before x (mirrored s))) 16
    (at (λ x. below (λ s. eqb (mirrored (earlier x s)) (before x (mirrored s))) 16) 2 tt x l) s h)

pub mirrored_handicap : (s : ℕ) → s < 16 → handicap (mirrored s) ≡ handicap s
unfolding mirrored
mirrored_handicap s h = eqb→eq (handicap (mirrored s)) (handicap s) (at (λ s. eqb (handicap (mirrored s)) (handicap s)) 16 tt s h)
