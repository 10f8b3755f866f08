-- Document 01's bench values of the interleavers, and the limits.
-- Assumes nothing.
use mathlib.Core.Path.{◌≡◌, refl}
use Rattle.base.specs.Refusal.{LIMIT, SHORT, ROOM, SHUFFLE, accepted}
use Rattle.interleaver.specs.Interleaving.{shared, block_refusal, matrix_refusal}

pub block_cases : (block_refusal 6 5 6 6 ≡ accepted) × (block_refusal 6 4 6 6 ≡ SHUFFLE) × (block_refusal 1 0 1 1 ≡ accepted) × (block_refusal 2 0 2 2 ≡ SHUFFLE)
    × (block_refusal 0 6 0 0 ≡ accepted) × (block_refusal 4097 2 0 0 ≡ LIMIT) × (block_refusal 0 65536 0 0 ≡ LIMIT)
    × (block_refusal 6 5 5 5 ≡ SHORT) × (block_refusal 6 5 6 5 ≡ ROOM)
unfolding shared
block_cases = (refl, refl, refl, refl, refl, refl, refl, refl, refl)

pub matrix_cases : (matrix_refusal 24 18 432 432 ≡ accepted) × (matrix_refusal 0 4096 0 0 ≡ accepted) × (matrix_refusal 4097 0 0 0 ≡ LIMIT)
    × (matrix_refusal 0 4097 0 0 ≡ LIMIT) × (matrix_refusal 64 65 0 0 ≡ LIMIT) × (matrix_refusal 24 18 431 0 ≡ SHORT) × (matrix_refusal 24 18 432 431 ≡ ROOM)
matrix_cases = (refl, refl, refl, refl, refl, refl, refl)
