-- The block of a slot and the air: where each symbol stands, and what is sent there.
-- Assumes nothing.
use mathlib.Core.Path.{◌≡◌, sym, ap, ◌∙◌}
use mathlib.Core.List.{List, ◌++◌}
use Prim.Native.Nat.{ℕ, ◌+◌, ◌%◌, ◌<◌}
use native.Mathlib.Omega.{arith}
use lib.ListN.{length, take, replicate, get_or, length-replicate}
use lib.Seq.{take_all, length-take-le, get_or-append-add}
use Rattle.base.specs.Bits.{Bits}
use Rattle.base.specs.Places.{gather}
use Rattle.base.proofs.Moves.{gather_length}
use Rattle.interleaver.specs.Interleaving.{matrix_place, matrix_interleaved}
use Rattle.interleaver.proofs.Matrix.{matrix_within, matrix_apart}
use Rattle.scrambler.specs.Scrambling.{descrambled, descrambled_symbol, output}
use Rattle.scrambler.proofs.Blocks.{scrambled_bits}
use Rattle.tch_reorder.specs.Order.{channel_of, codec_place}
use Rattle.stages.proofs.Places.{sent_length, sent_at, heard_at, moved_back}
use Rattle.errorcontrol_tp.specs.Sending.{word_of, coded, on_air, slot}
use Rattle.errorcontrol_tp.specs.Receiving.{block_of}
use Rattle.errorcontrol_tp.specs.Hearing.{coded_place, sent_word}

-- the air place of block entry i
abbrev air_place : ℕ → ℕ
air_place = matrix_place 24 18

pub block_at : (start : ℕ) (air : List ℕ) → length air ≡ 432 → (i : ℕ) → i < 432
    → get_or (block_of start air) i 0 ≡ descrambled_symbol (get_or air (air_place i) 0) (output start (air_place i))
unfolding block_of
block_at start air e i h =
    ap (λ (l : List ℕ). get_or (gather air_place 432 (descrambled start l)) i 0) (sym (take_all 432 air (omega arith)))
    ∙ heard_at air_place 432 start (matrix_apart 24 18) (matrix_within 24 18) air (omega arith) i h

-- ---- what was sent as a block comes back as it
pub air_long : (start : ℕ) (block : List ℕ) → length (on_air start block) ≡ 432
unfolding on_air
air_long start block = sent_length air_place 432 start block

pub air_bits : (start : ℕ) (block : List ℕ) → Bits (on_air start block)
unfolding on_air
air_bits start block = scrambled_bits start (matrix_interleaved 24 18 block (replicate 432 0))

pub block_of_air : (start : ℕ) (block : List ℕ) → Bits block → length block ≡ 432 → block_of start (on_air start block) ≡ block
unfolding block_of on_air
block_of_air start block = moved_back air_place 432 start (matrix_apart 24 18) (matrix_within 24 18) block

-- ---- the coded symbols of a slot that was sent, whatever the uncoded ones are
pub sent_symbol : (start : ℕ) (u coded : List ℕ) → length u ≡ 102 → (j : ℕ) → j < 330
    → get_or (on_air start (u ++ coded)) (coded_place j) 0 ≡ (get_or coded j 0 + output start (coded_place j)) % 2
unfolding on_air
sent_symbol start u coded e j h =
    let s : 102 + j ≡ length u + j = omega arith in
    sent_at air_place 432 start (matrix_apart 24 18) (matrix_within 24 18) (u ++ coded) (102 + j) (omega arith)
    ∙ ap (λ (y : ℕ). (y + output start (coded_place j)) % 2) (ap (λ (x : ℕ). get_or (u ++ coded) x 0) s ∙ get_or-append-add u coded j 0)

-- `slot` puts the coded symbols where a slot of that word has them
pub slot_carries : (start : ℕ) (codec : List ℕ) (j : ℕ) → j < 330
    → get_or (slot start codec) (coded_place j) 0 ≡ get_or (sent_word start (word_of (channel_of codec))) (coded_place j) 0
unfolding slot sent_word
slot_carries start codec j h =
    sent_symbol start (take 102 (channel_of codec)) (coded (word_of (channel_of codec))) (length-take-le 102 (channel_of codec) (omega (arith, gather_length codec_place 274 codec))) j h
    ∙ sym (sent_symbol start (replicate 102 0) (coded (word_of (channel_of codec))) (length-replicate {A = ℕ} 102 0) j h)

pub slot_long : (start : ℕ) (codec : List ℕ) → length (slot start codec) ≡ 432
unfolding slot
slot_long start codec = air_long start (take 102 (channel_of codec) ++ coded (word_of (channel_of codec)))
