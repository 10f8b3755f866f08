-- A speech slot as demand 3 sees it: 330 of its 432 air symbols are coded, and the uncoded ones are outside it.
-- Assumes nothing.
use Rattle.std.specs.Prelude.{List, ◌++◌, ℕ, ◌+◌, get_or, replicate}
use Rattle.interleaver.specs.Interleaving.{matrix_place}
use Rattle.air.specs.Channel.{Channel, hard}
use Rattle.errorcontrol_tp.specs.Sending.{coded, on_air}
use Rattle.errorcontrol_tp.specs.Receiving.{slot_of}

-- the air place of coded symbol j: the 102 uncoded ones come before them in the block
abbrev pub coded_place : ℕ → ℕ
coded_place j = matrix_place 24 18 (102 + j)

-- a slot that a word is sent in, zeros at the uncoded places
unfoldable pub sent_word : ℕ → List ℕ → List ℕ
sent_word start w = on_air start (replicate 102 0 ++ coded w)

-- an entry that takes so many symbols reads them as the last of a slot
abbrev pub speech_channel : ℕ → ℕ → Channel (List ℕ) ℕ
speech_channel count start = hard 184 330 coded_place (λ w x. get_or (sent_word start w) x 0) (λ air x. get_or (slot_of count air) x 0)
