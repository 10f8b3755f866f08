-- A control block as demand 3 sees it: all of its air symbols are coded, and coded symbol j stands where the interleaver puts it.
-- Assumes nothing.
use Rattle.std.specs.Prelude.{List, ℕ, get_or}
use Rattle.interleaver.specs.Interleaving.{place}
use Rattle.air.specs.Channel.{Channel, hard}
use Rattle.errorcontrol_cp.specs.Kinds.{word_bits, air_symbols, interleaver_step}
use Rattle.errorcontrol_cp.specs.Sending.{sent}

abbrev pub control_channel : ℕ → ℕ → Channel (List ℕ) ℕ
control_channel kind start =
    hard (word_bits kind) (air_symbols kind) (place (air_symbols kind) (interleaver_step kind)) (λ w x. get_or (sent kind start w) x 0) (λ air x. get_or air x 0)
