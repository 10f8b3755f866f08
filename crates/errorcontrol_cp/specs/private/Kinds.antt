-- Beside Kinds.antt: what only our own contracts and proofs need.
-- Assumes nothing.
use Rattle.std.specs.Prelude.{◌≡◌, true, false, ℕ}
use Rattle.base.specs.declared.Refusal.{Refusal}
use Rattle.base.specs.declared.Refusal.TheVariants as refusals
use Rattle.errorcontrol_cp.specs.Kinds.{is_kind, air_symbols, data_bits, interleaver_step, word_bits}

-- the kind is one of the four, and d data bits, n word bits, k air symbols and a are its numbers
pub record Numbers (kind d n k a : ℕ) : Type 0 where
  pub known : is_kind kind ≡ true
  pub block : d ≡ data_bits kind
  pub word : n ≡ word_bits kind
  pub air : k ≡ air_symbols kind
  pub step : a ≡ interleaver_step kind

-- the kind is none of them, and that is why
pub record IsUnknown (kind : ℕ) (why : Refusal) : Type 0 where
  pub unknown : is_kind kind ≡ false
  pub refused : why ≡ refusals.Kind
