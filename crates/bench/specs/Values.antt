-- Document 01's bench values marked P, as one statement about the definitions.
-- Assumes nothing.
use Rattle.std.specs.Prelude.{List, [], ◌∷◌, ◌++◌, ◌≡◌, ℕ, ◌≤◌, replicate}
use Rattle.base.specs.Refusal.{FIELD, accepted}
use Rattle.base.specs.Bits.{ERASED}
use Rattle.base.specs.Places.{tabulate}
use Rattle.trellis.specs.Nearest.{encode}
use Rattle.crc16.specs.Crc.{register}
use Rattle.scrambler.specs.Scrambling.{output, start_value, field_refusal}
use Rattle.convenc.specs.Generators.{outputs, control, speech}
use Rattle.puncturing.specs.Puncturing.{position}
use Rattle.rm3014.specs.Code.{code_word}
use Rattle.rm3014.specs.Verdict.{verdict}
use Rattle.rm3014.specs.declared.Verdict.TheVariants.{Beyond}
use Rattle.speech_crc.specs.Check.{speech_check}
use Rattle.viterbi.specs.Decoding.{decoded, disagreements}

-- six control steps, only the fifth received entry known, and 1
abbrev pub six : List ℕ
six = replicate 4 ERASED ++ (1 ∷ replicate 19 ERASED)

pub record BenchValues : Type 0 where
  pub register_none : register 0xffff [] ≡ 0xffff
  pub register_zero : register 0xffff (0 ∷ []) ≡ 0xefdf
  pub register_one : register 0xffff (1 ∷ []) ≡ 0xfffe
  pub scrambling_three : tabulate (output 3) 6 ≡ 1 ∷ 0 ∷ 1 ∷ 1 ∷ 1 ∷ 1 ∷ []
  pub scrambling_zero : (i : ℕ) → output 0 i ≡ 0
  pub start_ones : start_value 1 1 1 ≡ 0x400107
  pub country_most : field_refusal 1023 1 1 ≡ accepted
  pub country_over : field_refusal 1024 1 1 ≡ FIELD
  pub control_one : encode (outputs control) 0 (1 ∷ 0 ∷ 0 ∷ 0 ∷ 0 ∷ [])
      ≡ 1 ∷ 1 ∷ 1 ∷ 1 ∷ 1 ∷ 0 ∷ 1 ∷ 1 ∷ 0 ∷ 1 ∷ 1 ∷ 0 ∷ 0 ∷ 1 ∷ 0 ∷ 1 ∷ 1 ∷ 1 ∷ 1 ∷ 1 ∷ []
  pub speech_one : encode (outputs speech) 0 (1 ∷ 0 ∷ 0 ∷ 0 ∷ 0 ∷ [])
      ≡ 1 ∷ 1 ∷ 1 ∷ 1 ∷ 1 ∷ 0 ∷ 1 ∷ 0 ∷ 1 ∷ 1 ∷ 1 ∷ 0 ∷ 1 ∷ 1 ∷ 1 ∷ []
  pub kept_after_gap : position 2 66 ≡ 177
  -- bit 44 has the mother positions 173 to 176, of which mode 2_3 keeps 173 alone, and mode 292_432 does not keep that
  pub bit_44_kept : position 0 66 ≡ 173
  pub bit_44_alone : (j : ℕ) → 1 ≤ j → 173 ≤ position 0 j → position 0 j ≤ 176 → position 0 j ≡ 173
  pub bit_44_skipped : (j : ℕ) → 1 ≤ j → position 2 j ≡ 173 → ⊥
  pub access_word : code_word 0x2000 ≡ 0x20009b60
  pub access_beyond : verdict 0x30009b61 ≡ Beyond 0x3000
  pub speech_check_first : speech_check (1 ∷ replicate 59 0) ≡ 1 ∷ 0 ∷ 0 ∷ 1 ∷ 0 ∷ 0 ∷ 0 ∷ 1 ∷ []
  pub six_steps : decoded control 6 six ≡ 1 ∷ 0 ∷ 0 ∷ 0 ∷ 0 ∷ 0 ∷ []
  pub six_count : disagreements control 6 six (decoded control 6 six) ≡ 0
  pub six_ties : disagreements control 6 six (0 ∷ 1 ∷ 0 ∷ 0 ∷ 0 ∷ 0 ∷ []) ≡ 0
