-- How the code goes through a mode's positions. No promise to a caller needs this file.
-- Assumes nothing.
use Rattle.std.specs.Prelude.{◌≡◌, ℕ, ◌+◌, ◌*◌, ◌/◌, ◌%◌, ◌<◌, Result, Ok, Err}
use Rattle.base.specs.declared.Refusal.{Refusal}
use Rattle.base.specs.declared.Refusal.TheVariants as refusals
use Rattle.puncturing.specs.declared.Puncturer.{Puncturer}
use Rattle.puncturing.specs.declared.Kept.{Kept}

-- a number opens its mode, where there is one
abbrev pub Opens : ℕ → Result Puncturer Refusal → Type 0
Opens mode (Ok p) = p.mode ≡ mode
Opens mode (Err why) = (6 < mode) × (why ≡ refusals.Kind)

-- x entries of P are behind
pub record Lies (p : Puncturer) (x : ℕ) (at : Kept) : Type 0 where
  pub base : at.base ≡ p.period * (x / p.t)
  pub index : at.index ≡ x % p.t

-- output j, from 0, is next: j outputs and the positions passed over are behind
pub record Stands (p : Puncturer) (j : ℕ) (at : Kept) : Type 0 where
  pub lies : Lies p (j + j / p.run) at
  pub skip : at.skip ≡ p.run * (j / p.run + 1)
