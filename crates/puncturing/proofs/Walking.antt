-- Going through a mode's positions by a running index: the place that the code holds is the kept place of the next output.
-- Assumes nothing.
use mathlib.Core.Path.{◌≡◌, sym, ap, subst, ◌∙◌}
use mathlib.Core.List.{List, []}
use Prim.Native.Nat.{ℕ, ◌+◌, ◌-◌, ◌*◌, ◌/◌, ◌%◌, ◌≤◌, ◌<◌}
use native.Mathlib.Nat.{mul-add, mul-one, mod-lt, div-le_self, div-add-mod, div-eq_of_lt, mul-le-mul}
use native.Mathlib.Omega.{arith}
use lib.Dec.{leb, leb→le}
use lib.ListN.{get_or}
use Rattle.puncturing.specs.declared.Puncturer.{Puncturer}
use Rattle.puncturing.specs.declared.Kept.{Kept}
use Rattle.puncturing.specs.private.Tables.{runs, rows}
use Rattle.puncturing.specs.private.Walk.{Lies, Stands}
use Rattle.puncturing.specs.Puncturing.{position, kept_place}
use Rattle.puncturing.proofs.Modes.{t_of, period_of, kept_of, modes_le, entries, quotient, remainder, stays, wraps, entry, position_entry, rows_kept, index_run}

-- ---- going on
module _ (p : Puncturer) (at : Kept) (by : ℕ) where
  pub moved_stays : {r : Kept} → at.index + by < p.t → r.base ≡ at.base → r.index ≡ at.index + by → (x : ℕ) → Lies p x at → Lies p (x + by) r
  moved_stays l b i x lies =
      let s = stays p.t x by (omega (arith, lies.index)) in
      record { base = b ∙ lies.base ∙ ap (λ (q : ℕ). p.period * q) (sym s.0); index = i ∙ omega (arith, lies.index, s.1) }

  pub moved_wraps : {r : Kept} → p.t ≤ at.index + by → at.index + by < p.t + p.t → r.base ≡ at.base + p.period → r.index ≡ at.index + by - p.t
      → (x : ℕ) → Lies p x at → Lies p (x + by) r
  moved_wraps l m b i x lies =
      let s = wraps p.t x by (omega (arith, lies.index)) (omega (arith, lies.index)) in
      record {
        base = b ∙ omega (arith, lies.base, s.0, ap (λ (q : ℕ). p.period * q) s.0, mul-add p.period (x / p.t) 1, mul-one p.period);
        index = i ∙ omega (arith, lies.index, s.1);
      }

module _ (p : Puncturer) (j : ℕ) (at : Kept) (stands : Stands p j at) where
  -- output j + 1 begins a run: one position more is behind
  pub next_skips : {r : Kept} → j + 1 ≡ at.skip → r.skip ≡ at.skip + p.run → ((x : ℕ) → Lies p x at → Lies p (x + 2) r) → Stands p (j + 1) r
  next_skips {r} e s lies =
      let q = mul-add p.run (j / p.run) 1 in
      let o = mul-one p.run in
      let w = wraps p.run j 1 (omega (arith, stands.skip, div-add-mod j p.run)) (omega (arith, mod-lt j {m = p.run} p.parameters.run_least)) in
      let x : j + j / p.run + 2 ≡ j + 1 + (j + 1) / p.run = omega (arith, w.0) in
      record {
        lies = subst (λ (n : ℕ). Lies p n r) x (lies (j + j / p.run) stands.lies);
        skip = omega (arith, s, stands.skip, mul-add p.run (j / p.run + 1) 1, ap (λ (n : ℕ). p.run * (n + 1)) w.0);
      }

  pub next_runs : {r : Kept} → (j + 1 ≡ at.skip → ⊥) → r.skip ≡ at.skip → ((x : ℕ) → Lies p x at → Lies p (x + 1) r) → Stands p (j + 1) r
  next_runs {r} e s lies =
      let q = mul-add p.run (j / p.run) 1 in
      let o = mul-one p.run in
      let m = mod-lt j {m = p.run} p.parameters.run_least in
      let w = stays p.run j 1 (omega (arith, stands.skip, div-add-mod j p.run, e)) in
      let x : j + j / p.run + 1 ≡ j + 1 + (j + 1) / p.run = omega (arith, w.0) in
      record {
        lies = subst (λ (n : ℕ). Lies p n r) x (lies (j + j / p.run) stands.lies);
        skip = s ∙ stands.skip ∙ ap (λ (n : ℕ). p.run * (n + 1)) (sym w.0);
      }

  -- the numbers are small
  pub stands_small : j < 4096 → (at.index < p.t) × (at.base < 1000000) × (at.skip < 10000)
  stands_small l =
      let q = div-le_self j p.run in
      let b = mul-le-mul p.parameters.period_most (div-le_self (j + j / p.run) p.t) in (
        omega (arith, stands.lies.index, mod-lt (j + j / p.run) {m = p.t} (omega (arith, p.parameters.t_least))),
        omega (arith, stands.lies.base),
        omega (arith, stands.skip, mul-add p.run (j / p.run) 1, mul-one p.run, div-add-mod j p.run, p.parameters.run_most),
      )

-- after whole periods, before a position is passed over, the walk stands at a period's begin
pub stands_after : (p : Puncturer) (whole : ℕ) {at : Kept} → p.t * whole < p.run → at.base ≡ p.period * whole → at.index ≡ 0 → at.skip ≡ p.run
    → Stands p (p.t * whole) at
stands_after p whole h b i s =
    let none = div-eq_of_lt h in
    let some : 0 < p.t = omega (arith, p.parameters.t_least) in
    let x : p.t * whole + p.t * whole / p.run ≡ p.t * whole + 0 = omega (arith, none) in
    record {
      lies = record {
        base = b ∙ sym (ap (λ (n : ℕ). p.period * n) (ap (λ (n : ℕ). n / p.t) x ∙ quotient p.t whole 0 some));
        index = i ∙ sym (ap (λ (n : ℕ). n % p.t) x ∙ remainder p.t whole 0 some);
      };
      skip = s ∙ sym (ap (λ (n : ℕ). p.run * (n + 1)) none ∙ mul-one p.run);
    }

-- ---- the place
-- what is read of a mode's row at an index, and the position that it makes with a base
pub record Reads (mode : ℕ) (row : List ℕ) (j base index : ℕ) : Type 0 where
  pub entry : index < 17
  pub some : 1 ≤ get_or row index 0
  pub most : get_or row index 0 ≤ 24
  pub near : base ≤ 196608
  pub position : base + get_or row index 0 ≡ position mode (j + 1)

module _ (p : Puncturer) (j : ℕ) (l : j < 4096) where
  pub reads : Reads p.mode p.row j (p.period * ((j + j / p.run) / p.t)) ((j + j / p.run) % p.t)
  unfolding entry
  reads = rw (p.parameters.entries, p.parameters.outputs, p.parameters.positions, p.parameters.before) (record {
    entry = omega (arith, r, modes_le t_of (λ m. 17) tt p.mode h);
    some = rw k (leb→le 1 (get_or (kept_of p.mode) (x % t_of p.mode) 0) (entries (λ m i. leb 1 (get_or (kept_of m) i 0)) tt p.mode (x % t_of p.mode) h r));
    most = rw k (leb→le (get_or (kept_of p.mode) (x % t_of p.mode) 0) 24 (entries (λ m i. leb (get_or (kept_of m) i 0) 24) tt p.mode (x % t_of p.mode) h r));
    near =
        omega (arith, div-le_self j (get_or runs p.mode 0), mul-le-mul (modes_le period_of (λ m. 24) tt p.mode h) (div-le_self x (t_of p.mode)));
    position = ap (λ (n : ℕ). period_of p.mode * (x / t_of p.mode) + n) k ∙ sym (position_entry p.mode j x (index_run p.mode h j l));
  })
    where
      h : p.mode ≤ 6
      h = p.parameters.kind

      x : ℕ
      x = j + j / get_or runs p.mode 0

      r : x % t_of p.mode < t_of p.mode
      r = mod-lt x {m = t_of p.mode} (modes_le (λ m. 1) t_of tt p.mode h)

      k : get_or (get_or rows p.mode []) (x % t_of p.mode) 0 ≡ get_or (kept_of p.mode) (x % t_of p.mode) 0
      k = rows_kept p.mode (x % t_of p.mode) h r

  pub here : (at : Kept) → Stands p j at → Reads p.mode p.row j at.base at.index
  here at stands = rw (stands.lies.base, stands.lies.index) reads

pub reads_place : {mode : ℕ} {row : List ℕ} {j base index : ℕ} → Reads mode row j base index → base + get_or row index 0 - 1 ≡ kept_place mode j
reads_place r = ap (λ (k : ℕ). k - 1) r.position

-- ---- whole periods
-- what is read for entry e of period q
pub entry_at : (p : Puncturer) (q e : ℕ) → p.t * q + p.t < p.run → e < p.t → Reads p.mode p.row (p.t * q + e) (p.period * q) e
entry_at p q e before l =
    let j : ℕ = p.t * q + e in
    let below : j < p.run = omega arith in
    let x : j + j / p.run ≡ j = omega (arith, div-eq_of_lt below) in
    rw (ap (λ (n : ℕ). n / p.t) x ∙ quotient p.t q e l, ap (λ (n : ℕ). n % p.t) x ∙ remainder p.t q e l) at (reads p j (omega (arith, p.parameters.run_most)))
