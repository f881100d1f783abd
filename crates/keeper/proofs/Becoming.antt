-- What a step leaves in the lent arrays: the machine's state, and plain arrays where they were plain.
-- Assumes nothing.
use mathlib.Core.Path.{◌≡◌}
use mathlib.Core.List.{List, ◌∷◌, ◌++◌}
use Prim.Native.Nat.{ℕ, ◌+◌, ◌-◌, ◌≤◌, ◌<◌, min}
use native.Mathlib.Omega.{arith}
use lib.ListN.{take, drop}
use Rattle.frame_layout.specs.Frames.{Range, ranges_of}
use Rattle.bearer.specs.Bearer.{most_runs, most_records}
use Rattle.bearer.specs.Packets.{Each}
use Rattle.bearer.specs.Keeper.{Record, ◌with_runs◌, ◌with_records◌}
use Rattle.bearer.proofs.Lists.Elements.{each_inserted}
use Rattle.bearer.proofs.Lists.Mapped.{each_drop}
use Rattle.keeper_state.specs.declared.Words.{Words}
use Rattle.keeper_state.specs.State.{◌saying_runs◌, ◌saying_records◌, records_of, state_in}
use Rattle.keeper.specs.Plain.{PlainIn}

module _ {w v : Words} (same : w ≡ v) where
  -- ---- other runs, and how many

  pub runs_become : (ns ps cs ss es ss' es' : List ℕ) (n : ℕ) (runs : List Range) → take (min n most_runs) (ranges_of ss' es') ≡ runs
      → state_in (w saying_runs n) ns ps cs ss' es' ≡ (state_in v ns ps cs ss es with_runs runs)
  runs_become ns ps cs ss es ss' es' n runs e = rw (same, e)

  pub runs_plain : (cs : List ℕ) (n : ℕ) → n ≤ most_runs → PlainIn v cs → PlainIn (w saying_runs n) cs
  runs_plain cs n few p = rw same (record { bits = p.bits; opened = p.opened; runs = few; records = p.records })

  -- ---- other records, and how many

  pub records_become : (ns ps cs ns' ps' cs' ss es : List ℕ) (n : ℕ) (records : List Record) → take (min n most_records) (records_of ns' ps' cs') ≡ records
      → state_in (w saying_records n) ns' ps' cs' ss es ≡ (state_in v ns ps cs ss es with_records records)
  records_become ns ps cs ns' ps' cs' ss es n records e = rw (same, e)

  -- one is put in, with no mark
  pub added_plain : {cs cs' : List ℕ} (held at : ℕ) → held ≡ v.records → held < most_records → take (held + 1) cs' ≡ take at (take held cs) ++ 0 ∷ drop at (take held cs)
      → PlainIn v cs → PlainIn (w saying_records (held + 1)) cs'
  added_plain {cs} held at is room e p =
      let flags : Each (λ (mark : ℕ). mark < 2) (take held cs) = rw is p.records.flags in
      rw same
      (record {
        bits = p.bits;
        opened = p.opened;
        runs = p.runs;
        records = record { within = omega arith; flags = rw e (each_inserted (λ (mark : ℕ). mark < 2) at 0 (take held cs) (omega arith) flags) };
      })

  -- some are taken off the front
  pub dropped_plain : {cs cs' : List ℕ} (held k : ℕ) → held ≡ v.records → take (held - k) cs' ≡ drop k (take held cs)
      → PlainIn v cs → PlainIn (w saying_records (held - k)) cs'
  dropped_plain {cs} held k is e p =
      let flags : Each (λ (mark : ℕ). mark < 2) (take held cs) = rw is p.records.flags in
      rw same
      (record {
        bits = p.bits;
        opened = p.opened;
        runs = p.runs;
        records = record { within = omega (arith, p.records.within); flags = rw e (each_drop (λ (mark : ℕ). mark < 2) k (take held cs) flags) };
      })
