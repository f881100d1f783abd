-- What an accepted confirm leaves in the arrays, the machine's state, and where its record stands; and how many records a status lets go.
-- Assumes nothing.
use mathlib.Core.Path.{◌≡◌, sym, ◌∙◌, ap}
use mathlib.Core.Bool.{true}
use mathlib.Core.List.{List}
use Prim.Native.Nat.{ℕ, ◌≤◌, ◌<◌, min}
use native.Mathlib.Omega.{arith}
use lib.ListN.{set, drop, length-take}
use Rattle.basics.specs.Basics.{is_set}
use Rattle.frame_layout.specs.Frames.{most_ranges}
use Rattle.bearer.specs.Bearer.{most_records, answering}
use Rattle.bearer.specs.Keeper.{Record, confirm, may_go}
use Rattle.bearer.proofs.Lists.Elements.{run_within}
use Rattle.keeper_state.specs.declared.Words.{Words}
use Rattle.keeper_state.specs.State.{held_in, records_of, state_of, state_in}
use Rattle.keeper_report.specs.declared.Gone.{Gone}
use Rattle.keeper_report.specs.Reports.{AcceptsConfirm, gone_of}
use Rattle.keeper.proofs.Records.{records_mark}

-- the record is one of those that an array has room for
pub marked_within : (w : Words) (ns ps cs ss es : List ℕ) {at n : ℕ} → AcceptsConfirm at (state_in w ns ps cs ss es) n → at < most_records
marked_within w ns ps cs ss es accepts = omega (arith, accepts.within, length-take (held_in w) (records_of ns ps cs))

-- its mark is a number that is yes
pub confirmed : (w : Words) (ns ps cs ss es : List ℕ) {at n : ℕ} → AcceptsConfirm at (state_in w ns ps cs ss es) n → (mark : ℕ) → is_set mark ≡ true
    → answering tt (state_in w ns ps (set cs at mark) ss es) ≡ confirm (state_in w ns ps cs ss es) n
confirmed w ns ps cs ss es {at} accepts mark set_is =
    ap (λ (rs : List Record). answering tt (state_of w (state_in w ns ps cs ss es).runs rs)) (records_mark mark set_is (held_in w) at ns ps cs accepts.within) ∙ sym accepts.outcome

-- no more records go than there are
pub gone_within : (w : Words) (ns ps cs ss es : List ℕ) {gone : Gone} → gone ≡ gone_of (state_in w ns ps cs ss es) → gone.count ≤ min w.records most_records
gone_within w ns ps cs ss es is =
    let k = state_in w ns ps cs ss es in
    omega (arith, ap (λ (g : Gone). g.count) is, run_within (may_go k (drop most_ranges k.runs)) k.records, length-take (held_in w) (records_of ns ps cs))
