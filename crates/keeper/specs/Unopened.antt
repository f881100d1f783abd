-- Memory that was never opened. An accepted open writes the one word by which an end is open, and Final takes it away. Where it doesn't stand,
-- as in memory of zeros, the contract of each call but open allows one outcome: it answers 9, the number of Closed, and no array and no buffer
-- changes.
-- Assumes nothing.
use Rattle.std.specs.Prelude.{◌≡◌, Bool, List, ℕ, Result, Err}
use Rattle.refusal.specs.declared.Refusal.{Refusal}
use Rattle.refusal.specs.declared.Refusal.TheVariants.{Closed}
use Rattle.refusal.specs.Numbers.{answer_of}
use Rattle.bearer.specs.Bearer.{After}
use Rattle.bearer.specs.Keeper.{Keeper, arrive, expire, confirm, status, anything}
use Rattle.keeper_state.specs.Unopened.{Unopened}
use Rattle.keeper.specs.View.{Arrays, words_in, state_held, answered, reported_as}

-- the word by which an end is open doesn't stand in its place: 0 doesn't say it (ZeroIsUnopened of the crate keeper_state)
abbrev pub NeverOpened : Arrays → Type 0
NeverOpened a = Unopened (words_in a.words)

-- as the contract of a call says it: a refused one changes no array
abbrev pub Unchanged : {A : Type 0} → Result A Refusal → Arrays → Arrays → Type 0
Unchanged r before after = (e : Refusal) → r ≡ Err e → after ≡ before

-- 9, and no array changes
abbrev pub Only9 : {A : Type 0} → Result A Refusal → Arrays → Arrays → Type 0
Only9 r before after = (r ≡ Err Closed) × (after ≡ before)

-- what the contract of a call on a state allows there
abbrev pub CallOnly9 : {A : Type 0} → (Keeper → After Keeper A) → Type 0
CallOnly9 {A} call = (before after : Arrays) (r : Result A Refusal) → NeverOpened before
    → answered r (state_held after) ≡ call (state_held before) → Unchanged r before after → Only9 r before after

-- of an arrival
abbrev pub ArrivalOnly9 : Type 0
ArrivalOnly9 = (n p : ℕ) → CallOnly9 (λ k. arrive k n p)

-- ... of an expiry
abbrev pub ExpiryOnly9 : Type 0
ExpiryOnly9 = (n : ℕ) → CallOnly9 (λ k. expire k n)

-- ... of a confirm
abbrev pub ConfirmOnly9 : Type 0
ConfirmOnly9 = (n : ℕ) → CallOnly9 (λ k. confirm k n)

-- ... of a status, whose buffer d is e then
abbrev pub StatusOnly9 : Type 0
StatusOnly9 = (before after : Arrays) (desired minimum : ℕ) (final : Bool) (d e : List ℕ) (r : Result ℕ Refusal) → NeverOpened before
    → reported_as r (state_held after) e ≡ status (state_held before) desired minimum final d → Unchanged r before after → Only9 r before after × (e ≡ d)

-- ... of the question whether there is anything to say, which changes no array anyway
abbrev pub AnythingOnly9 : Type 0
AnythingOnly9 = (a : Arrays) (r : Result Bool Refusal) → NeverOpened a → answer_of (λ yes. yes) r ≡ anything (state_held a) → r ≡ Err Closed
