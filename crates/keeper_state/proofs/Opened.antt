-- A word that doesn't say open is a closed end's; and what the words say that calls write.
-- Assumes nothing.
use mathlib.Core.Path.{◌≡◌, refl}
use mathlib.Core.Bool.{Bool, true, false, not}
use mathlib.Core.Logic.{◌⊎◌, inl, inr, ⊎_elim}
use Prim.Native.Nat.{ℕ}
use native.Mathlib.Omega.{arith}
use borrow.Author.Tests.{ne_eqb}
use Rattle.keeper_state.specs.State.{open_word, is_open, opened_word}
use Rattle.keeper_state.specs.Unopened.{UnopenedAnswers9, UnopenedAsks9, ZeroIsUnopened}

pub unopened_answers_9 : UnopenedAnswers9
unopened_answers_9 w ns ps cs ss es h =
    let shut : is_open w.opened ≡ false = ne_eqb w.opened open_word h in
    record { arrival = λ n p. rw shut; expiry = λ n. rw shut; confirming = λ n. rw shut; report = λ desired minimum final d. rw shut }

pub unopened_asks_9 : UnopenedAsks9
unopened_asks_9 w ns ps cs ss es h =
    let shut : is_open w.opened ≡ false = ne_eqb w.opened open_word h in
    rw shut

pub zero_is_unopened : ZeroIsUnopened
zero_is_unopened w h e = omega arith

-- the word that is written says what it is to say
pub opened_said : (closed : Bool) → not (is_open (opened_word closed)) ≡ closed
opened_said true = refl
opened_said false = refl

-- it is one of two
pub opened_written : (closed : Bool) → (opened_word closed ≡ open_word) ⊎ (opened_word closed ≡ 0)
opened_written true = inr refl
opened_written false = inl refl

-- and each of the two is what it says
pub opened_own : (word : ℕ) → (word ≡ open_word) ⊎ (word ≡ 0) → opened_word (not (is_open word)) ≡ word
opened_own word is = ⊎_elim (λ e. rw e) (λ e. rw e) is
