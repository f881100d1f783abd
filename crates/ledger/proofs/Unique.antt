-- What a contract allows is one outcome: two outcomes of a call on states that are read alike have equal answers and are
-- read alike. What they may differ in is what specs/View.antt leaves out, and no call can tell: slots past the count, a
-- count past the end, and a length word that is none of document 01's.
-- Assumes nothing.
use mathlib.Core.List.{List}
use mathlib.Core.Path.{◌≡◌, refl, sym, ◌∙◌, ap}
use Prim.Native.Nat.{ℕ}
use Rattle.std.specs.Prelude.{Result, Ok, Err}
use Rattle.basics.specs.Basics.{Outcome, refused}
use Rattle.basics.proofs.Choices.{done_one}
use Rattle.bearer.specs.Bearer.{After}
use Rattle.bearer.specs.Ledger as machine
use Rattle.refusal.specs.declared.Refusal.{Refusal}
use Rattle.refusal.specs.Numbers.{number_of, answer_of}
use Rattle.refusal.proofs.Numbers.{numbered, told}
use Rattle.ledger.specs.declared.Ledger.{Ledger}
use Rattle.ledger.specs.declared.Accepted.{Accepted}
use Rattle.ledger.specs.declared.Taken.{Taken}
use Rattle.ledger.specs.View.{ledger_in, opened_as, sent_as, accepted_as, taken_as, beside}

-- ---- an answer stands for one outcome, and no other answer stands for it

-- a number is one refusal's
one_refusal : {A : Type 0} (o : Outcome A) (r s : Refusal) → o ≡ refused (number_of r) → o ≡ refused (number_of s) → r ≡ s
one_refusal o r s x y = sym (told r) ∙ ap numbered (let n : number_of r ≡ number_of s = cc in n) ∙ told s

-- and a value one value's
one_answer : {T A : Type 0} (f : T → A) → ((x y : T) → f x ≡ f y → x ≡ y) → (a b : Result T Refusal) → answer_of f a ≡ answer_of f b → a ≡ b
one_answer f one (Ok x) (Ok y) e = ap (λ z. Ok z) (one x y (done_one _ _ e))
one_answer f one (Ok x) (Err s) e = cc
one_answer f one (Err r) (Ok y) e = cc
one_answer f one (Err r) (Err s) e = ap (λ z. Err z) (one_refusal (answer_of f (Err r)) r s refl e)

same_accepted : (a b : Result Accepted Refusal) → accepted_as a ≡ accepted_as b → a ≡ b
same_accepted = one_answer _ (λ x y e. ap (λ (w : machine.Accepted). record { freed = w.freed; lost = w.lost; last = w.final }) e)

same_taken : (a b : Result Taken Refusal) → taken_as a ≡ taken_as b → a ≡ b
same_taken = one_answer _ (λ x y e. ap (λ (w : machine.Taken). record { number = w.number; pdcp = w.pdcp; size = w.size }) e)

-- ---- each call

module _ {T B : Type 0} (means : Result T Refusal → Outcome B) (same : (a b : Result T Refusal) → means a ≡ means b → a ≡ b) where
  -- both stand for what the machine does
  alike : {o p : After (machine.Ledger Unit) B} (a b : Result T Refusal) (k l : machine.Ledger Unit) → o ≡ p → beside (means a) k ≡ o → beside (means b) l ≡ p → (a ≡ b) × (k ≡ l)
  alike a b k l e x y =
      let z : beside (means a) k ≡ beside (means b) l = x ∙ e ∙ sym y in
      (same a b (ap (λ (w : After (machine.Ledger Unit) B). w.answer) z), ap (λ (w : After (machine.Ledger Unit) B). w.state) z)

-- two answers of an open are one refusal, or ledgers that are read alike
abbrev pub Alike : Result Ledger Refusal → Result Ledger Refusal → Type 0
Alike (Ok l) (Ok m) = ledger_in l ≡ ledger_in m
Alike (Ok l) (Err s) = ⊥
Alike (Err r) (Ok m) = ⊥
Alike (Err r) (Err s) = r ≡ s

alike_opened : (r s : Result Ledger Refusal) → opened_as r ≡ opened_as s → Alike r s
alike_opened (Ok l) (Ok m) e = done_one _ _ e
alike_opened (Ok l) (Err s) e = cc
alike_opened (Err r) (Ok m) e = cc
alike_opened (Err r) (Err s) e = one_refusal (opened_as (Err r)) r s refl e

-- two opens are refused alike, or leave ledgers that are read alike
pub one_open : (L first f : ℕ) (r s : Result Ledger Refusal)
    → opened_as r ≡ machine.open_ledger L first f → opened_as s ≡ machine.open_ledger L first f → Alike r s
one_open L first f r s x y = alike_opened r s (x ∙ sym y)

module _ (l m : Ledger) (same : ledger_in l ≡ ledger_in m) where
  pub one_send : (p z : ℕ) (r s : Result ℕ Refusal) (j k : Ledger)
      → beside (sent_as r) (ledger_in j) ≡ machine.send (ledger_in l) p z tt
      → beside (sent_as s) (ledger_in k) ≡ machine.send (ledger_in m) p z tt
      → (r ≡ s) × (ledger_in j ≡ ledger_in k)
  one_send p z r s j k =
      alike sent_as (one_answer (λ n. n) (λ x y e. e)) r s (ledger_in j) (ledger_in k) (ap (λ (x : machine.Ledger Unit). machine.send x p z tt) same)

  pub one_accept : (octets : List ℕ) (r s : Result Accepted Refusal) (j k : Ledger)
      → beside (accepted_as r) (ledger_in j) ≡ machine.accept (ledger_in l) octets
      → beside (accepted_as s) (ledger_in k) ≡ machine.accept (ledger_in m) octets
      → (r ≡ s) × (ledger_in j ≡ ledger_in k)
  one_accept octets r s j k =
      alike accepted_as same_accepted r s (ledger_in j) (ledger_in k) (ap (λ (x : machine.Ledger Unit). machine.accept x octets) same)

  pub one_take : (r s : Result Taken Refusal) (j k : Ledger)
      → beside (taken_as r) (ledger_in j) ≡ machine.take_oldest (ledger_in l)
      → beside (taken_as s) (ledger_in k) ≡ machine.take_oldest (ledger_in m)
      → (r ≡ s) × (ledger_in j ≡ ledger_in k)
  one_take r s j k = alike taken_as same_taken r s (ledger_in j) (ledger_in k) (ap machine.take_oldest same)

  pub one_room : (r s : ℕ) → r ≡ machine.room (ledger_in l) → s ≡ machine.room (ledger_in m) → r ≡ s
  one_room r s x y = x ∙ ap machine.room same ∙ sym y
