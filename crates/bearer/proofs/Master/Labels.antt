-- Labels change nothing: the master's machine on entries with one kind of label, and on the same entries relabelled, gives the same answers
-- and the same ledger relabelled. So what is proved with packets written on the entries holds of the engine's entries, which bear none.
-- Assumes nothing.
use Rattle.std.specs.Prelude.{if◌then◌else◌}
use mathlib.Core.Path.{◌≡◌, refl, sym, ◌∙◌, ap, ap₂}
use mathlib.Core.Bool.{Bool, true, false, not}
use mathlib.Core.List.{List, [], ◌∷◌, ◌++◌, map}
use mathlib.Core.Option.{Option, none, some}
use Prim.Native.Nat.{ℕ, suc, ◌+◌, ◌-◌}
use lib.Dec.{ltb, leb, eqb}
use lib.ListN.{length, take, drop, length-map}
use Rattle.basics.specs.Basics.{◌and◌, ◌or◌, alike}
use Rattle.basics.proofs.Choices.{choice}
use Rattle.basics.proofs.Lists.{map_take, map_drop}
use Rattle.circle.specs.Lengths.{is_long, pdcps}
use Rattle.frame_layout.specs.Frames.{Range, Status, Reading, data_of, status_of, refuse, read_frame}
use Rattle.bearer.specs.Bearer.{After, refusing, answering, most_entries}
use Rattle.bearer.specs.Ledger.{Entry, Ledger, ◌with_highest◌, ◌with_closed◌, ◌with_sizes_of◌, ◌with_octets◌, ◌with_oldest◌, ◌with_entries◌, waiting_at, waiting_sizes, lowered, holding, follows, place_without, new_entry, counts_of, accepted_state, taken_of, Passed, waits, bears, note_in, after_number, mark_lost, waits_for, kept, counted, free_through, freed, is_in_order, is_size, send, sent_state, accept_marked, accept_reading, accept, take_at, take_from, take_oldest}

module _ {A B : Type 0} (f : A → B) where
  -- an entry, a ledger, a pass and a call's outcome under other labels
  abbrev pub entry_as : Entry A → Entry B
  entry_as e = record { number = e.number; pdcp = e.pdcp; size = e.size; fate = e.fate; label = f e.label }

  abbrev pub entries_as : List (Entry A) → List (Entry B)
  entries_as es = map entry_as es

  abbrev pub relabelled : Ledger A → Ledger B
  relabelled l = l with_entries entries_as l.entries

  abbrev passed_as : Passed A → Passed B
  passed_as p = record { entries = entries_as p.entries; count = p.count }

  abbrev marked_as : Option (Passed A) → Option (Passed B)
  marked_as none = none
  marked_as (some p) = some (passed_as p)

  abbrev pub outcome_as : {C : Type 0} → After (Ledger A) C → After (Ledger B) C
  outcome_as x = record { answer = x.answer; state = relabelled x.state }

  entries_append : (xs ys : List (Entry A)) → entries_as (xs ++ ys) ≡ entries_as xs ++ entries_as ys
  entries_append [] ys = refl
  entries_append (x ∷ xs) ys = ap (λ (l : List (Entry B)). entry_as x ∷ l) (entries_append xs ys)

  -- ---- send

  -- the oldest of entries is judged by its PDCP number
  follows_as : (l : Ledger A) (p : ℕ) (es : List (Entry A)) → follows (relabelled l) p (entries_as es) ≡ follows l p es
  follows_as l p [] = refl
  follows_as l p (e ∷ es) = refl

  -- so the PDCP order is the same
  order_as : (l : Ledger A) (p : ℕ) → is_in_order (relabelled l) p ≡ is_in_order l p
  order_as l p =
      ap (λ (b : Bool). not (eqb p l.highest) and b)
      (ap (follows (relabelled l) p) (map_drop entry_as l.oldest l.entries) ∙ follows_as l p (drop l.oldest l.entries))

  sent_as_lem : (l : Ledger A) (p z : ℕ) (a : A) → sent_state (relabelled l) p z (f a) ≡ relabelled (sent_state l p z a)
  sent_as_lem l p z a = ap (λ (es : List (Entry B)). sent_state l p z a with_entries es) (sym (entries_append l.entries (new_entry l.next p z a ∷ [])))

  pub send_as : (l : Ledger A) (p z : ℕ) (a : A) → send (relabelled l) p z (f a) ≡ outcome_as (send l p z a)
  send_as l p z a =
      choice outcome_as {t = l.closed} {u = refusing 9 l} refl refl
      (choice outcome_as {t = not (ltb p (pdcps l.bits))} {u = refusing 10 l} refl refl
      (choice outcome_as {t = not (is_size z)} {u = refusing 39 l} refl refl
      (choice outcome_as {u = refusing 35 l} (ap not (order_as l p)) refl
      (choice outcome_as {u = refusing 36 l} {v = answering l.next (sent_state l p z a)} (ap (leb most_entries) (length-map l.entries entry_as)) refl
      (ap (answering l.next) (sent_as_lem l p z a))))))

  -- ---- where the oldest waiting entry stands, and how much waits

  waiting_at_as : (es : List (Entry A)) → waiting_at (entries_as es) ≡ waiting_at es
  waiting_at_as [] = refl
  waiting_at_as (e ∷ es) = ap (λ (n : ℕ). if waits e then 0 else suc n) (waiting_at_as es)

  pub waiting_sizes_as : (es : List (Entry A)) → waiting_sizes (entries_as es) ≡ waiting_sizes es
  waiting_sizes_as [] = refl
  waiting_sizes_as (e ∷ es) = ap (λ (n : ℕ). if waits e then e.size + n else n) (waiting_sizes_as es)

  lowered_as : (octets : ℕ) (es ds : List (Entry A)) → lowered octets (entries_as es) (entries_as ds) ≡ lowered octets es ds
  lowered_as octets es ds = ap₂ (λ (a b : ℕ). octets - (a - b)) (waiting_sizes_as es) (waiting_sizes_as ds)

  holding_as : (l : Ledger A) (n : ℕ) (es : List (Entry A)) → holding (relabelled l) n (entries_as es) ≡ relabelled (holding l n es)
  holding_as l n es =
      ap₂ (λ (k o : ℕ). l with_oldest n + k with_octets o with_entries entries_as es)
      (ap waiting_at (map_drop entry_as n es) ∙ waiting_at_as (drop n es)) (lowered_as l.octets l.entries es)

  -- ---- accepting

  note_as : (b : Bool) (e : Entry A) (o : Option (Passed A)) → note_in b (entry_as e) (marked_as o) ≡ marked_as (note_in b e o)
  note_as b e none = refl
  note_as true e (some p) = refl
  note_as false e (some p) = refl

  mark_as : (L : ℕ) (es : List (Entry A)) (rs : List Range) → mark_lost L (entries_as es) rs ≡ marked_as (mark_lost L es rs)
  mark_as L [] [] = refl
  mark_as L [] (r ∷ rs) = refl
  mark_as L (e ∷ es) [] = refl
  mark_as L (e ∷ es) (r ∷ rs) =
      ap (note_in (bears e r.start) (entry_as e)) (mark_as L es (if bears e r.start then after_number L r rs else (r ∷ rs)))
      ∙ note_as (bears e r.start) e (mark_lost L es (if bears e r.start then after_number L r rs else (r ∷ rs)))

  waits_for_as : (h : ℕ) (es : List (Entry A)) → waits_for h (entries_as es) ≡ waits_for h es
  waits_for_as h [] = refl
  waits_for_as h (e ∷ es) = ap (λ (b : Bool). (waits e and eqb e.pdcp h) or b) (waits_for_as h es)

  free_as : (h : ℕ) (es : List (Entry A)) → free_through h (entries_as es) ≡ passed_as (free_through h es)
  free_as h [] = refl
  free_as h (e ∷ es) =
      choice passed_as {t = not (waits e)} refl (ap (kept (entry_as e)) (free_as h es)) (choice passed_as {t = eqb e.pdcp h} refl refl (ap counted (free_as h es)))

  freed_as : (l : Ledger A) (h : ℕ) (es : List (Entry A)) → freed (relabelled l) h (entries_as es) ≡ passed_as (freed l h es)
  freed_as l h es = choice passed_as {t = eqb h l.highest} refl refl (free_as h es)

  accept_marked_as : (l : Ledger A) (s : Status) (m : Option (Passed A)) → accept_marked (relabelled l) s (marked_as m) ≡ outcome_as (accept_marked l s m)
  accept_marked_as l s none = refl
  accept_marked_as l s (some m) =
      choice outcome_as (ap (λ (b : Bool). not (eqb s.highest l.highest or b)) (waits_for_as s.highest m.entries)) refl
      (ap (λ (p : Passed B). answering (counts_of s p.count m.count) (accepted_state (relabelled l) s p.entries))
      (freed_as l s.highest m.entries)
      ∙ ap (answering (counts_of s (freed l s.highest m.entries).count m.count))
      (holding_as (l with_highest s.highest with_closed s.final with_sizes_of s) l.oldest (freed l s.highest m.entries).entries))

  accept_reading_as : (l : Ledger A) (r : Reading) → accept_reading (relabelled l) r ≡ outcome_as (accept_reading l r)
  accept_reading_as l (data_of long n) = refl
  accept_reading_as l (status_of s) =
      choice outcome_as {t = not (alike s.long (is_long l.bits))} refl refl
      (choice outcome_as {t = leb (pdcps l.bits) s.highest} refl refl
      (ap (accept_marked (relabelled l) s) (mark_as l.bits l.entries s.ranges) ∙ accept_marked_as l s (mark_lost l.bits l.entries s.ranges)))
  accept_reading_as l (refuse n) = refl

  pub accept_as : (l : Ledger A) (o : List ℕ) → accept (relabelled l) o ≡ outcome_as (accept l o)
  accept_as l o = choice outcome_as {t = l.closed} refl refl (accept_reading_as l (read_frame o))

  -- ---- take

  take_at_as : (c : Bool) (es : List (Entry A)) → take_at c (entries_as es) ≡ take_at c es
  take_at_as c [] = refl
  take_at_as c (e ∷ es) = ap (λ (n : ℕ). if c or not (waits e) then 0 else suc n) (take_at_as c es)

  take_from_as : (l : Ledger A) (xs ys : List (Entry A)) → take_from (relabelled l) (entries_as xs) (entries_as ys) ≡ outcome_as (take_from l xs ys)
  take_from_as l xs [] = refl
  take_from_as l xs (e ∷ es) =
      ap (λ (n : ℕ). answering (taken_of e) (holding (relabelled l) (place_without n l.oldest) (entries_as xs ++ entries_as es))) (length-map xs entry_as)
      ∙ ap (λ (ds : List (Entry B)). answering (taken_of e) (holding (relabelled l) (place_without (length xs) l.oldest) ds)) (sym (entries_append xs es))
      ∙ ap (answering (taken_of e)) (holding_as l (place_without (length xs) l.oldest) (xs ++ es))

  pub take_as : (l : Ledger A) → take_oldest (relabelled l) ≡ outcome_as (take_oldest l)
  take_as l =
      let n = take_at l.closed l.entries in
      ap (λ (i : ℕ). take_from (relabelled l) (take i (entries_as l.entries)) (drop i (entries_as l.entries))) (take_at_as l.closed l.entries)
      ∙ ap (λ (xs : List (Entry B)). take_from (relabelled l) xs (drop n (entries_as l.entries))) (map_take entry_as n l.entries)
      ∙ ap (take_from (relabelled l) (entries_as (take n l.entries))) (map_drop entry_as n l.entries)
      ∙ take_from_as l (take n l.entries) (drop n l.entries)
