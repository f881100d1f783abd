-- The line of an end as it stands is one line.
-- Assumes nothing.
use mathlib.Core.Path.{◌≡◌, refl}
use mathlib.Core.Bool.{Bool, true, false}
use mathlib.Core.List.{List, [], ◌∷◌, ◌++◌, map}
use Prim.Native.Nat.{ℕ}
use lib.Dec.{eqb}
use Rattle.basics.specs.Basics.{bit, all}
use Rattle.bearer.specs.Keeper.{Keeper, Record}
use Rattle.bearer.specs.Ledger as master
use Rattle.lister_text.specs.Texts.{line_feed, decimal, unended, IsLine}
use Rattle.lister_text.proofs.LineFeeds.{unended_append, unended_cons, unended_decimal, unended_joined, unended_ranges, fields_line}
use Rattle.replay_states.specs.Lines.{line_with}
use Rattle.replay_states.specs.States.{colon, packet_text, record_kind, record_text, fate_kind, entry_text, keeper_fields, ledger_fields}

-- fields without a line feed make a line
pub line_with_lem : (fields : List (List ℕ)) → all unended fields ≡ true → IsLine (line_with fields)
unfolding line_with
line_with_lem fields u = fields_line fields u

-- a packet's text has none, if its kind is none
packet_plain : (number pdcp kind : ℕ) → eqb kind line_feed ≡ false → unended (packet_text number pdcp kind) ≡ true
packet_plain number pdcp kind e =
    unended_append (decimal number) (colon ∷ (decimal pdcp ++ (colon ∷ kind ∷ []))) (unended_decimal number)
    (unended_cons colon (decimal pdcp ++ (colon ∷ kind ∷ [])) refl
    (unended_append (decimal pdcp) (colon ∷ kind ∷ []) (unended_decimal pdcp) (unended_cons colon (kind ∷ []) refl (unended_cons kind [] e refl))))

-- no record's has
record_kind_lem : (b : Bool) → eqb (record_kind b) line_feed ≡ false
record_kind_lem true = refl
record_kind_lem false = refl

records_plain : (rs : List Record) → all unended (map record_text rs) ≡ true
records_plain [] = refl
records_plain (r ∷ rs) = rw (packet_plain r.number r.pdcp (record_kind r.confirmed) (record_kind_lem r.confirmed)) (records_plain rs)

-- and no entry's
fate_kind_lem : (f : master.Fate) → eqb (fate_kind f) line_feed ≡ false
fate_kind_lem master.waiting = refl
fate_kind_lem master.lost = refl

entry_plain : (e : master.Entry Unit) → unended (entry_text e) ≡ true
entry_plain e =
    unended_append (packet_text e.number e.pdcp (fate_kind e.fate)) (colon ∷ decimal e.size) (packet_plain e.number e.pdcp (fate_kind e.fate) (fate_kind_lem e.fate))
    (unended_cons colon (decimal e.size) refl (unended_decimal e.size))

entries_plain : (es : List (master.Entry Unit)) → all unended (map entry_text es) ≡ true
entries_plain [] = refl
entries_plain (e ∷ es) = rw (entry_plain e) (entries_plain es)

-- ---- both ends

pub keeper_line : (k : Keeper) → IsLine (line_with (keeper_fields k))
keeper_line k =
    line_with_lem (keeper_fields k)
    (rw (
      unended_decimal k.base,
      unended_decimal k.reported,
      unended_decimal (bit k.closed),
      unended_ranges k.runs,
      unended_joined (map record_text k.records) (records_plain k.records),
    ))

pub ledger_line : (l : master.Ledger Unit) → IsLine (line_with (ledger_fields l))
ledger_line l =
    line_with_lem (ledger_fields l)
    (rw (
      unended_decimal l.next,
      unended_decimal l.highest,
      unended_decimal l.sent,
      unended_decimal (bit l.closed),
      unended_decimal l.desired,
      unended_decimal l.minimum,
      unended_decimal l.octets,
      unended_joined (map entry_text l.entries) (entries_plain l.entries),
    ))
