-- The secondary as its words show it, laid field by field. The code's contract says so today; the laws stand.
-- Assumes nothing.
use Rattle.std.proofs.Common.{◌≡◌, ℕ, ◌+◌, ◌≤◌, List, [], ◌∷◌, ◌++◌, take, append_assoc, arith, subst}
use Rattle.std.specs.Prelude.{map, not}
use Rattle.basics.specs.Basics.{bit}
use Rattle.frame_layout.specs.Frames.{ranges_of}
use Rattle.bearer.specs.Bearer.{most_runs, most_records}
use Rattle.keeper_state.specs.declared.Words.{Words}
use Rattle.keeper_state.specs.State.{is_open, listed_in, held_in, records_of, words_in, keeper_in}
use Rattle.lister_text.specs.Texts.{ascii, tab, decimal, parted, joined, ranges_text}
use Rattle.lister_text.specs.declared.Output.{Output}
use Rattle.replay_parts.specs.Parts.{Puts}
use Rattle.replay_parts.proofs.Putting.{puts_then}
use Rattle.replay_states.specs.States.{record_text, keeper_fields}

-- a word and three numbers, and others behind them
words_then : (t : ℕ) (w x y z rest : List ℕ) → (w ++ (t ∷ (x ++ (t ∷ (y ++ (t ∷ z)))))) ++ rest ≡ w ++ (t ∷ (x ++ (t ∷ (y ++ (t ∷ (z ++ rest))))))
words_then t w x y z rest = simp append_assoc

-- its fields, by what the words say and what the other arrays hold
abbrev pub shown_fields : Words → List ℕ → List ℕ → List ℕ → List ℕ → List ℕ → List (List ℕ)
shown_fields s ns ps cs ss es =
    ascii "keeper"
    ∷ decimal s.base
    ∷ decimal s.reported
    ∷ decimal (bit (not (is_open s.opened)))
    ∷ ranges_text (take (listed_in s) (ranges_of ss es))
    ∷ joined (map record_text (take (held_in s) (records_of ns ps cs)))
    ∷ []

-- laid one behind another are the fields of the state
pub shown_keeper : {o p q r : Output} {l m n : ℕ} (s : Words) (ns ps cs ss es w : List ℕ) → s ≡ words_in w
    → Puts o (ascii "keeper" ++ (tab ∷ (decimal s.base ++ (tab ∷ (decimal s.reported ++ (tab ∷ decimal (bit (not (is_open s.opened))))))))) p l
    → Puts p (tab ∷ ranges_text (take (listed_in s) (ranges_of ss es))) q m
    → Puts q (tab ∷ joined (map record_text (take (held_in s) (records_of ns ps cs)))) r n
    → Puts o (parted tab (keeper_fields (keeper_in ns ps cs ss es w))) r (l + (m + n))
shown_keeper {o} {p} {q} {r} {l} {m} {n} s ns ps cs ss es w is j k h =
    let all : Puts o (parted tab (shown_fields s ns ps cs ss es)) r (l + (m + n))
    = rw (words_then tab (ascii "keeper") (decimal s.base) (decimal s.reported) (decimal (bit (not (is_open s.opened)))) _) at (puts_then j (puts_then k h)) in
    subst (λ (t : Words). Puts o (parted tab (shown_fields t ns ps cs ss es)) r (l + (m + n))) is all

-- and no count is past the end
pub shown_counts : (s : Words) → (listed_in s ≤ most_runs) × (held_in s ≤ most_records)
shown_counts s = (omega arith, omega arith)
