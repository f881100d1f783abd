-- The words in which statements speak of packets: their numbers, the packets of entries and of ranges, and lists of them. A packet is an
-- index that never rolls over: packet 0 is the first one sent, 1 the next.
-- Assumes nothing.
use Rattle.std.specs.Prelude.{◌≡◌, true, List, [], ◌∷◌, ◌++◌, map, ℕ, zero, suc, ◌+◌, ◌-◌, ◌%◌, ◌^◌, ◌<◌, eqb, if◌then◌else◌}
use Rattle.circle.specs.Circle.{forward}
use Rattle.circle.specs.Sides.{Side, lies}
use Rattle.circle.specs.Lengths.{modulus_of}
use Rattle.frame_layout.specs.Frames.{Range}
use Rattle.bearer.specs.Ledger as G
use Rattle.bearer.specs.Rule.{Fates, is_in, highest}

-- ---- lists of packets

-- a packet is in a list
abbrev pub In : ℕ → List ℕ → Type 0
In i l = is_in i l ≡ true

-- packets in sending order, each once
abbrev pub Rising : List ℕ → Type 0
Rising [] = Unit
Rising (i ∷ []) = Unit
Rising (i ∷ j ∷ js) = (i < j) × Rising (j ∷ js)

-- a property of every element
abbrev pub Each : {A : Type 0} → (A → Type 0) → List A → Type 0
Each P [] = Unit
Each P (x ∷ xs) = P x × Each P xs

-- the last of a list; another where there is none
abbrev pub last_of : ℕ → List ℕ → ℕ
last_of p [] = p
last_of p (q ∷ qs) = last_of q qs

-- ---- their numbers

-- the X2-U number of a packet
abbrev pub number_of : ℕ → ℕ → ℕ → ℕ
number_of L first i = (first + i) % modulus_of L

-- f - 1 modulo 2^L, worked without going below zero; written here again on purpose: an edit of the machines' must not move the rule
abbrev pub one_before : ℕ → ℕ → ℕ
one_before L f = (f + (2 ^ L - 1)) % 2 ^ L

-- of the packets through one, the latest that bears a number; 0, before which there is no packet, where none does
abbrev pub latest_through : ℕ → ℕ → ℕ → ℕ → ℕ
latest_through L first n zero = 0
latest_through L first n (suc i) = if eqb (number_of L first (suc i)) n then suc i else latest_through L first n i

-- the packet that a mark names: of those through the highest accepted, the latest that bears it. So the number of an accepted packet, "the highest
-- number accepted when the host's gap timer started", names that packet for nearly a turn (`MarksKept` of KeeperMeaning.antt)
abbrev pub mark_of : ℕ → ℕ → ℕ → Fates → ℕ
mark_of L first n r = latest_through L first n (highest r.received)

-- forward from a packet's number to another number
abbrev pub forward_from : ℕ → ℕ → ℕ → ℕ → ℕ
forward_from L first i n = forward (modulus_of L) (number_of L first i) n

-- how a number lies as seen from a packet's
abbrev pub lies_from : ℕ → ℕ → ℕ → ℕ → Side
lies_from L first i n = lies (modulus_of L) (number_of L first i) n

-- the packets of entries
abbrev pub packets : List (G.Entry ℕ) → List ℕ
packets es = map (λ (e : G.Entry ℕ). e.label) es

-- ---- numbers in ranges

-- the numbers from one on, so many
abbrev pub numbers_from : ℕ → ℕ → ℕ → List ℕ
numbers_from L n zero = []
numbers_from L n (suc c) = n ∷ numbers_from L ((n + 1) % modulus_of L) c

-- "A range runs forward from start through end"
abbrev pub in_range : ℕ → Range → List ℕ
in_range L r = numbers_from L r.start (suc (forward (modulus_of L) r.start r.end))

-- the numbers in ranges, in order
abbrev pub in_ranges : ℕ → List Range → List ℕ
in_ranges L [] = []
in_ranges L (r ∷ rs) = in_range L r ++ in_ranges L rs
