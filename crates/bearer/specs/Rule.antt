-- The secondary's rule in document 01's own sentences, as document 02's requests changed them, on packet indexes: packet 0 is the first one
-- sent, 1 the next, and indexes never roll over. No definition of the machines is used here.
-- Assumes nothing.
use Rattle.std.specs.Prelude.{◌≡◌, Bool, true, false, not, List, [], ◌∷◌, ◌++◌, ℕ, zero, suc, ◌-◌, ◌<◌, max, eqb, if◌then◌else◌}
use Rattle.basics.specs.Basics.{◌and◌, ◌or◌}

-- "Each number from the first on is open, received or lost": the received, and the lost in the order they were declared
pub record Fates : Type 0 where
  pub received : List ℕ
  pub lost : List ℕ

-- at first every packet is open
abbrev pub all_open : Fates
all_open = record { received = []; lost = [] }

-- a packet is in a list
abbrev pub is_in : ℕ → List ℕ → Bool
is_in i [] = false
is_in i (x ∷ xs) = eqb i x or is_in i xs

-- neither received nor lost
abbrev pub is_open : Fates → ℕ → Bool
is_open r i = not (is_in i r.received) and not (is_in i r.lost)

-- "Base is the lowest open number.": a packet is open, and none before it
pub record Lowest (r : Fates) (i : ℕ) : Type 0 where
  pub open_itself : is_open r i ≡ true
  pub none_below : (j : ℕ) → j < i → is_open r j ≡ false

-- the packets below n, in sending order
abbrev pub below : ℕ → List ℕ
below zero = []
below (suc n) = below n ++ (n ∷ [])

-- those of a list that have a property
abbrev pub only : (ℕ → Bool) → List ℕ → List ℕ
only p [] = []
only p (x ∷ xs) = if p x then x ∷ only p xs else only p xs

-- the open packets below n
abbrev pub open_below : Fates → ℕ → List ℕ
open_below r n = only (is_open r) (below n)

-- each open packet below n is declared lost
abbrev pub declare : Fates → ℕ → Fates
declare r n = record { received = r.received; lost = r.lost ++ open_below r n }

-- a packet is received
abbrev pub receive : Fates → ℕ → Fates
receive r i = record { received = i ∷ r.received; lost = r.lost }

-- document 01's figure, written here again on purpose: an edit of the machine's must not move the rule
abbrev pub far_below : ℕ
far_below = 256

-- "Arrival of number and PDCP number adds a record, then declares lost each open number that is 256 or more below the arrival." A packet that is
-- received or lost already stays what it is.
abbrev pub arrival : Fates → ℕ → Fates
arrival r i = if is_open r i then declare (receive r i) (suc i - far_below) else r

-- the highest accepted packet; 0 for none, below which there is no packet
abbrev pub highest : List ℕ → ℕ
highest [] = 0
highest (i ∷ is) = max i (highest is)

-- "Expiry now takes a mark, .. and declares lost only open numbers before it." (document 02, Six): the mark is a packet, and itself spared
abbrev pub expiry : Fates → ℕ → Fates
expiry r mark = declare r mark
