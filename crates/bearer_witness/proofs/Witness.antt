-- Demand 3 isn't about nothing: at each L a run that its hypotheses allow, at document 01's constants, with rollovers of both circles, a
-- burst lost, repeats, an overtaking, a packet that the mark of an expiry spares, a status held back, a rest of half the PDCP circle and a Final; and what it frees is what one expects. All is computed.
-- Assumes nothing.
use mathlib.Core.Path.{◌≡◌, refl}
use mathlib.Core.Bool.{Bool, true, false}
use mathlib.Core.List.{List, [], ◌∷◌, ◌++◌, map}
use Prim.Native.Nat.{ℕ, zero, suc, ◌+◌, ◌-◌, ◌/◌, ◌%◌}
use lib.ListN.{length, replicate, take, drop}
use Rattle.basics.specs.Basics.{bit}
use Rattle.circle.specs.Lengths.{modulus_of, half, pdcps}
use Rattle.frame_layout.specs.Frames.{Range, read_frame}
use Rattle.bearer.specs.Keeper as K
use Rattle.bearer.specs.Ledger as G
use Rattle.bearer.specs.Packets.{number_of}
use Rattle.bearer.specs.World.{World, fresh_world, Event, Built, send, copy, stray, expire, confirm, status, deliver, other, take_one, open_secondary, open_master}
use Rattle.bearer.specs.Demand3.{ranges_read, OpenedAlike, AllAllowed, after, Kept}
use Rattle.bearer.proofs.Joint.Demand3.{demand_3}
use Rattle.bearer_witness.proofs.Allowed.{course, ran}
use Rattle.bearer_witness.proofs.Seen.{Row, ◌is◌, AllSeen, are_seen, all_seen}

-- ---- packets

-- so many packets from i on
abbrev every : ℕ → ℕ → List ℕ
every i zero = []
every i (suc n) = i ∷ every (i + 1) n

-- every second packet from i on, so many
abbrev second : ℕ → ℕ → List ℕ
second i zero = []
second i (suc n) = i ∷ second (i + 2) n

-- ---- the run, at a length L

-- the first number, ten before the rollover of the X2-U numbers
abbrev pub first : ℕ → ℕ
first L = modulus_of L - 10

-- the PDCP number of a packet: packet 96 is the first past the rollover
abbrev pub pdcp : ℕ → ℕ → ℕ
pdcp L i = (pdcps L - 96 + i) % pdcps L

-- the PDCP number half a circle past that of packet 359, the last one freed before the bearer rests
abbrev pub rested : ℕ → ℕ
rested L = (pdcp L 359 + pdcps L / 2) % pdcps L

-- a packet's X2-U number
abbrev pub number : ℕ → ℕ → ℕ
number L i = number_of L (first L) i

-- both ends of a bearer, opened with these
abbrev pub fresh : ℕ → World
fresh L = fresh_world (K.fresh_keeper L (first L) (pdcp L 0)) (G.fresh_ledger L (first L) (pdcp L 0))

-- the world after events
abbrev pub world : ℕ → List Event → World
world L es = after L (first L) (fresh L) es

-- so many packets from i on are sent, with consecutive PDCP numbers, each of i + 1 octets
abbrev sends : ℕ → ℕ → ℕ → List Event
sends L i zero = []
sends L i (suc n) = send (pdcp L i) (i + 1) ∷ sends L (suc i) n

-- a status is asked for, Final or not
abbrev asked : Bool → Event
asked final = status 65536 4096 final (replicate 1018 0)

-- 360 packets are sent. 1 overtakes 0, and each of them comes twice; 2 to 22 are lost in a burst; of the others every second
-- one comes. Marks past the highest accepted, of no number and behind base are refused, and 357, the highest accepted when the gap timer
-- started, isn't: what is open before it expires. So 358, which lies past the mark and before 359, comes after all. All that came is confirmed.
-- 168 runs are listed: a Final is refused, and a status carries 162.
abbrev pub held_back : ℕ → List Event
held_back L =
    sends L 0 360
    ++ (copy 1 ∷ copy 1 ∷ copy 0 ∷ copy 0 ∷ [])
    ++ map copy (second 23 169)
    ++ (expire (number L 360) ∷ expire (modulus_of L) ∷ expire (number L 1) ∷ expire (number L 357) ∷ copy 358 ∷ [])
    ++ map (λ (i : ℕ). confirm (number L i)) (0 ∷ 1 ∷ second 23 169 ++ (358 ∷ []))
    ++ (asked true ∷ asked false ∷ deliver ∷ [])

-- A status carries the other runs, and one lost packet is taken. Numbers that are no packet's come to the secondary: one that is M or more, and
-- one that is late; other octets come to the master, and opens that are refused to both. The bearer rests while half the PDCP numbers go over the
-- master alone; then one more packet, which was refused with a size past the limit, is sent, comes and is confirmed; a Final closes both ends, and a
-- repeat after it is refused.
abbrev pub to_the_end : ℕ → List Event
to_the_end L =
    asked false ∷ deliver ∷ take_one
    ∷ stray (modulus_of L) 0 ∷ stray (number L (half L + 400)) 0
    ∷ other []
    ∷ open_secondary 13 0 0 ∷ open_master L (modulus_of L) 0
    ∷ send (rested L) 16385 ∷ send (rested L) 16384 ∷ copy 360 ∷ confirm (number L 360) ∷ asked true ∷ copy 360 ∷ deliver ∷ take_one ∷ []

-- one after the other
abbrev pub run : ℕ → List Event
run L = held_back L ++ to_the_end L

-- ---- what is seen of it

-- the starts and ends of ranges
abbrev bounds : List Range → List ℕ
bounds [] = []
bounds (r ∷ rs) = r.start ∷ r.end ∷ bounds rs

-- the ranges of frames, as anyone reads them
abbrev carried : List Built → List Range
carried [] = []
carried (b ∷ bs) = ranges_read (read_frame b.frame) ++ carried bs

-- what is seen when the first status has reached the master
abbrev pub seen_then : ℕ → World → List Row
seen_then L w =
    -- the frame has 162 ranges, the first of them the burst, over the rollover of the X2-U numbers
    (length (carried w.built) ∷ take 4 (bounds (carried w.built)) is 162 ∷ (modulus_of L - 8) ∷ 12 ∷ 14 ∷ 14 ∷ [])
    -- its highest is held back to packet 345, in front of the first run left out
    ∷ (w.ledger.highest ∷ [] is pdcp L 345 ∷ [])
    -- so the master has freed what came through 345
    ∷ (w.freed is 0 ∷ 1 ∷ second 23 162)
    -- 346 to 359 wait: the sum is theirs, and is taken away from the desired size
    ∷ (w.ledger.octets ∷ G.kept_room w.ledger ∷ G.room w.ledger ∷ [] is 4949 ∷ (65536 - 4949) ∷ (65536 - 4949) ∷ [])
    -- and 6 runs, and the records of 8 packets though these are confirmed, stay with the secondary
    ∷ (map (λ (r : Range). r.start) w.keeper.runs is map (number L) (second 346 6))
    ∷ (K.held w.keeper is map (number L) (second 347 6 ++ (358 ∷ 359 ∷ [])))
    ∷ (map (λ (r : K.Record). bit r.confirmed) w.keeper.records is replicate 8 1)
    ∷ []

-- what is seen at the end
abbrev pub seen_at_end : ℕ → World → List Row
seen_at_end L w =
    -- 1 came before 0; of their repeats neither counts
    (drop 171 w.fates.received is 0 ∷ 1 ∷ [])
    -- 358 came after 359, past the mark
    ∷ (take 3 w.fates.received is 360 ∷ 358 ∷ 359 ∷ [])
    -- the PDCP numbers of the packets rolled over
    ∷ (take 3 (drop 95 w.sent) is (pdcps L - 1) ∷ 0 ∷ 1 ∷ [])
    -- the burst and what else didn't come was lost
    ∷ (w.fates.lost is every 2 21 ++ second 24 167)
    -- the master has freed what came, and nothing else
    ∷ (w.freed is 0 ∷ 1 ∷ second 23 168 ++ (358 ∷ 359 ∷ 360 ∷ []))
    -- of 361 packets 173 are freed, 2 were taken, and 186 lost ones are held
    ∷ (length w.sent ∷ length w.freed ∷ length w.ledger.entries ∷ [] is 361 ∷ 173 ∷ 186 ∷ [])
    -- three frames were built and delivered, and both ends are closed
    ∷ (length w.built ∷ w.delivered ∷ bit w.keeper.closed ∷ bit w.ledger.closed ∷ [] is 3 ∷ 3 ∷ 1 ∷ 1 ∷ [])
    -- none waits: there is all the room that was desired
    ∷ (w.ledger.octets ∷ G.kept_room w.ledger ∷ G.room w.ledger ∷ [] is 0 ∷ 65536 ∷ 65536 ∷ [])
    -- the master's next X2-U number and its last PDCP number
    ∷ (w.ledger.next ∷ w.ledger.sent ∷ [] is 351 ∷ rested L ∷ [])
    ∷ []

-- ---- it is one that demand 3 speaks of

-- At L both ends are opened alike, every event is allowed when it happens, and so demand 3's promises hold at the end; and all of that is seen.
pub record Witnessed (L : ℕ) : Type 0 where
  pub opened_alike : OpenedAlike L (first L) (pdcp L 0) (fresh L)
  pub allowed : AllAllowed L (first L) (fresh L) (run L)
  pub kept : Kept L (first L) (world L (run L))
  pub then_seen : AllSeen (seen_then L (world L (held_back L)))
  pub end_seen : AllSeen (seen_at_end L (world L (run L)))

-- what one expects is seen then, and at the end
abbrev expected_then : ℕ → World → Bool
expected_then L w = are_seen (seen_then L w)

abbrev expected_at_end : ℕ → World → Bool
expected_at_end L w = are_seen (seen_at_end L w)

-- a run that was computed is a witness
witnessed : (L : ℕ) → OpenedAlike L (first L) (pdcp L 0) (fresh L)
    → course L (first L) (fresh L) (held_back L) (expected_then L) (to_the_end L) (expected_at_end L) ≡ true → Witnessed L
witnessed L o t =
    let c = ran L (first L) (fresh L) (held_back L) (expected_then L) (to_the_end L) (expected_at_end L) t in
    record {
      opened_alike = o;
      allowed = c.allowed;
      kept = demand_3 L (first L) (pdcp L 0) (fresh L) o (run L) c.allowed;
      then_seen = all_seen (seen_then L (world L (held_back L))) c.then;
      end_seen = all_seen (seen_at_end L (world L (run L))) c.at_end;
    }

-- at each of document 01's lengths
pub witness_12 : Witnessed 12
witness_12 = witnessed 12 (record { secondary = refl; master = refl; nothing_yet = refl }) refl

pub witness_15 : Witnessed 15
witness_15 = witnessed 15 (record { secondary = refl; master = refl; nothing_yet = refl }) refl

pub witness_18 : Witnessed 18
witness_18 = witnessed 18 (record { secondary = refl; master = refl; nothing_yet = refl }) refl
