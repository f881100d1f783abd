-- Demand 3, stated: both ends of a bearer joined over a backhaul that drops, repeats and reorders packets.
--
-- The customer: "Open both ends alike. Let packets be dropped, repeated or overtaken but not altered, and no copy arrive after
-- half the number space has been sent behind it; let status frames arrive unchanged, once, in the order built. Then over any
-- calls, refused ones included: the ranges in the frames built, followed by those still listed, give every packet declared
-- lost by our written rule, each once, in sending order. The master accepts each frame, and by it has freed exactly the
-- packets that were confirmed to the secondary when it built the frame and whose every predecessor was by then confirmed or
-- reported lost in that frame or an earlier one."
--
-- What may happen, and what each event does, is World.antt. The statement is `Demand3`, at the end, and beside it `AnythingKept`, of the question
-- whether there is anything to say; both are proved in proofs/Joint/Demand3.antt.
-- Assumes nothing.
use Rattle.std.specs.Prelude.{◌≡◌, Bool, true, false, List, [], ◌∷◌, ◌++◌, map, ◌⊎◌, ◌↔◌, ℕ, zero, suc, ◌+◌, ◌-◌, ◌^◌, ◌≤◌, ◌<◌, ltb, eqb, length, get_or, take}
use Rattle.basics.specs.Basics.{Outcome, done, refused, is_done}
use Rattle.circle.specs.Lengths.{half}
use Rattle.frame_layout.specs.Frames.{Range, Reading, data_of, status_of, refuse, read_frame}
use Rattle.bearer.specs.Keeper as K
use Rattle.bearer.specs.Ledger as G
use Rattle.bearer.specs.Rule.{is_open, Lowest, arrival, expiry}
use Rattle.bearer.specs.Packets.{number_of, mark_of, in_ranges, Rising, In}
use Rattle.bearer.specs.World.{Event, Built, World, fresh_world, ◌with_delivered◌, in_flight, had_final, step, send, copy, stray, expire, confirm, status, deliver, other, take_one, open_secondary, open_master}

-- ---- what is assumed

-- "Open both ends alike": both accept the same L, first number and first PDCP number, and nothing has happened yet
pub record OpenedAlike (L first f : ℕ) (w : World) : Type 0 where
  pub secondary : K.open_keeper L first f ≡ done w.keeper
  pub master : G.open_ledger L first f ≡ done w.ledger
  pub nothing_yet : w ≡ fresh_world w.keeper w.ledger

-- "Let packets be dropped, repeated or overtaken but not altered, and no copy arrive after half the number space has been sent behind
-- it": a copy is of a packet that was sent, and fewer than M/2 were sent after it. Numbers that are no packet's reach the
-- secondary only where it refuses them. "let status frames arrive unchanged, once, in the order built": that is
-- what deliver does; other octets are such as the master refuses. An end is opened again only where that is refused. Both sizes of a
-- status are numbers of 32 bits; a PDU's size and an expiry's mark are any numbers. Everything else may happen at any time.
abbrev pub Allowed : ℕ → World → Event → Type 0
Allowed L w (send p z) = Unit
Allowed L w (copy i) = (i < length w.sent) × (length w.sent ≤ i + half L)
Allowed L w (stray n p) = is_done (K.arrive w.keeper n p).answer ≡ false
Allowed L w (expire n) = Unit
Allowed L w (confirm n) = Unit
Allowed L w (status d m final buffer) = (d < 2 ^ 32) × (m < 2 ^ 32)
Allowed L w deliver = Unit
Allowed L w (other o) = is_done (G.accept w.ledger o).answer ≡ false
Allowed L w take_one = Unit
Allowed L w (open_secondary bits n f) = is_done (K.open_keeper bits n f) ≡ false
Allowed L w (open_master bits n f) = is_done (G.open_ledger {A = ℕ} bits n f) ≡ false

-- a list of events, each allowed when it happens
abbrev pub AllAllowed : ℕ → ℕ → World → List Event → Type 0
AllAllowed L first w [] = Unit
AllAllowed L first w (e ∷ es) = Allowed L w e × AllAllowed L first (step L first w e) es

-- the world after them
abbrev pub after : ℕ → ℕ → World → List Event → World
after L first w [] = w
after L first w (e ∷ es) = after L first (step L first w e) es

-- ---- what is claimed

-- the ranges that a frame bears, as anyone reads them
abbrev pub ranges_read : Reading → List Range
ranges_read (data_of long n) = []
ranges_read (status_of s) = s.ranges
ranges_read (refuse n) = []

-- the numbers in the ranges of frames, in order
abbrev pub in_frames : ℕ → List Built → List ℕ
in_frames L [] = []
in_frames L (b ∷ bs) = in_ranges L (ranges_read (read_frame b.frame)) ++ in_frames L bs

-- the packets reported lost in the frames that the master has accepted: as many of those declared lost as these frames have numbers; by
-- `exactly` below they are the packets whose numbers these frames bear
abbrev pub reported_lost : ℕ → World → List ℕ
reported_lost L w = take (length (in_frames L (take w.delivered w.built))) w.fates.lost

-- what was confirmed when the last of frames was built; nothing before any frame
abbrev pub last_confirmed : List Built → List ℕ
last_confirmed [] = []
last_confirmed (b ∷ []) = b.confirmed
last_confirmed (b ∷ c ∷ bs) = last_confirmed (c ∷ bs)

-- the packets that were confirmed to the secondary when it built the last frame that the master accepted
abbrev pub confirmed_then : World → List ℕ
confirmed_then w = last_confirmed (take w.delivered w.built)

-- "the ranges in the frames built, followed by those still listed, give every packet declared lost by our written rule, each
-- once, in sending order"
pub record AllReported (L first : ℕ) (w : World) : Type 0 where
  pub exactly : in_frames L w.built ++ in_ranges L w.keeper.runs ≡ map (number_of L first) w.fates.lost
  pub in_order : Rising w.fates.lost

-- "The master accepts each frame": the next one in flight, whenever it comes
abbrev pub Accepts : World → List Built → Type 0
Accepts w [] = Unit
Accepts w (b ∷ bs) = is_done (G.accept w.ledger b.frame).answer ≡ true

-- a packet was confirmed by then, and every predecessor confirmed or reported lost
abbrev pub Deserved : ℕ → World → ℕ → Type 0
Deserved L w i = In i (confirmed_then w) × ((j : ℕ) → j < i → In j (confirmed_then w) ⊎ In j (reported_lost L w))

-- "and by it has freed exactly the packets that .."
abbrev pub FreedExactly : ℕ → World → Type 0
FreedExactly L w = (i : ℕ) → In i w.freed ↔ Deserved L w i

-- what a copy is answered, by whether its packet is open, lies before base, and lies M/2 before it: of an open packet, how many became lost; of
-- one before base, that it is opposite, if M/2 before it, and else that it is late; of any other, that it has a record
abbrev pub Answered : Bool → Bool → Bool → ℕ → Outcome ℕ → Type 0
Answered true before half_before c a = a ≡ done c
Answered false true true c a = a ≡ refused 18
Answered false true false c a = a ≡ refused 11
Answered false false half_before c a = a ≡ refused 12

-- until the secondary has built a frame with Final it takes each copy of an open packet and answers how many our rule declares lost by it; of the
-- others it refuses with 18 exactly those whose packet lies M/2 before base, with 11 any other whose packet lies before base (every lost one
-- does), and with 12 the rest: 13, 14 and 15 are never given
abbrev pub CopiesAnswered : ℕ → ℕ → World → Type 0
CopiesAnswered L first w =
    had_final w.built ≡ false → (i base : ℕ) → Allowed L w (copy i) → Lowest w.fates base
    → Answered (is_open w.fates i) (ltb i base) (eqb (i + half L) base) (length (arrival w.fates i).lost - length w.fates.lost)
    (K.arrive w.keeper (number_of L first i) (get_or w.sent i 0)).answer

-- what an expiry is answered, by how many our rule declares lost by it: so many, or where there are none a refusal
abbrev pub Expired : ℕ → Outcome ℕ → Type 0
Expired zero a = is_done a ≡ false
Expired (suc c) a = a ≡ done (suc c)

-- until the secondary has built a frame with Final each expiry is answered so, whatever its mark; where there is something to declare 14 never stands
-- in the way
abbrev pub ExpiriesAnswered : ℕ → ℕ → World → Type 0
ExpiriesAnswered L first w =
    had_final w.built ≡ false → (n : ℕ)
    → Expired (length (expiry w.fates (mark_of L first n w.fates)).lost - length w.fates.lost) (K.expire w.keeper n).answer

-- the world with every frame built counted as delivered; neither end is moved
abbrev pub with_all_there : World → World
with_all_there w = w with_delivered length w.built

-- all is said: every packet declared lost stands in a frame built; and every packet that is confirmed, and whose every predecessor is confirmed or
-- declared lost, is one that the master will have freed once it has the frames built
pub record AllSaid (L first : ℕ) (w : World) : Type 0 where
  pub losses : in_frames L w.built ≡ map (number_of L first) w.fates.lost
  pub confirms : (i : ℕ) → In i w.confirmed → ((j : ℕ) → j < i → In j w.confirmed ⊎ In j w.fates.lost) → Deserved L (with_all_there w) i

-- whether there is anything to say (document 02, Eight) is answered no exactly if all is said, and else yes; or 9, once the secondary has built
-- a frame with Final
abbrev pub AnythingAnswered : ℕ → ℕ → World → Type 0
AnythingAnswered L first w =
    ((had_final w.built ≡ true) × (K.anything w.keeper ≡ refused 9))
    ⊎ ((had_final w.built ≡ false) × AllSaid L first w × (K.anything w.keeper ≡ done false))
    ⊎ ((had_final w.built ≡ false) × (AllSaid L first w → ⊥) × (K.anything w.keeper ≡ done true))

-- "Final closes this end": the secondary is closed exactly if it has built a frame with Final, and the master exactly if it has accepted one
pub record FinalCloses (secondary_closed master_closed : Bool) (built : List Built) (delivered : ℕ) : Type 0 where
  pub secondary : secondary_closed ≡ had_final built
  pub master : master_closed ≡ had_final (take delivered built)

-- what holds of a world
pub record Kept (L first : ℕ) (w : World) : Type 0 where
  pub all_reported : AllReported L first w
  pub accepted : Accepts w (in_flight w)
  pub freed_exactly : FreedExactly L w
  pub copies_answered : CopiesAnswered L first w
  pub expiries_answered : ExpiriesAnswered L first w
  pub final_closes : FinalCloses w.keeper.closed w.ledger.closed w.built w.delivered

-- ---- the statement

-- from both ends opened alike, over any list of events each of which is allowed when it happens, all of it holds
abbrev pub Demand3 : Type 0
Demand3 =
    (L first f : ℕ) (w : World) → OpenedAlike L first f w → (es : List Event) → AllAllowed L first w es
    → Kept L first (after L first w es)

-- and so does what is asked, whether there is anything to say
abbrev pub AnythingKept : Type 0
AnythingKept =
    (L first f : ℕ) (w : World) → OpenedAlike L first f w → (es : List Event) → AllAllowed L first w es
    → AnythingAnswered L first (after L first w es)
