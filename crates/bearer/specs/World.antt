-- Both ends of a bearer joined over a backhaul: what may happen, and what each event does to both ends and to the account of it that
-- demand 3 speaks of (Demand3.antt). The two ends are the very machines that the engines' contracts cite (Keeper.antt, Ledger.antt), at
-- document 01's constants; the written rule is Rule.antt, and Packets.antt says which packet a mark names.
-- Assumes nothing.
use Rattle.std.specs.Prelude.{Bool, false, List, [], ◌∷◌, ◌++◌, ℕ, suc, max, eqb, length, get_or, take, drop, if◌then◌else◌}
use Rattle.basics.specs.Basics.{◌or◌, Outcome, done, refused, is_done}
use Rattle.frame_layout.specs.Frames.{Reading, data_of, status_of, refuse, read_frame}
use Rattle.bearer.specs.Bearer.{After}
use Rattle.bearer.specs.Keeper as K
use Rattle.bearer.specs.Ledger as G
use Rattle.bearer.specs.Rule.{Fates, all_open, is_in, arrival, expiry}
use Rattle.bearer.specs.Packets.{number_of, mark_of, packets}

-- ---- the calls and the backhaul

-- what may happen next; to ask the master for room changes neither end, and so is no event
pub data Event : Type 0 where
  -- the master is asked to send a PDU: its PDCP number and its size
  send : ℕ → ℕ → Event
  -- a copy of a packet arrives at the secondary: the first one, or a repeat, at any time
  copy : ℕ → Event
  -- the secondary is handed numbers that are no packet's
  stray : ℕ → ℕ → Event
  -- the gaps of the secondary before a mark expire: any number at all
  expire : ℕ → Event
  -- a number is confirmed
  confirm : ℕ → Event
  -- the secondary is asked for a status: desired size, minimum size, Final, and the buffer lent
  status : ℕ → ℕ → Bool → List ℕ → Event
  -- the next status frame that was built reaches the master
  deliver : Event
  -- some other octets reach the master
  other : List ℕ → Event
  -- an entry is taken from the master
  take_one : Event
  -- either end is opened again: L, the first number and the first PDCP number
  open_secondary : ℕ → ℕ → ℕ → Event
  open_master : ℕ → ℕ → ℕ → Event

-- a status frame that was built: its octets, and the packets that were confirmed by then
pub record Built : Type 0 where
  pub frame : List ℕ
  pub confirmed : List ℕ

-- both ends, and what happened so far. An entry of the master's ledger is labelled with its packet's index.
pub record World : Type 0 where
  -- the secondary, and the master
  pub keeper : K.Keeper
  pub ledger : G.Ledger ℕ
  -- the PDCP numbers of the accepted sends: packet i is the i-th of them, so "a PDU sent again counts as another packet" (document 02, Three)
  pub sent : List ℕ
  -- what our written rule says became of each packet
  pub fates : Fates
  -- the packets that were confirmed
  pub confirmed : List ℕ
  -- the status frames built, and how many of them have reached the master
  pub built : List Built
  pub delivered : ℕ
  -- the packets that the master freed
  pub freed : List ℕ

-- two ends, and nothing has happened yet
abbrev pub fresh_world : K.Keeper → G.Ledger ℕ → World
fresh_world keeper ledger = record {
  keeper = keeper;
  ledger = ledger;
  sent = [];
  fates = all_open;
  confirmed = [];
  built = [];
  delivered = 0;
  freed = [];
}

-- a world whose parts are put anew; beside a fresh world, the one place that says every field
abbrev pub changed : K.Keeper → G.Ledger ℕ → List ℕ → Fates → List ℕ → List Built → ℕ → List ℕ → World
changed keeper ledger sent fates confirmed built delivered freed = record {
  keeper = keeper;
  ledger = ledger;
  sent = sent;
  fates = fates;
  confirmed = confirmed;
  built = built;
  delivered = delivered;
  freed = freed;
}

-- ... with another secondary
infixl 20 ◌with_keeper◌
abbrev pub ◌with_keeper◌ : World → K.Keeper → World
◌with_keeper◌ w keeper = changed keeper w.ledger w.sent w.fates w.confirmed w.built w.delivered w.freed

-- ... with another master
infixl 20 ◌with_ledger◌
abbrev pub ◌with_ledger◌ : World → G.Ledger ℕ → World
◌with_ledger◌ w ledger = changed w.keeper ledger w.sent w.fates w.confirmed w.built w.delivered w.freed

-- ... with other packets sent
infixl 20 ◌with_sent◌
abbrev pub ◌with_sent◌ : World → List ℕ → World
◌with_sent◌ w sent = changed w.keeper w.ledger sent w.fates w.confirmed w.built w.delivered w.freed

-- ... with other fates of the packets
infixl 20 ◌with_fates◌
abbrev pub ◌with_fates◌ : World → Fates → World
◌with_fates◌ w fates = changed w.keeper w.ledger w.sent fates w.confirmed w.built w.delivered w.freed

-- ... with other packets confirmed
infixl 20 ◌with_confirmed◌
abbrev pub ◌with_confirmed◌ : World → List ℕ → World
◌with_confirmed◌ w confirmed = changed w.keeper w.ledger w.sent w.fates confirmed w.built w.delivered w.freed

-- ... with other frames built
infixl 20 ◌with_built◌
abbrev pub ◌with_built◌ : World → List Built → World
◌with_built◌ w built = changed w.keeper w.ledger w.sent w.fates w.confirmed built w.delivered w.freed

-- ... with another count of frames delivered
infixl 20 ◌with_delivered◌
abbrev pub ◌with_delivered◌ : World → ℕ → World
◌with_delivered◌ w delivered = changed w.keeper w.ledger w.sent w.fates w.confirmed w.built delivered w.freed

-- ... with other packets freed
infixl 20 ◌with_freed◌
abbrev pub ◌with_freed◌ : World → List ℕ → World
◌with_freed◌ w freed = changed w.keeper w.ledger w.sent w.fates w.confirmed w.built w.delivered freed

-- those of a list that are not in another
abbrev pub without : List ℕ → List ℕ → List ℕ
without [] gone = []
without (x ∷ xs) gone = if is_in x gone then without xs gone else x ∷ without xs gone

-- the packet that a number confirms: of those received that bear it, the latest sent
abbrev pub latest : ℕ → ℕ → ℕ → List ℕ → ℕ
latest L first n [] = 0
latest L first n (i ∷ is) = max (if eqb (number_of L first i) n then i else 0) (latest L first n is)

-- the frames built that have not reached the master yet, in the order built
abbrev pub in_flight : World → List Built
in_flight w = drop w.delivered w.built

-- Final in a frame, as anyone reads it
abbrev pub final_read : Reading → Bool
final_read (data_of long n) = false
final_read (status_of s) = s.final
final_read (refuse n) = false

-- one of frames had Final
abbrev pub had_final : List Built → Bool
had_final [] = false
had_final (b ∷ bs) = final_read (read_frame b.frame) or had_final bs

-- ---- what each event does

-- the secondary after numbers reached it or a gap expired, and what our rule says then; once it has built a frame with Final nothing is declared
-- any more
abbrev pub at_secondary : World → K.Keeper → Fates → World
at_secondary w k r = w with_keeper k with_fates (if had_final w.built then w.fates else r)

-- an accepted send is the next packet
abbrev pub world_after_send : World → ℕ → After (G.Ledger ℕ) ℕ → World
world_after_send w p a = w with_ledger a.state with_sent (if is_done a.answer then w.sent ++ (p ∷ []) else w.sent)

-- an accepted confirm confirms the packet that bears the number
abbrev pub after_confirm : World → ℕ → After K.Keeper Unit → World
after_confirm w i a = w with_keeper a.state with_confirmed (if is_done a.answer then i ∷ w.confirmed else w.confirmed)

-- an accepted status builds a frame: as many octets of the buffer as the answer says
abbrev pub built_by : Outcome ℕ → List ℕ → List ℕ → List Built
built_by (done n) d confirmed = record { frame = take n d; confirmed = confirmed } ∷ []
built_by (refused n) d confirmed = []

-- an accepted status has built one more frame
abbrev pub after_status : World → K.Reported → World
after_status w a = w with_keeper a.state with_built w.built ++ built_by a.answer a.buffer w.confirmed

-- octets at the master; what leaves its ledger by them is freed
abbrev pub at_master : World → ℕ → G.Ledger ℕ → World
at_master w n l = w with_ledger l with_delivered n with_freed w.freed ++ without (packets w.ledger.entries) (packets l.entries)

-- the next frame in flight, if there is one
abbrev pub after_delivery : World → List Built → World
after_delivery w [] = w
after_delivery w (b ∷ bs) = at_master w (suc w.delivered) (G.accept w.ledger b.frame).state

-- what is taken leaves the ledger and is not freed
abbrev pub world_after_take : World → G.Ledger ℕ → World
world_after_take w l = w with_ledger l

-- the end that an open leaves: the fresh one, or where it is refused the one that was there
abbrev pub opened_or : {S : Type 0} → S → Outcome S → S
opened_or s (done fresh) = fresh
opened_or s (refused n) = s

-- the world after an event, on a bearer with this L and this first number
abbrev pub step : ℕ → ℕ → World → Event → World
step L first w (send p z) = world_after_send w p (G.send w.ledger p z (length w.sent))
step L first w (copy i) = at_secondary w (K.arrive w.keeper (number_of L first i) (get_or w.sent i 0)).state (arrival w.fates i)
step L first w (stray n p) = at_secondary w (K.arrive w.keeper n p).state w.fates
step L first w (expire n) = at_secondary w (K.expire w.keeper n).state (expiry w.fates (mark_of L first n w.fates))
step L first w (confirm n) = after_confirm w (latest L first n w.fates.received) (K.confirm w.keeper n)
step L first w (status d m final buffer) = after_status w (K.status w.keeper d m final buffer)
step L first w deliver = after_delivery w (in_flight w)
step L first w (other o) = at_master w w.delivered (G.accept w.ledger o).state
step L first w take_one = world_after_take w (G.take_oldest w.ledger).state
step L first w (open_secondary bits n f) = w with_keeper opened_or w.keeper (K.open_keeper bits n f)
step L first w (open_master bits n f) = w with_ledger opened_or w.ledger (G.open_ledger bits n f)
