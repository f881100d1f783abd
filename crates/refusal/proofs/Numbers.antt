-- A number tells its refusal.
use Rattle.std.proofs.Common.{◌≡◌, refl}
use Rattle.std.specs.Prelude.{ℕ, eqb, if◌then◌else◌}
use Rattle.refusal.specs.declared.Refusal.{Refusal}
use Rattle.refusal.specs.declared.Refusal.TheVariants.{Length, Reserved, FixedPart, Highest, Count, List, PdcpLength, Closed, Number, Late, Again, Span, Runs, Records, NoRecord, NoGap, Opposite, Mark, Room, FinalRuns, OtherType, HighestBits, NotWaiting, NoSuchHighest, PdcpOrder, Entries, Nothing, Size}
use Rattle.refusal.specs.Numbers.{number_of}

-- the refusal of a number; of a number that is none's, the last
pub numbered : ℕ → Refusal
numbered n =
    if eqb n 1 then Length else (
    if eqb n 2 then Reserved else (
    if eqb n 3 then FixedPart else (
    if eqb n 4 then Highest else (
    if eqb n 5 then Count else (
    if eqb n 6 then List else (
    if eqb n 7 then PdcpLength else (
    if eqb n 9 then Closed else (
    if eqb n 10 then Number else (
    if eqb n 11 then Late else (
    if eqb n 12 then Again else (
    if eqb n 13 then Span else (
    if eqb n 14 then Runs else (
    if eqb n 15 then Records else (
    if eqb n 16 then NoRecord else (
    if eqb n 17 then NoGap else (
    if eqb n 18 then Opposite else (
    if eqb n 19 then Mark else (
    if eqb n 20 then Room else (
    if eqb n 22 then FinalRuns else (
    if eqb n 31 then OtherType else (
    if eqb n 32 then HighestBits else (
    if eqb n 33 then NotWaiting else (
    if eqb n 34 then NoSuchHighest else (
    if eqb n 35 then PdcpOrder else (
    if eqb n 36 then Entries else (
    if eqb n 38 then Nothing else (
    Size)))))))))))))))))))))))))))

-- it is the one whose number that is
pub told : (r : Refusal) → numbered (number_of r) ≡ r
unfolding numbered
told Length = refl
told Reserved = refl
told FixedPart = refl
told Highest = refl
told Count = refl
told List = refl
told PdcpLength = refl
told Closed = refl
told Number = refl
told Late = refl
told Again = refl
told Span = refl
told Runs = refl
told Records = refl
told NoRecord = refl
told NoGap = refl
told Opposite = refl
told Mark = refl
told Room = refl
told FinalRuns = refl
told OtherType = refl
told HighestBits = refl
told NotWaiting = refl
told NoSuchHighest = refl
told PdcpOrder = refl
told Entries = refl
told Nothing = refl
told Size = refl
