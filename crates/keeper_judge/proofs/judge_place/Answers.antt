-- `judge_place`: the tests are the machine's, in its order; what an accepted arrival changes is what the machine changes. Assumes nothing.
use Rattle.std.proofs.Common.{◌≡◌, false, ◌+◌, ◌<◌, refl, sym, ◌∙◌, arith}
use Rattle.std.proofs.lemmas.Result.{err_from_is_err_and}
use Rattle.circle.specs.Lengths.{modulus, modulus_of, half}
use Rattle.circle.specs.Circle.{forward}
use Rattle.circle.proofs.Forms.{modulus_bounds, distance_below}
use Rattle.bearer.specs.Losses.{ahead_of}
use Rattle.bearer.specs.Keeper.{place_of, has_record, floor, limit_of}
use Rattle.bearer.proofs.Lists.Mapped.{front_within}
use Rattle.keeper_state.specs.Lent.{state_shown}
use Rattle.keeper_state.proofs.Showing.{count_shown}
use Rattle.keeper_judge.proofs.Arriving.{again, span, many_runs, many_records, accepted, place_shown, far_shown, bears_shown, floor_shown, half_shown, arrived_shown, reaches_shown}
use Rattle.keeper_judge.proofs.judge_place.Goals as goal
use Rattle.keeper_judge.proofs.judge_place.Goals.{After-has_record, After-half, After-saturating_sub}

-- ---- what is known there

-- the place is the machine's
place_is : (c : After-has_record) → c.place_of-place.result ≡ place_of (state_shown c.args.held.now) c.args.number
place_is c = c.place_of-place.ensures ∙ place_shown c.args.held.now c.from-base.result c.from-base.ensures c.args.number

-- how far the number is forward from base
far : (c : After-half) → let k = state_shown c.args.held.now in c.distance-distance.result ≡ forward (modulus_of k.bits) k.base c.args.number
far c = c.distance-distance.ensures ∙ far_shown c.args.held.now c.from-base.result c.from-base.ensures c.args.number

-- the number is not held
new : (c : After-half) → has_record (state_shown c.args.held.now) c.args.number c.place_of-place.result ≡ false
new c = sym (c.has_record.ensures ∙ bears_shown c.args.held.now c.from-base.result c.from-base.ensures c.args.number c.place_of-place.result) ∙ c.if-has_record.false

-- half the circle, and the floor
half_is : (c : After-half) → c.half.result ≡ half (state_shown c.args.held.now).bits
half_is c = c.half.ensures ∙ half_shown c.args.held.now c.from-base.result c.from-base.ensures

floor_is : (c : After-half) → c.max-floor.result ≡ floor (state_shown c.args.held.now)
floor_is c = c.max-floor.ensures ∙ rw (c.first_behind.ensures, c.first_behind-2.ensures) (floor_shown c.args.held.now c.from-base.result c.from-base.ensures)

-- the limit is the machine's
limit_is : (c : After-saturating_sub) → c.saturating_sub.result ≡ limit_of c.distance-distance.result
limit_is c = omega (arith, c.saturating_sub.ensures)

-- it lies within the span
near : (c : After-half) → c.max-floor.result + c.distance-distance.result < c.half.result → let k = state_shown c.args.held.now in floor k + c.distance-distance.result < half k.bits
near c h = omega (arith, half_is c, floor_is c, h)

-- ---- the goals

pub has_record-requires : goal.has_record-requires
has_record-requires c =
    let b = c.from-base.result in
    omega (arith, c.place_of-place.ensures, front_within (ahead_of (modulus b.long) c.args.number) c.args.held.now.numbers.now)

pub returns-then-has_record : goal.returns-then-has_record
returns-then-has_record c =
    let h = c.args.held.now in
    let k = (goal.at.returns-then-has_record c).After-has_record in
    λ pdcp.
    again (state_shown h) c.args.number pdcp _ c.place_of-place.result (place_is k) refl
    (sym (c.has_record.ensures ∙ bears_shown h c.from-base.result c.from-base.ensures c.args.number c.place_of-place.result) ∙ c.if-has_record.true)

pub returns-then-half-floor : goal.returns-then-half-floor
returns-then-half-floor c =
    let h = c.args.held.now in
    let p = (goal.at.returns-then-half-floor c).After-has_record in
    let k = (goal.at.returns-then-half-floor c).After-half in
    λ pdcp. span (state_shown h) c.args.number pdcp c.distance-distance.result c.place_of-place.result (place_is p) (far k) (new k) (omega (arith, half_is k, floor_is k, c.if-half-floor.true))

pub returns-in_err-lost : goal.returns-in_err-lost
returns-in_err-lost c =
    let h = state_shown c.args.held.now in
    let p = (goal.at.returns-in_err-lost c).After-has_record in
    let k = (goal.at.returns-in_err-lost c).After-half in
    let l = (goal.at.returns-in_err-lost c).After-saturating_sub in
    let err = err_from_is_err_and c.from_residual.result c.from_residual.ensures.1 in
    λ pdcp.
    rw (err.1, err.2, c.in_err-lost.ensures.0)
    (many_runs h c.args.number pdcp c.distance-distance.result c.place_of-place.result (place_is p) (far k) (new k) (near k c.if-half-floor.false) (rw (limit_is l) at c.in_err-lost.ensures.1))

pub returns-then-held-ge-MOST_RECORDS : goal.returns-then-held-ge-MOST_RECORDS
returns-then-held-ge-MOST_RECORDS c =
    let h = state_shown c.args.held.now in
    let p = (goal.at.returns-then-held-ge-MOST_RECORDS c).After-has_record in
    let k = (goal.at.returns-then-held-ge-MOST_RECORDS c).After-half in
    let l = (goal.at.returns-then-held-ge-MOST_RECORDS c).After-saturating_sub in
    λ pdcp.
    many_records h c.args.number pdcp c.distance-distance.result c.place_of-place.result (place_is p) (far k) (new k) (near k c.if-half-floor.false)
    c.in_ok-lost.lost (c.in_ok-lost.ensures.0 ∙ limit_is l) c.in_ok-lost.ensures.1 (omega (arith, count_shown c.args.held.now, c.if-held-ge-MOST_RECORDS.true))

pub arrived_base-base-requires : goal.arrived_base-base-requires
arrived_base-base-requires c =
    let l = (goal.at.arrived_base-base-requires c).After-saturating_sub in
    let b = c.from-base.result in (
      omega (arith, c.place_of-place.ensures, front_within (ahead_of (modulus b.long) c.args.number) c.args.held.now.numbers.now),
      omega (arith, c.distance-distance.ensures, modulus_bounds b.long, distance_below b.long b.at c.args.number),
      c.in_ok-lost.ensures.0 ∙ limit_is l,
      reaches_shown c.args.held.now b c.from-base.ensures c.in_ok-lost.lost c.in_ok-lost.ensures.1,
    )

pub returns : goal.returns
returns c =
    let h = state_shown c.args.held.now in
    let p = (goal.at.returns c).After-has_record in
    let k = (goal.at.returns c).After-half in
    let l = (goal.at.returns c).After-saturating_sub in
    λ pdcp.
    accepted h c.args.number pdcp c.distance-distance.result c.place_of-place.result (place_is p) (far k) (new k) (near k c.if-half-floor.false)
    c.in_ok-lost.lost (c.in_ok-lost.ensures.0 ∙ limit_is l) c.in_ok-lost.ensures.1 (omega (arith, count_shown c.args.held.now, c.if-held-ge-MOST_RECORDS.false))
    c.arrived_base-base.result (c.arrived_base-base.ensures ∙ arrived_shown c.args.held.now c.from-base.result c.from-base.ensures c.place_of-place.result c.distance-distance.result)
