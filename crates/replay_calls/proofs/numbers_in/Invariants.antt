-- `numbers_in`: each turn reads one more field; those read and those still to be read are all. Assumes nothing.
use Rattle.std.proofs.Common.{◌≡◌, ◌≤◌, length, take}
use Rattle.replay_calls.specs.Calls.{tabbed_fields, numbers_of}
use Rattle.replay_calls.proofs.Several.{following}
use Rattle.replay_calls.proofs.numbers_in.Given as goal

abbrev pub invariant-loop-rest : goal.invariant-loop-rest
invariant-loop-rest l = record {
  few : l.count ≤ 4;
  array : length l.values ≡ 4;
  read : following (take l.count l.values) (numbers_of (tabbed_fields l.rest)) ≡ numbers_of (tabbed_fields l.fields);
}

abbrev pub decreases-loop-rest : goal.decreases-loop-rest
decreases-loop-rest l = length l.rest
