-- `number_in`: what is left to read says the rest of the number. Assumes nothing.
use Rattle.std.proofs.Common.{◌≡◌, ◌≤◌, drop}
use Rattle.basics.specs.Basics.{all}
use Rattle.replay_calls.specs.Calls.{is_decimal, value_of}
use Rattle.replay_calls.proofs.number_in.Given as goal

abbrev pub invariant-loop-c : goal.invariant-loop-c
invariant-loop-c l = record {
  fits : l.value ≤ 4294967295;
  digits : all is_decimal (drop l.c-index l.field) ≡ all is_decimal l.field;
  value : value_of l.value (drop l.c-index l.field) ≡ value_of 0 l.field;
}
