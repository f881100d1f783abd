-- What the steps of a call come to: the words in which the private functions' contracts cite the machine.
-- Assumes nothing.
use Rattle.std.specs.Prelude.{ℕ, not, ltb, if◌then◌else◌}
use Rattle.basics.specs.Basics.{Outcome, done, refused}
use Rattle.circle.specs.Lengths.{pdcps}
use Rattle.bearer.specs.Ledger.{Ledger, is_size, is_in_order}

-- what is judged of a send before there is room for it (`send` of bearer's Ledger.antt, up to 35)
abbrev pub judged : Ledger Unit → ℕ → ℕ → Outcome Unit
judged l p z =
    if l.closed then refused 9 else
    (if not (ltb p (pdcps l.bits)) then refused 10 else
    (if not (is_size z) then refused 39 else
    (if not (is_in_order l p) then refused 35 else
    done tt)))
