-- Known octets: those of an output that grows twice, and those of an input that is read twice.
-- Assumes nothing.
use Rattle.std.proofs.Common.{ℕ, List, [], ◌++◌, sym, refl, ap, ◌∙◌, append_assoc, append-nil}
use Rattle.std.specs.Prelude.{Option, None, Some}
use Rattle.std.specs.Io.KnownBytes.{Appends, Consumes}

-- an output grows twice
pub appends_then : (a b c : Option (List ℕ)) (xs ys : List ℕ) → Appends a b xs → Appends b c ys → Appends a c (xs ++ ys)
appends_then None b c xs ys f g = tt
appends_then (Some x) None c xs ys f g = elim f [ ]
appends_then (Some x) (Some y) None xs ys f g = g
appends_then (Some x) (Some y) (Some z) xs ys f g = g ∙ ap (λ (l : List ℕ). l ++ ys) f ∙ append_assoc x xs ys

-- an input is read twice
pub consumes_then : (a b c : Option (List ℕ)) (xs ys : List ℕ) → Consumes a b xs → Consumes b c ys → Consumes a c (xs ++ ys)
consumes_then None b c xs ys f g = tt
consumes_then (Some x) None c xs ys f g = elim f [ ]
consumes_then (Some x) (Some y) None xs ys f g = g
consumes_then (Some x) (Some y) (Some z) xs ys f g = f ∙ ap (λ (l : List ℕ). xs ++ l) g ∙ sym (append_assoc xs ys z)

-- and neither at all
pub appends_none : (a : Option (List ℕ)) → Appends a a []
appends_none None = tt
appends_none (Some x) = sym (append-nil x)

pub consumes_none : (a : Option (List ℕ)) → Consumes a a []
consumes_none None = tt
consumes_none (Some x) = refl
