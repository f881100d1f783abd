-- Parts of an answer, as they are laid one after another.
-- Assumes nothing.
use Rattle.std.specs.Prelude.{List, [], ◌∷◌, ◌++◌, ℕ}
use Rattle.lister_text.specs.Texts.{tab, decimal}

-- a number with a mark behind it
abbrev pub marked : ℕ → ℕ → List ℕ
marked n mark = decimal n ++ (mark ∷ [])

-- numbers, each with a tab behind it
abbrev pub tabbed : List ℕ → List ℕ
tabbed [] = []
tabbed (n ∷ ns) = marked n tab ++ tabbed ns
