-- `line_end`: the first octet that is a line feed. Assumes nothing.
use Rattle.std.proofs.Common.{◌≡◌, ℕ, suc, ◌+◌, ◌<◌, Bool, true, eqb, ltb, cond, Some, None, List, [], ◌∷◌, length, get_or, take, take_all, refl, sym, ap, ◌∙◌, arith, ltb-true, ltb-false, eqb-true, rules, tests}
use Rattle.std.specs.List.{position_or_len}
use Rattle.std.proofs.lemmas.Iterator.{YieldsList-from_slice}
use Rattle.std.proofs.lemmas.Iterator.Search.{position_from_yields_List}
use Rattle.lister_text.specs.Texts.{line_feed, unended, LineEnd}
use Rattle.lister_text.proofs.Cases.{true_or}
use Rattle.lister_text.proofs.line_end.Goals as goal

-- an octet ends a line
abbrev feed : ℕ → Bool
feed c = eqb c line_feed

-- the place of the first that does, or the block's length
abbrev place : List ℕ → ℕ
place = position_or_len feed

one_more : (n : ℕ) → 1 + n ≡ suc n
one_more n = omega arith

-- before it there is none
before : (block : List ℕ) → unended (take (place block) block) ≡ true
before [] = refl
before (c ∷ cs) = true_or (feed c) (λ e. rw e refl) (λ e. rw (e, one_more (place cs), e) (before cs))

-- and there is one
there : (block : List ℕ) → place block < length block → get_or block (place block) 0 ≡ line_feed
there [] h = absurd (omega arith)
there (c ∷ cs) h =
    true_or (feed c)
    (λ e. rw e (eqb-true c line_feed e))
    (λ e. rw (e, one_more (place cs)) (there cs (let inside : 1 + place cs < suc (length cs) = rw e at h in omega arith)))

found : (block : List ℕ) → LineEnd block (cond (ltb (place block) (length block)) (Some (place block)) None)
found block =
    true_or (ltb (place block) (length block))
    (λ e. rw e (record { within = ltb-true _ _ e; before = before block; there = there block (ltb-true _ _ e) }))
    (λ e. rw e (ap unended (sym (take_all (place block) block (ltb-false _ _ e))) ∙ before block))

pub returns : goal.returns
returns c =
    let block = c.args.block.now in
    rw (position_from_yields_List feed _ _ c.position.result c.position.ensures.ran (YieldsList-from_slice block c.iter.ensures.rest) (λ x b q k. search (rules, tests))) (found block)
