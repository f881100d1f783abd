-- The answers piece by piece: an input that is fed in blocks of any size, and an output of limited room that is written out in
-- between. proofs/Blocks.antt proves that what is said so is what is said to the whole input (`CallsAnswer`), of every program whose lines are told by
-- what is held of them.
-- Assumes nothing.
use Rattle.std.specs.Prelude.{Bool, not, ◌≡◌, List, [], ◌∷◌, ◌++◌, ℕ, suc, ◌+◌, ◌-◌, ◌≤◌, ◌<◌, leb, eqb, length, take, drop, if◌then◌else◌}
use Rattle.std.proofs.lemmas.List.Edits.{sets}
use Rattle.lister_text.specs.Texts.{line_feed}
use Rattle.lister_text.specs.Outputs.{HasRoom, Lays}
use Rattle.lister_text.specs.declared.Output.{Output}
use Rattle.program_lines.specs.declared.Line.{Line}
use Rattle.program_lines.specs.Lines.{Answering, lines_of, answers}

-- the most octets that are held of an unfinished line: one more shows that it is too long
abbrev pub most_held : {S : Type 0} → Answering S → ℕ
most_held p = suc p.most_line

-- what is held of an unfinished line
abbrev pub kept : {S : Type 0} → Answering S → List ℕ → List ℕ
kept p l = take (most_held p) l

-- what is held tells the state that a line leaves, and its answer
pub record FrontTells {S : Type 0} (p : Answering S) : Type 0 where
  pub next : (s : S) (l : List ℕ) → p.next s (kept p l) ≡ p.next s l
  pub answer : (s : S) (l : List ℕ) → p.answer s (kept p l) ≡ p.answer s l

-- an output of that room has room for any answer
abbrev pub room_for : {S : Type 0} → Answering S → ℕ → Bool
room_for p room = leb p.most_text room

-- what feeding octets leaves: the answers, the state, what is held of the unfinished line, and the octets that were not taken
pub record Feeding (S : Type 0) : Type 0 where
  pub said : List ℕ
  pub state : S
  pub line : List ℕ
  pub rest : List ℕ

-- an answer before others
abbrev pub saying : {S : Type 0} → List ℕ → Feeding S → Feeding S
saying t f = record { said = t ++ f.said; state = f.state; line = f.line; rest = f.rest }

-- the answer to a last line without its line feed: none if it is empty
abbrev pub last_of : {S : Type 0} → Answering S → S → List ℕ → List ℕ
last_of p s [] = []
last_of p s (c ∷ cs) = p.answer s (c ∷ cs)

-- the state that such a line leaves
abbrev pub last_state : {S : Type 0} → Answering S → S → List ℕ → S
last_state p s [] = s
last_state p s (c ∷ cs) = p.next s (c ∷ cs)

-- octets fed one after another behind an unfinished line, while the output has room for any answer
abbrev pub feeding : {S : Type 0} → Answering S → ℕ → S → List ℕ → List ℕ → Feeding S
feeding p room s line [] = record { said = []; state = s; line = line; rest = [] }
feeding p room s line (c ∷ cs) =
    if not (room_for p room) then record { said = []; state = s; line = line; rest = c ∷ cs } else
    (if eqb c line_feed then saying (p.answer s line) (feeding p (room - length (p.answer s line)) (p.next s line) [] cs) else
    feeding p room s (kept p (line ++ (c ∷ []))) cs)

-- all that is said to octets behind an unfinished line without a limit of room, the last line's answer included
abbrev pub told : {S : Type 0} → Answering S → S → List ℕ → List ℕ → List ℕ
told p s line [] = last_of p s line
told p s line (c ∷ cs) = if eqb c line_feed then p.answer s line ++ told p (p.next s line) [] cs else told p s (kept p (line ++ (c ∷ []))) cs

-- an input is fed: with an unfinished line before it, call after call takes of it what it takes, each from a block of any size
-- at its front and into an output of any room; what was said, and the state and the unfinished line at its end
pub data Calls {S : Type 0} (p : Answering S) : S → List ℕ → List ℕ → List ℕ → S → List ℕ → Type 0 where
  none : {s : S} {line : List ℕ} → Calls p s line [] [] s line
  call : (room : ℕ) (s : S) (line block later : List ℕ) {t : List ℕ} {s' : S} {last : List ℕ}
      → Calls p (feeding p room s line block).state (feeding p room s line block).line ((feeding p room s line block).rest ++ later) t s' last
      → Calls p s line (block ++ later) ((feeding p room s line block).said ++ t) s' last

-- The statement: whatever the blocks and the rooms were, what was said and the last line's answer are the answers to the input's lines, one
-- after another, from any state on.
abbrev pub CallsAnswer : {S : Type 0} → Answering S → Type 0
CallsAnswer {S} p = (s s' : S) (input t last : List ℕ) → Calls p s [] input t s' last → t ++ last_of p s' last ≡ answers p s (lines_of input)

-- what a call leaves: how many octets it took, the unfinished line and its length, the state, the place behind the answers, and the output
pub record Left (S : Type 0) : Type 0 where
  pub taken : ℕ
  pub held : ℕ
  pub line : List ℕ
  pub state : S
  pub at : ℕ
  pub out : List ℕ

-- what a feeding of n octets leaves, its answers laid at a place of the output
abbrev pub leaving : {S : Type 0} → ℕ → List ℕ → ℕ → Feeding S → Left S
leaving n out at f = record {
  taken = n - length f.rest;
  held = length f.line;
  line = f.line;
  state = f.state;
  at = at + length f.said;
  out = sets out at f.said;
}

-- more of a line is held in a buffer of m octets, up to the buffer's end
abbrev pub Holds : ℕ → List ℕ → List ℕ → List ℕ → Type 0
Holds m held part held' = held' ≡ take m (held ++ part)

-- ---- a program as the code has it

-- what is held of a line tells what a program answers, and for any answer a program's output has room
pub record Laws {S : Type 0} (p : Answering S) (held most : ℕ) : Type 0 where
  pub few : most_held p ≡ held
  pub room : p.most_text ≡ most
  pub some : 0 < most
  pub fits : most ≤ 65536
  pub tells : FrontTells p

-- a line was answered on an output with room for any answer, which it stays within
pub record Said {S : Type 0} (p : Answering S) (s : S) (line : List ℕ) (out : Output) (s' : S) (out' : Output) : Type 0 where
  pub loan : out'.octets.ghost_name ≡ out.octets.ghost_name
  pub lays : HasRoom out p.most_text → Lays out (p.answer s line) out'
  pub next : HasRoom out p.most_text → s' ≡ p.next s line
  pub within : out.at ≤ length out.octets.now → out'.at ≤ length out'.octets.now

-- what the code leaves that took so many octets: the unfinished line, the state and the output
abbrev pub left_by : {S : Type 0} {N : ℕ} → ℕ → Line N → S → Output → Left S
left_by taken line s out = record { taken = taken; held = line.held; line = take line.held line.octets; state = s; at = out.at; out = out.octets.now }

-- what is left where octets, the last of a block of n, are fed behind an unfinished line
abbrev pub rest_into : {S : Type 0} {N : ℕ} → Answering S → ℕ → S → Line N → List ℕ → Output → Left S
rest_into p n s line octets out = leaving n out.octets.now out.at (feeding p (length out.octets.now - out.at) s (take line.held line.octets) octets)

-- a block was fed behind an unfinished line
pub record Fed {S : Type 0} {N : ℕ} (p : Answering S) (s : S) (line : Line N) (block : List ℕ) (out : Output) (taken : ℕ) (s' : S) (line' : Line N) (out' : Output) : Type 0 where
  pub loan : out'.octets.ghost_name ≡ out.octets.ghost_name
  pub left : left_by taken line' s' out' ≡ rest_into p (length block) s line block out
  pub within : out.at ≤ length out.octets.now → out'.at ≤ length out'.octets.now

-- feeding a block is feeding the part that the code took of it, and then the rest
pub record Onward {S : Type 0} {N : ℕ} (p : Answering S) (s : S) (line : Line N) (block : List ℕ) (out : Output) (taken : ℕ) (s' : S) (line' : Line N) (out' : Output) : Type 0 where
  pub loan : out'.octets.ghost_name ≡ out.octets.ghost_name
  pub same : (n : ℕ) → rest_into p n s line block out ≡ rest_into p n s' line' (drop taken block) out'
  pub some : 0 < taken
  pub part : taken ≤ length block
  pub few : line'.held ≤ N
  pub within : line'.held ≤ length line'.octets
  pub inside : out.at ≤ length out.octets.now → out'.at ≤ length out'.octets.now

-- a last line without its line feed was answered where there was room for any answer; an empty one is none
pub record LastAnswered {S : Type 0} (p : Answering S) (s : S) (line : List ℕ) (out : Output) (s' : S) (out' : Output) : Type 0 where
  pub lays : Lays out (if room_for p (length out.octets.now - out.at) then last_of p s line else []) out'
  pub next : s' ≡ (if room_for p (length out.octets.now - out.at) then last_state p s line else s)
  pub within : out.at ≤ length out.octets.now → out'.at ≤ length out'.octets.now

-- and nothing is held of it then
pub record Finished {S : Type 0} (p : Answering S) (s : S) (line : List ℕ) (out : Output) (s' : S) (line' : List ℕ) (out' : Output) : Type 0 where
  pub lays : Lays out (if room_for p (length out.octets.now - out.at) then last_of p s line else []) out'
  pub next : s' ≡ (if room_for p (length out.octets.now - out.at) then last_state p s line else s)
  pub left : line' ≡ (if room_for p (length out.octets.now - out.at) then [] else line)
  pub within : out.at ≤ length out.octets.now → out'.at ≤ length out'.octets.now
