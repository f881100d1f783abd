-- A run, read by read and write by write.
-- Assumes nothing.
use Rattle.std.proofs.Common.{◌≡◌, ℕ, ◌+◌, ◌-◌, ◌^◌, ◌≤◌, ◌<◌, Bool, true, false, List, [], ◌++◌, length, take, drop, eqb, eqb-true, le-leb, sym, refl, ap, ◌∙◌, true≢false, append_assoc, append-nil, arith, length-append}
use mathlib.Core.Logic.{inl, inr}
use lib.Seq.{take_all, take_at, sets-eq, length-sets}
use Rattle.std.proofs.lemmas.List.{take-append-drop}
use Rattle.std.specs.Prelude.{Option, ◌⊎◌, Result, Ok, Err, is_ok, is_err}
use Rattle.std.specs.Io.KnownBytes.{Appends, Consumes, IsAtEnd}
use Rattle.basics.specs.Basics.{bit}
use Rattle.basics.specs.Laid.{Laid}
use Rattle.program_io.proofs.Known.{appends_then, appends_none, consumes_then, consumes_none}
use Rattle.lister_text.specs.declared.Output.{Output}
use Rattle.program_lines.specs.declared.Line.{Line}
use Rattle.program_lines.specs.Lines.{Answering}
use Rattle.program_lines.specs.Feeding as lines
use Rattle.program_lines.specs.Feeding.{Laws, FrontTells, Left, leaving, feeding, told, last_of}
use Rattle.program_lines.proofs.Feeds.{rest_end, takes_some}
use Rattle.program_lines.proofs.Blocks.{told_fed, told_answers}
use Rattle.program_run.specs.Running.{Telling, Answered, Going, Says, Ran}
use Rattle.lister_text.specs.Outputs.{Lays}

-- ---- what a call of feed and of finish comes to

-- an output has so much room
abbrev pub Roomy : Output → ℕ → Type 0
Roomy out most = out.at + most ≤ length out.octets.now

-- a place lies within an output
abbrev pub Within : Output → Type 0
Within out = out.at ≤ length out.octets.now

-- octets at the front of a block were taken and answered on an output: what was said, and what is said then to the rest, is what was to be said
pub record Fed (most : ℕ) (told told' : Telling) (block : List ℕ) (taken : ℕ) (out out' : Output) : Type 0 where
  pub said : List ℕ
  pub lays : Lays out said out'
  pub within : Within out → Within out'
  pub part : taken ≤ length block
  pub some : Roomy out most → 0 < length block → 0 < taken
  pub on : (later : List ℕ) → said ++ told' (drop taken block ++ later) ≡ told (block ++ later)

-- the answer to a last line was laid on an output with room for any
pub record Finished (most : ℕ) (told : Telling) (out out' : Output) : Type 0 where
  pub lays : Roomy out most → Lays out (told []) out'
  pub within : Within out → Within out'

-- octets laid at the front of an output stand at its front
pub front_laid : (d os : List ℕ) (at : ℕ) (e : List ℕ) → Laid d 0 os at e → at ≤ length d → take at e ≡ os
front_laid d os at e laid h =
    rw (laid.behind, laid.buffer)
    (ap (take (0 + length os)) (sets-eq os d 0 (omega (arith, laid.behind, h))) ∙ take_at os (drop (0 + length os) d) (0 + length os) (omega arith))

-- an error is not an `Ok`
pub err : {T E : Type 0} (r : Result T E) → is_err r ≡ true → is_ok r ≡ false
err (Ok x) h = absurd (true≢false (sym h))
err (Err e) h = refl

-- ---- what a program says, by what the code fed

module _ {S : Type 0} {N most : ℕ} (p : Answering S) (laws : Laws p N most) {s s' : S} where
  -- a block, or a part of it
  pub block_fed : {line line' : Line N} {block : List ℕ} {out out' : Output} {taken : ℕ} → lines.Fed p s line block out taken s' line' out'
      → Fed p.most_text (told p s (take line.held line.octets)) (told p s' (take line'.held line'.octets)) block taken out out'
  block_fed {line} {line'} {block} {out} {out'} {taken} k =
      let d = out.octets.now in
      let room = length d - out.at in
      let held = take line.held line.octets in
      let f = feeding p room s held block in
      let laid : Laid d out.at f.said out'.at out'.octets.now = record { behind = ap (λ (w : Left S). w.at) k.left; buffer = ap (λ (w : Left S). w.out) k.left } in
      let taken_is : taken ≡ length block - length f.rest = ap (λ (w : Left S). w.taken) k.left in
      let rest_is : drop taken block ≡ f.rest = ap (λ (n : ℕ). drop n block) taken_is ∙ rest_end p room s held block in
      let state_is : s' ≡ f.state = ap (λ (w : Left S). w.state) k.left in
      let line_is : take line'.held line'.octets ≡ f.line = ap (λ (w : Left S). w.line) k.left in
      record {
        said = f.said;
        lays = record { loan = k.loan; laid = laid };
        within = k.within;
        part = omega (arith, taken_is);
        some = λ roomy some. (takes_some p block held d s out.at k.left roomy some).0;
        on = λ later. rw (state_is, line_is, rest_is) (sym (told_fed p laws.tells room s held block later));
      }

  -- a last line
  pub last_finished : {line line' : List ℕ} {out out' : Output} → lines.Finished p s line out s' line' out' → Finished p.most_text (told p s line) out out'
  last_finished {line} {line'} {out} {out'} k =
      let d = out.octets.now in
      record {
        lays = λ roomy. rw (le-leb p.most_text (length d - out.at) (omega (arith, roomy))) at k.lays;
        within = k.within;
      }

-- ---- one block

-- before its first octet
pub begins : (o : Option (List ℕ)) (t : Telling) (octets : List ℕ) → Answered o o t octets true t octets
begins o t octets = record { written = []; writes = appends_none o; front = λ later. (t (octets ++ later), refl); on = λ e later. refl }

-- what is pending is fed, and as much of what is said as was taken is written
pub feeds : (o o' o'' : Option (List ℕ)) (t t' t'' : Telling) (octets pending rest said : List ℕ) (k : ℕ) (whole : Bool)
    → Answered o o' t octets true t' pending → ((later : List ℕ) → said ++ t'' (rest ++ later) ≡ t' (pending ++ later))
    → Appends o' o'' (take k said) → whole ≡ eqb k (length said) → Answered o o'' t octets whole t'' rest
feeds o o' o'' t t' t'' octets pending rest said k whole a says w e =
    let before = a.written in
    let on : (later : List ℕ) → before ++ (said ++ t'' (rest ++ later)) ≡ t (octets ++ later)
    = λ later. ap (λ (l : List ℕ). before ++ l) (says later) ∙ a.on refl later in
    record {
      written = before ++ take k said;
      writes = appends_then o o' o'' before (take k said) a.writes w;
      front = λ later.
          let u = t'' (rest ++ later) in (
            drop k said ++ u,
            append_assoc before (take k said) (drop k said ++ u)
                ∙ ap (λ (l : List ℕ). before ++ l) (sym (append_assoc (take k said) (drop k said) u) ∙ ap (λ (l : List ℕ). l ++ u) (take-append-drop k said))
                ∙ on later,
          );
      on = λ w later.
          let u = t'' (rest ++ later) in
          ap (λ (l : List ℕ). (before ++ l) ++ u) (take_all k said (let all : length said ≤ k = omega (arith, eqb-true k (length said) (sym e ∙ w)) in all))
          ∙ append_assoc before said u
          ∙ on later;
    }

-- a call leaves an output its octets, as many as they were
pub same_size : (t t' : Telling) (block : List ℕ) (most taken : ℕ) (out out' : Output) → Fed most t t' block taken out out' → length out'.octets.now ≡ length out.octets.now
same_size t t' block most taken out out' f = rw f.lays.laid.buffer (length-sets out.octets.now out.at f.said)

-- what a call of the code fed, its answers laid at the front of an output, is written as far as it was taken
pub fed : (o o' o'' : Option (List ℕ)) (t t' t'' : Telling) (octets pending : List ℕ) (most taken k : ℕ) (whole : Bool) (out out' : Output)
    → out.at ≡ 0 → Answered o o' t octets true t' pending → Fed most t' t'' pending taken out out'
    → Appends o' o'' (take k (take out'.at out'.octets.now)) → whole ≡ eqb k (length (take out'.at out'.octets.now))
    → Answered o o'' t octets whole t'' (drop taken pending)
fed o o' o'' t t' t'' octets pending most taken k whole out out' first a f w e =
    let laid = rw first at f.lays.laid in
    let fits : out'.at ≤ length out.octets.now = omega (arith, same_size t' t'' pending most taken out out' f, f.within (omega (arith, first))) in
    let front = front_laid out.octets.now f.said out'.at out'.octets.now laid fits in
    feeds o o' o'' t t' t'' octets pending (drop taken pending) f.said k whole a f.on (rw front at w) (rw front at e)

-- where not all of it was written, what is pending tells nothing more
pub fails : (o o' : Option (List ℕ)) (t t' t'' : Telling) (octets pending pending' : List ℕ)
    → Answered o o' t octets false t' pending → Answered o o' t octets false t'' pending'
fails o o' t t' t'' octets pending pending' a = record { written = a.written; writes = a.writes; front = a.front; on = λ e. absurd (true≢false (sym e)) }

-- something failed: nothing was written
pub short : (o : Option (List ℕ)) (t t' : Telling) (octets pending : List ℕ) → Answered o o t octets false t' pending
short o t t' octets pending = record { written = []; writes = appends_none o; front = λ later. (t (octets ++ later), refl); on = λ e. absurd (true≢false (sym e)) }

-- ---- reads

-- how many were counted, when so many of all that a run counts are left
abbrev pub counted : ℕ → ℕ
counted left = 2 ^ 64 - 1 - left

-- before the first
pub starts : (i o : Option (List ℕ)) (t : Telling) → Going i i o o t 0 true t
starts i o t = record { read = []; reads = consumes_none i; some = omega arith; answered = begins o t [] }

-- one brought nothing
pub nothing : (i i' i'' o o' : Option (List ℕ)) (t t' : Telling) (m : ℕ) (whole : Bool) → Going i i' o o' t m true t' → Consumes i' i'' [] → Going i i'' o o' t m whole t'
nothing i i' i'' o o' t t' m whole g r =
    let a = g.answered in
    record {
      read = g.read ++ [];
      reads = consumes_then i i' i'' g.read [] g.reads r;
      some = omega (arith, length-append g.read [], g.some);
      answered = rw (append-nil g.read) (record { written = a.written; writes = a.writes; front = a.front; on = λ w. a.on refl });
    }

-- one failed: nothing was read or written
pub read_fails : (i i' o : Option (List ℕ)) (t t' : Telling) → Consumes i i' [] → Going i i' o o t 0 false t'
read_fails i i' o t t' r = record { read = []; reads = r; some = omega arith; answered = short o t t' [] [] }

-- one more: its octets are answered
pub goes_on : (i i' i'' o o' o'' : Option (List ℕ)) (t t' t'' : Telling) (octets : List ℕ) (m n : ℕ) (whole : Bool)
    → Going i i' o o' t m true t' → Consumes i' i'' octets → n ≤ length octets → Answered o' o'' t' octets whole t'' []
    → Going i i'' o o'' t (m + n) whole t''
goes_on i i' i'' o o' o'' t t' t'' octets m n whole g r some b =
    let a = g.answered in
    record {
      read = g.read ++ octets;
      reads = consumes_then i i' i'' g.read octets g.reads r;
      some = omega (arith, length-append g.read octets, g.some, some);
      answered = record {
        written = a.written ++ b.written;
        writes = appends_then o o' o'' a.written b.written a.writes b.writes;
        front = λ later.
            let c = b.front later in
            (c.0, append_assoc a.written b.written c.0 ∙ ap (λ (l : List ℕ). a.written ++ l) c.1 ∙ a.on refl (octets ++ later) ∙ ap t (sym (append_assoc g.read octets later)));
        on = λ w later.
            append_assoc a.written b.written (t'' later) ∙ ap (λ (l : List ℕ). a.written ++ l) (b.on w later) ∙ a.on refl (octets ++ later)
            ∙ ap t (sym (append_assoc g.read octets later));
      };
    }

-- at least so many octets, and so at least fewer
pub at_least : {i i' o o' : Option (List ℕ)} {t t' : Telling} {whole : Bool} {m n : ℕ} → n ≤ m → Going i i' o o' t m whole t' → Going i i' o o' t n whole t'
at_least fewer g = record { read = g.read; reads = g.reads; some = omega (arith, fewer, g.some); answered = g.answered }

-- ---- the end

-- the answer to a last line stands at the front of an output with room for any
pub last_laid : (most : ℕ) (t : Telling) (out out' : Output) → out.at ≡ 0 → Roomy out most → Finished most t out out' → take out'.at out'.octets.now ≡ t []
last_laid most t out out' first room f =
    let laid = rw first at (f.lays room).laid in
    let size : length out'.octets.now ≡ length out.octets.now = rw laid.buffer (length-sets out.octets.now 0 (t [])) in
    front_laid out.octets.now (t []) out'.at out'.octets.now laid (omega (arith, size, f.within (omega (arith, first))))

-- something failed: nothing more is written
pub ran_short : (i i' o o' : Option (List ℕ)) (t t' : Telling) (least : ℕ) → Going i i' o o' t least false t' → Says t i i' o o' false
ran_short i i' o o' t t' least g =
    let a = g.answered in
    let f = a.front [] in
    record {
      read = g.read;
      written = a.written;
      reads = g.reads;
      writes = a.writes;
      front = (f.0, f.1 ∙ ap t (append-nil g.read));
      all = λ e. absurd (true≢false (sym e));
    }

-- the answer to a last line without its line feed is written, or a front of it
pub ran : (i i' o o' o'' : Option (List ℕ)) (t t' : Telling) (least k : ℕ) (whole : Bool)
    → Going i i' o o' t least true t' → IsAtEnd i' ⊎ (2 ^ 64 - 1 ≤ least) → Appends o' o'' (take k (t' [])) → whole ≡ eqb k (length (t' []))
    → Says t i i' o o'' whole
ran i i' o o' o'' t t' least k whole g far w e =
    let a = g.answered in
    let last = t' [] in
    let all_told : a.written ++ last ≡ t g.read = a.on refl [] ∙ ap t (append-nil g.read) in
    record {
      read = g.read;
      written = a.written ++ take k last;
      reads = g.reads;
      writes = appends_then o o' o'' a.written (take k last) a.writes w;
      front = (drop k last, append_assoc a.written (take k last) (drop k last) ∙ ap (λ (l : List ℕ). a.written ++ l) (take-append-drop k last) ∙ all_told);
      all = λ h. (
        ap (λ (l : List ℕ). a.written ++ l) (take_all k last (let long : length last ≤ k = omega (arith, eqb-true k (length last) (sym e ∙ h)) in long)) ∙ all_told,
        elim far [ inl end ↦ inl end | inr long ↦ inr (omega (arith, long, g.some)) ],
      );
    }

-- what is said from the first line on are the answers to the lines that were read
pub ran_told : {S : Type 0} (p : Answering S) (s : S) → FrontTells p → {i i' o o' : Option (List ℕ)} {whole : Bool} → Says (told p s []) i i' o o' whole → Ran p s i i' o o' whole
ran_told p s tells says = record {
  read = says.read;
  written = says.written;
  reads = says.reads;
  writes = says.writes;
  front = (says.front.0, says.front.1 ∙ told_answers p tells s says.read);
  all = λ e. let a = says.all e in (a.0 ∙ told_answers p tells s says.read, a.1);
}

-- ---- a call of the code, by nothing but what it leaves. No code is proved so today; the laws stand

-- where more of what an input has is to be read, an octet of it came
pub some_came : (more : Bool) (n : ℕ) → (more ≡ true → 0 < n) → bit more ≤ n
some_came true n h = h refl
some_came false n h = omega arith

module _ {S : Type 0} (p : Answering S) (tells : FrontTells p) where
  -- what a call of the code fed, its answers laid at the front of an output that holds them, is written as far as it was taken
  pub feeds_left : (o o' o'' : Option (List ℕ)) (t : Telling) (s' : S) (octets line' pending out : List ℕ) (k : ℕ) (whole : Bool) (w : Left S)
      → w ≡ leaving (length pending) out 0 (feeding p (length out - 0) s' line' pending) → w.at ≤ length out
      → Answered o o' t octets true (told p s' line') pending → Appends o' o'' (take k (take w.at w.out)) → whole ≡ eqb k (length (take w.at w.out))
      → Answered o o'' t octets whole (told p w.state w.line) (drop w.taken pending)
  feeds_left o o' o'' t s' octets line' pending out k whole w is fits a h e =
      let room = length out - 0 in
      let f = feeding p room s' line' pending in
      let laid : Laid out 0 f.said w.at w.out = record { behind = ap (λ (v : Left S). v.at) is; buffer = ap (λ (v : Left S). v.out) is } in
      let front : take w.at w.out ≡ f.said = front_laid out f.said w.at w.out laid fits in
      rw (is, rest_end p room s' line' pending)
      (feeds o o' o'' t (told p s' line') (told p f.state f.line) octets pending f.rest f.said k whole a (λ later. sym (told_fed p tells room s' line' pending later)) (rw front at h) (rw front at e))

-- what is written of the answer to a last line, laid at the front of an output that holds it
pub lasts : (o o' : Option (List ℕ)) (last out out' : List ℕ) (at k : ℕ) (whole : Bool)
    → Laid out 0 last at out' → at ≤ length out → Appends o o' (take k (take at out')) → whole ≡ eqb k (length (take at out'))
    → Appends o o' (take k last) × (whole ≡ eqb k (length last))
lasts o o' last out out' at k whole laid fits w e =
    let front = front_laid out last at out' laid fits in
    (rw front at w, rw front at e)
