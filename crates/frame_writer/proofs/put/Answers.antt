-- `put`: the last octets of four are the number's. Assumes nothing.
use Rattle.std.proofs.Common.{◌≡◌, ℕ, zero, suc, ◌-◌, ◌≤◌, length, drop, refl, sym, div-one, arith}
use Rattle.std.proofs.Math.Seq.{take-length}
use Rattle.std.specs.Int.{w32, to_be_bytes}
use Rattle.frame_layout.specs.Octets.{octets}
use Rattle.frame_layout.proofs.Octets.{length_octets}
use Rattle.frame_writer.proofs.Copied.{copied}
use Rattle.frame_writer.proofs.put.Goals as goal

-- the last octets of four
last : (n k : ℕ) → k ≤ 4 → drop (4 - k) (to_be_bytes w32 n) ≡ octets k n
last n zero h = refl
last n (suc zero) h = rw (div-one n)
last n (suc (suc zero)) h = rw (div-one n)
last n (suc (suc (suc zero))) h = rw (div-one n)
last n (suc (suc (suc (suc zero)))) h = rw (div-one n)
last n (suc (suc (suc (suc (suc k))))) h = absurd (omega arith)

pub returns : goal.returns
returns g c =
    let a = c.args in
    let n = g.row.N in
    let os = octets n a.number in
    let many : 4 - (4 - n) ≡ length os = omega (arith, length_octets n a.number) in
    rw (c.copy_from_slice.ensures.after, c.to_be_bytes.ensures, last a.number n c.requires.0, many, take-length os)
    (copied a.dst.now os a.at n (sym (length_octets n a.number)) c.requires.1)
