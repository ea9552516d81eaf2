-- A read into the part of a text from i on: what stands before the part and the n bytes that count.
use Rattle.std.proofs.Common.{◌≡◌, ℕ, ◌+◌, ◌≤◌, List, Option, ◌++◌, ap, ◌∙◌, sym, refl, length, take, arith}
use Rattle.std.specs.Io.KnownBytes.{Consumes}
use Rattle.std.proofs.KnownBytes.{Consumes-trans}
use Rattle.std.proofs.lemmas.List.{length-take-le, take-take, take_at, drop_at}
use Rattle.std.proofs.lemmas.Slice.{take-put_mid}
use lib.Seq.{take-add}
use borrow.Rule.Slice.PartMut.{put_mid}

pub take-read : (i k n : ℕ) (text part : List ℕ) → i ≤ length text → n ≤ length part → take (i + n) (put_mid i k text part) ≡ take i text ++ take n part
take-read i k n text part h few =
    let front = length-take-le i text h in
    sym (take-take (i + n) (i + length part) (put_mid i k text part) (omega arith))
    ∙ ap (take (i + n)) (take-put_mid i k text part (i + length part) refl h)
    ∙ take-add i n (take i text ++ part)
    ∙ (λ x. take_at (take i text) part i front x ++ take n (drop_at (take i text) part i front x))

-- what the loop has read and what the next read takes, one after the other
pub read_on : (before now after : Option (List ℕ)) (i k n : ℕ) (text part : List ℕ) → i ≤ length text → n ≤ length part → Consumes before now (take i text) → Consumes now after (take n part) → Consumes before after (take (i + n) (put_mid i k text part))
read_on before now after i k n text part h few read next = rw (take-read i k n text part h few) (Consumes-trans _ _ _ _ _ read next)
