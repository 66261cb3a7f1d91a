-- What is written is the output for the whole input, wherever its chunks end: the statements of specs/Stream. Assumes nothing.
use Prim.Native.Nat.{ℕ}
use mathlib.Core.List.{List, ◌++◌, append_assoc, append-nil}
use mathlib.Core.Path.{◌≡◌, sym, ap, ◌∙◌}
use native.Mathlib.Omega.{arith}
use lib.ListN.{length, take}
use lib.Seq.{take_at}
use Rattle.lines.proofs.Theorems.{whole}
use Rattle.fontcrunch_cli.specs.Output.{output_of}
use Rattle.fontcrunch_cli.specs.Stream.{no_more, one_more, bytes_of, HoweverCut, FlushedWhole}

pub however_cut : HoweverCut
unfolding bytes_of
however_cut s left chunks done no_more = ap (output_of s) (sym (append-nil left))
however_cut s start all out (one_more {left} {bytes} {done} {left'} {later} {chunks} p w) =
    ap (λ (l : List ℕ). done ++ l) (however_cut s left' chunks later w) ∙ sym (p.owes (bytes_of chunks)) ∙ ap (output_of s) (append_assoc left bytes (bytes_of chunks))

pub flushed : FlushedWhole
flushed text done text' at p room =
    let all = whole p room in
    let size : length done ≡ at = omega (arith, all.1) in
    ap (take at) all.0 ∙ take_at done _ at size
