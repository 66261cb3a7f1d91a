-- No line is under way at first. The bounds of the buffers compute.
use Rattle.std.proofs.Common.{ℕ, sym}
use Rattle.std.proofs.lemmas.List.{length-replicate}
use Rattle.fontcrunch_cli.proofs.Streaming.{fresh}
use Rattle.fontcrunch_cli.proofs.run.Goals as goal

pub slice_bounds-serve-end : goal.slice_bounds-serve-end
slice_bounds-serve-end g c = sym (length-replicate {0} {A = ℕ} 524288 0)

pub slice_bounds-serve-end-2 : goal.slice_bounds-serve-end-2
slice_bounds-serve-end-2 g c = sym (length-replicate {0} {A = ℕ} 65537 0)

pub serve-requires : goal.serve-requires
serve-requires g c = fresh _ (length-replicate {0} {A = ℕ} 65537 0)
