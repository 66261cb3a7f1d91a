-- The contract of each export, as the check reads it off src/, is that of the function of its name in `exports`, of which its proofs/Stated says what is
-- promised, every row and number by its name: it asks the same, and says the same. Assumes nothing.
use Rattle.std.specs.Prelude.{◌≡◌, refl}
use Rattle.exports.proofs.cleaning.fontcrunch_clean.Reads as clean
use Rattle.exports_c.proofs.cleaning.fontcrunch_clean.Reads as clean_c
use Rattle.exports.proofs.cleaning.fontcrunch_put_back.Reads as put_back
use Rattle.exports_c.proofs.cleaning.fontcrunch_put_back.Reads as put_back_c
use Rattle.exports.proofs.idle_controls.fontcrunch_drop_idle.Reads as drop_idle
use Rattle.exports_c.proofs.idle_controls.fontcrunch_drop_idle.Reads as drop_idle_c
use Rattle.exports.proofs.idle_controls.fontcrunch_put_back_idle.Reads as put_back_idle
use Rattle.exports_c.proofs.idle_controls.fontcrunch_put_back_idle.Reads as put_back_idle_c
use Rattle.exports.proofs.reasons.fontcrunch_why.Reads as why
use Rattle.exports_c.proofs.reasons.fontcrunch_why.Reads as why_c
use Rattle.exports.proofs.from_cubics.fontcrunch_from_cubics.Reads as from_cubics
use Rattle.exports_c.proofs.from_cubics.fontcrunch_from_cubics.Reads as from_cubics_c
use Rattle.exports.proofs.written_out.fontcrunch_explicit.Reads as explicit
use Rattle.exports_c.proofs.written_out.fontcrunch_explicit.Reads as explicit_c
use Rattle.exports.proofs.glyph.fontcrunch_read_glyph.Reads as read_glyph
use Rattle.exports_c.proofs.glyph.fontcrunch_read_glyph.Reads as read_glyph_c
use Rattle.exports.proofs.glyph.fontcrunch_write_glyph.Reads as write_glyph
use Rattle.exports_c.proofs.glyph.fontcrunch_write_glyph.Reads as write_glyph_c
use Rattle.exports.proofs.glyph.fontcrunch_crunch_glyph.Reads as crunch_glyph
use Rattle.exports_c.proofs.glyph.fontcrunch_crunch_glyph.Reads as crunch_glyph_c
use Rattle.exports.proofs.both_editions.fontcrunch_editions.Reads as editions
use Rattle.exports_c.proofs.both_editions.fontcrunch_editions.Reads as editions_c
use Rattle.exports.proofs.glif_files.fontcrunch_read_glif.Reads as read_glif
use Rattle.exports_c.proofs.glif_files.fontcrunch_read_glif.Reads as read_glif_c
use Rattle.exports.proofs.glif_files.fontcrunch_write_glif.Reads as write_glif
use Rattle.exports_c.proofs.glif_files.fontcrunch_write_glif.Reads as write_glif_c
use Rattle.exports.proofs.glif_files.fontcrunch_crunch_glif.Reads as crunch_glif
use Rattle.exports_c.proofs.glif_files.fontcrunch_crunch_glif.Reads as crunch_glif_c

pub clean_asks_the_same : clean_c.Pre ≡ clean.Pre
clean_asks_the_same = refl

pub clean_says_the_same : clean_c.Post ≡ clean.Post
clean_says_the_same = refl

pub put_back_asks_the_same : put_back_c.Pre ≡ put_back.Pre
put_back_asks_the_same = refl

pub put_back_says_the_same : put_back_c.Post ≡ put_back.Post
put_back_says_the_same = refl

pub drop_idle_asks_the_same : drop_idle_c.Pre ≡ drop_idle.Pre
drop_idle_asks_the_same = refl

pub drop_idle_says_the_same : drop_idle_c.Post ≡ drop_idle.Post
drop_idle_says_the_same = refl

pub put_back_idle_asks_the_same : put_back_idle_c.Pre ≡ put_back_idle.Pre
put_back_idle_asks_the_same = refl

pub put_back_idle_says_the_same : put_back_idle_c.Post ≡ put_back_idle.Post
put_back_idle_says_the_same = refl

pub why_asks_the_same : why_c.Pre ≡ why.Pre
why_asks_the_same = refl

pub why_says_the_same : why_c.Post ≡ why.Post
why_says_the_same = refl

pub from_cubics_asks_the_same : from_cubics_c.Pre ≡ from_cubics.Pre
from_cubics_asks_the_same = refl

pub from_cubics_says_the_same : from_cubics_c.Post ≡ from_cubics.Post
from_cubics_says_the_same = refl

pub explicit_asks_the_same : explicit_c.Pre ≡ explicit.Pre
explicit_asks_the_same = refl

pub explicit_says_the_same : explicit_c.Post ≡ explicit.Post
explicit_says_the_same = refl

pub read_glyph_asks_the_same : read_glyph_c.Pre ≡ read_glyph.Pre
read_glyph_asks_the_same = refl

pub read_glyph_says_the_same : read_glyph_c.Post ≡ read_glyph.Post
read_glyph_says_the_same = refl

pub write_glyph_asks_the_same : write_glyph_c.Pre ≡ write_glyph.Pre
write_glyph_asks_the_same = refl

pub write_glyph_says_the_same : write_glyph_c.Post ≡ write_glyph.Post
write_glyph_says_the_same = refl

pub crunch_glyph_asks_the_same : crunch_glyph_c.Pre ≡ crunch_glyph.Pre
crunch_glyph_asks_the_same = refl

pub crunch_glyph_says_the_same : crunch_glyph_c.Post ≡ crunch_glyph.Post
crunch_glyph_says_the_same = refl

pub editions_asks_the_same : editions_c.Pre ≡ editions.Pre
editions_asks_the_same = refl

pub editions_says_the_same : editions_c.Post ≡ editions.Post
editions_says_the_same = refl

pub read_glif_asks_the_same : read_glif_c.Pre ≡ read_glif.Pre
read_glif_asks_the_same = refl

pub read_glif_says_the_same : read_glif_c.Post ≡ read_glif.Post
read_glif_says_the_same = refl

pub write_glif_asks_the_same : write_glif_c.Pre ≡ write_glif.Pre
write_glif_asks_the_same = refl

pub write_glif_says_the_same : write_glif_c.Post ≡ write_glif.Post
write_glif_says_the_same = refl

pub crunch_glif_asks_the_same : crunch_glif_c.Pre ≡ crunch_glif.Pre
crunch_glif_asks_the_same = refl

pub crunch_glif_says_the_same : crunch_glif_c.Post ≡ crunch_glif.Post
crunch_glif_says_the_same = refl
