-- The contract of each export, as the check reads it off src/, is that of the function of its name in `fontcrunch`, of which its proofs/Stated says what is
-- promised, every row and number by its name: it asks the same, and says the same. Assumes nothing.
use Rattle.std.specs.Prelude.{◌≡◌, refl}
use Rattle.fontcrunch.proofs.fontcrunch_crunch.Reads as crunch
use Rattle.fontcrunch_c.proofs.fontcrunch_crunch.Reads as crunch_c
use Rattle.fontcrunch.proofs.fontcrunch_chain.Reads as chain
use Rattle.fontcrunch_c.proofs.fontcrunch_chain.Reads as chain_c
use Rattle.fontcrunch.proofs.fontcrunch_check.Reads as check
use Rattle.fontcrunch_c.proofs.fontcrunch_check.Reads as check_c

pub crunch_asks_the_same : crunch_c.Pre ≡ crunch.Pre
crunch_asks_the_same = refl

pub crunch_says_the_same : crunch_c.Post ≡ crunch.Post
crunch_says_the_same = refl

pub chain_asks_the_same : chain_c.Pre ≡ chain.Pre
chain_asks_the_same = refl

pub chain_says_the_same : chain_c.Post ≡ chain.Post
chain_says_the_same = refl

pub check_asks_the_same : check_c.Pre ≡ check.Pre
check_asks_the_same = refl

pub check_says_the_same : check_c.Post ≡ check.Post
check_says_the_same = refl
