-- The examples, by computation.
-- Assumes nothing.
use Rattle.ground.proofs.Names.{refl}
use Rattle.text.specs.Text.{digits_in}
use Rattle.text.specs.Examples.{Examples}

pub examples : Examples
unfolding digits_in
examples = refl
