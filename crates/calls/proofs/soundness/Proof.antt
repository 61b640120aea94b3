-- `calls::soundness` meets its contract. Assumes nothing.
use Rattle.calls.proofs.Sound.{all_sound_lem}
use Rattle.calls.proofs.soundness.Tie as tie

pub soundness_spec : {M : Type 1} → Rattle.calls.proofs.soundness.Statement.statement M
soundness_spec = tie.close (tie.spec (λ c. all_sound_lem))
