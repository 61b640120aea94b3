-- `wiring::list` meets its contract. Assumes nothing.
use Rattle.wiring.proofs.list.Goals as goal

pub returns-in-Sixteen : goal.returns-in-Sixteen
returns-in-Sixteen c = simp c.in-Sixteen.is

pub returns-in-Fourteen : goal.returns-in-Fourteen
returns-in-Fourteen c = simp c.in-Fourteen.is

pub returns-in-SevenPair : goal.returns-in-SevenPair
returns-in-SevenPair c = simp c.in-SevenPair.is
