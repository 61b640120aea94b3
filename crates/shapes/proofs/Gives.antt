-- A call that gives a driver something: its outcome by the number that was found, and by what the driver's record became. The record is read within the chain, so it
-- doesn't matter what a read past the end gives.
--     given, kept      where the number is 0, and where it isn't
--     gave             both at once
-- Assumes nothing.
use Rattle.ground.proofs.Names.{ℕ, ◌-◌, ℕ_discrete, arith, List, [], ◌≡◌, sym, ap, ◌∙◌, get_or, set}
use Rattle.device.specs.PowerUp.{power_up}
use Rattle.device.specs.declared.Device.{Device}
use Rattle.calls.specs.Calls.{Step, give}
use Rattle.calls.specs.Served.{stepped}
use Rattle.calls.specs.Outcome.{outcome}
use Rattle.pass.specs.Own.{step_own}
use Rattle.pass.specs.Found.{call_refusal}
use Rattle.pass.proofs.FoundLaws.{in_range, give_served, give_refused}
use Rattle.lent.proofs.Passed.{default}

module _ (ds : List Device) (j : ℕ) (st : Step) {own number : ℕ} (o : own ≡ step_own st) (e : number ≡ call_refusal ds j own) where
  found : number ≡ call_refusal ds j (step_own st)
  found = e ∙ ap (call_refusal ds j) o

  pub given : (d : Device) {x : Device} → number ≡ 0 → x ≡ stepped st (get_or ds (j - 1) d)
      → outcome (give j st) ds ≡ record { number = number; records = set ds (j - 1) x; back = [] }
  given d z q =
      let there = in_range ds j (step_own st) (sym found ∙ z) in
      let same = default d power_up ds (j - 1) (omega (arith, there)) in
      rw (found, q, same) (give_served ds j st (sym found ∙ z))

  pub kept : (number ≡ 0 → ⊥) → outcome (give j st) ds ≡ record { number = number; records = ds; back = [] }
  kept z = rw found (give_refused ds j st (λ f. z (found ∙ f)))

  pub gave : {after : List Device} → (number ≡ 0 → (x : Device) × (x ≡ stepped st (get_or ds (j - 1) power_up)) × (after ≡ set ds (j - 1) x)) → ((number ≡ 0 → ⊥) → after ≡ ds)
      → outcome (give j st) ds ≡ record { number = number; records = after; back = [] }
  gave {after} served refused = go (ℕ_discrete number 0)
    where
      go : Dec (number ≡ 0) → outcome (give j st) ds ≡ record { number = number; records = after; back = [] }
      go (yes z) = let s = served z in rw s.2 (given power_up z s.1)
      go (no z) = rw (refused z) (kept z)
