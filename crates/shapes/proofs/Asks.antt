-- A question to a driver: its outcome by the number that was found, and by an answer that has a number and what is given back.
--     asked, unasked        where the number is 0, and where it isn't
--     asked_within          the same, where the answer tells again whether the question is within its limits
--     question_there        for it is
-- Assumes nothing.
use Rattle.ground.proofs.Names.{ℕ, ◌-◌, arith, List, ◌≡◌, sym, ap, ◌∙◌, get_or}
use Rattle.device.specs.PowerUp.{power_up}
use Rattle.device.specs.declared.Device.{Device}
use Rattle.calls.specs.Calls.{Question, ask}
use Rattle.calls.specs.CallRefusals.{question_refusal}
use Rattle.calls.specs.Served.{answer_to, refused_to}
use Rattle.calls.specs.Outcome.{outcome}
use Rattle.pass.specs.Own.{question_own}
use Rattle.pass.specs.Found.{call_refusal}
use Rattle.pass.proofs.FoundLaws.{in_range, question_zero, ask_served, ask_refused}
use Rattle.lent.proofs.Passed.{default}

module _ (ds : List Device) (j : ℕ) (q : Question) {own number : ℕ} (o : own ≡ question_own q) (e : number ≡ call_refusal ds j own) where
  found : number ≡ call_refusal ds j (question_own q)
  found = e ∙ ap (call_refusal ds j) o

  pub asked : (d : Device) → number ≡ 0 → outcome (ask j q) ds ≡ record { number = 0; records = ds; back = answer_to q (get_or ds (j - 1) d) }
  asked d z =
      let there = in_range ds j (question_own q) (sym found ∙ z) in
      let same = default d power_up ds (j - 1) (omega (arith, there)) in
      rw same (ask_served ds j q (sym found ∙ z))

  pub question_there : number ≡ 0 → question_refusal q ≡ 0
  question_there z = question_zero ds j q (sym found ∙ z)

  pub asked_within : (d : Device) {k : ℕ} → number ≡ 0 → k ≡ question_refusal q → outcome (ask j q) ds ≡ record { number = k; records = ds; back = answer_to q (get_or ds (j - 1) d) }
  asked_within d z p = rw (p, question_there z) (asked d z)

  pub unasked : (number ≡ 0 → ⊥) → outcome (ask j q) ds ≡ record { number = number; records = ds; back = refused_to q }
  unasked z = rw found (ask_refused ds j q (λ f. z (found ∙ f)))
