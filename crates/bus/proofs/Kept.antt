-- What calls leave as it was, over any list, and the chain's calls on this bus: the proofs of `specs/BusKept.antt`'s and `specs/ChainCalls.antt`'s theorems.
-- Assumes nothing.
use Rattle.ground.proofs.Names.{ℕ, ◌-◌, true, false, List, [], ◌∷◌, map, ◌≡◌, refl, ◌∙◌, eqb, map-set_same, if}
use Rattle.device.specs.PowerUp.{power_up}
use Rattle.device.specs.TwoWire.{commanded, received, sent}
use Rattle.device.specs.declared.Device.{Device}
use Rattle.calls.specs.Calls.{Step}
use Rattle.calls.specs.Served.{record_of, stepped}
use Rattle.calls.specs.Outcome.{number as chain_number, after, reply as chain_reply}
use Rattle.calls.proofs.Records.{same_fitted}
use Rattle.calls.proofs.Next.{same_shift}
use Rattle.calls.proofs.Marks.{same_mark}
use Rattle.bus.specs.declared.Bus.{Bus}
use Rattle.bus.specs.declared.Use.{Use}
use Rattle.bus.specs.declared.Use.TheVariants.{Command, Writing, Reading}
use Rattle.bus.specs.declared.State.{State}
use Rattle.bus.specs.declared.State.TheVariants.{Idle, Slave, Unmatched, Transfer}
use Rattle.bus.specs.States.{state_of}
use Rattle.bus.specs.BusCalls.{BusCall, start, put, get, stop, give, ask}
use Rattle.bus.specs.BusServed.{given, asked, served}
use Rattle.bus.specs.BusOutcome.{number, bus_after, parts_after, reply}
use Rattle.bus.specs.BusLists.{parts_all}
use Rattle.bus.specs.BusKept.{BusKept}
use Rattle.bus.specs.ChainCalls.{ChainCalls}

-- what no byte and no step touches
module _ (f : Device → ℕ) (by_given : (u : Use) (v : ℕ) (d : Device) → f (given u v d) ≡ f d) (by_asked : (u : Use) (d : Device) → f (asked u d) ≡ f d) (by_step : (s : Step) (d : Device) → f (stepped s d) ≡ f d) where
  -- is as it was after a served call
  pub same_served : (q : BusCall) (s : State) (ds : List Device) → map f (served q s ds) ≡ map f ds
  same_served start s ds = refl
  same_served (put v) Idle ds = refl
  same_served (put v) Slave ds = refl
  same_served (put v) Unmatched ds = refl
  same_served (put v) (Transfer k u) ds = map-set_same f ds (k - 1) _ power_up (by_given u v (record_of ds k))
  same_served get Idle ds = refl
  same_served get Slave ds = refl
  same_served get Unmatched ds = refl
  same_served get (Transfer k u) ds = map-set_same f ds (k - 1) _ power_up (by_asked u (record_of ds k))
  same_served stop s ds = refl
  same_served (give j x) s ds = map-set_same f ds (j - 1) _ power_up (by_step x (record_of ds j))
  same_served (ask j x) s ds = refl

  -- and after any list of calls
  same_all : (σ : List ℕ) (qs : List BusCall) (b : Bus) (ds : List Device) → map f (parts_all σ qs b ds) ≡ map f ds
  unfolding parts_all parts_after
  same_all σ [] b ds = refl
  same_all σ (q ∷ qs) b ds =
      same_all σ qs (bus_after σ q b ds) (parts_after σ q b ds)
      ∙ elim (eqb (number σ q b ds) 0) as (λ t. map f (if t (served q (state_of b) ds) ds) ≡ map f ds) [ true ↦ same_served q (state_of b) ds | false ↦ refl ]

-- a byte touches the registers and the command address alone
given_same : {A : Type 0} (f : Device → A) → ((d : Device) (v : ℕ) → f (commanded d v) ≡ f d) → ((d : Device) (v : ℕ) → f (received d v) ≡ f d) → (u : Use) (v : ℕ) (d : Device) → f (given u v d) ≡ f d
given_same f c r Command v d = c d v
given_same f c r Writing v d = r d v
given_same f c r Reading v d = refl

asked_same : {A : Type 0} (f : Device → A) → ((d : Device) → f (sent d) ≡ f d) → (u : Use) (d : Device) → f (asked u d) ≡ f d
asked_same f s Command d = refl
asked_same f s Writing d = refl
asked_same f s Reading d = s d

pub given_family : (u : Use) (v : ℕ) (d : Device) → (given u v d).family ≡ d.family
unfolding commanded received
given_family = given_same (λ d. d.family) (λ d v. refl) (λ d v. refl)

pub asked_family : (u : Use) (d : Device) → (asked u d).family ≡ d.family
unfolding sent
asked_family = asked_same (λ d. d.family) (λ d. refl)

pub bus_kept : BusKept
unfolding commanded received sent
bus_kept =
    record {
      kept_marks = same_all (λ d. d.answer_mark) (given_same (λ d. d.answer_mark) (λ d v. refl) (λ d v. refl)) (asked_same (λ d. d.answer_mark) (λ d. refl)) same_mark;
      kept_words = same_all (λ d. d.shift) (given_same (λ d. d.shift) (λ d v. refl) (λ d v. refl)) (asked_same (λ d. d.shift) (λ d. refl)) same_shift;
      kept_fitted = same_all (λ d. d.fitted) (given_same (λ d. d.fitted) (λ d v. refl) (λ d v. refl)) (asked_same (λ d. d.fitted) (λ d. refl)) same_fitted;
    }

pub chain_calls : ChainCalls
unfolding number parts_after reply bus_after chain_number after chain_reply
chain_calls =
    record {
      gives = λ σ j x b ds. record { same_number = refl; same_parts = refl; same_reply = refl; same_bus = refl };
      asks = λ σ j x b ds. record { same_number = refl; same_parts = refl; same_reply = refl; same_bus = refl };
    }
