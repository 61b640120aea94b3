-- Believed: document 02, request 3: "Refusals: 10 two parts with one address, after 7; 11 address above 127, after 10". A start, a byte, a stop may give 1, 7, 10, 11; request 8: and then 14, where any part isn't of the old family.
-- Assumes nothing.
use Rattle.std.specs.Prelude.{ℕ, Bool, ◌&&◌, List, length, take}
use Rattle.refusals.specs.Refusals.{chain_refusal, sound_refusal, clash_refusal, address_refusal, family_refusal, in_order}
use Rattle.device.specs.declared.Device.{Device}
use Rattle.calls.specs.Calls.{give as give_chain, ask as ask_chain}
use Rattle.calls.specs.CallRefusals.{families_below, all_sound, refusal_by}
use Rattle.bus.specs.declared.Bus.{Bus}
use Rattle.bus.specs.Straps.{distinct, seven_bits}
use Rattle.bus.specs.States.{sound_bus}
use Rattle.bus.specs.BusCalls.{BusCall, start, put, get, stop, give, ask}

-- of a start, a byte or a stop on n parts of these families, by whether the records and the bus state are sound; the first n straps count
abbrev pub wire_refusal : ℕ → List ℕ → Bool → List ℕ → ℕ
wire_refusal n fs sound σ =
    in_order (chain_refusal n) 0 0 0 (sound_refusal sound) (clash_refusal (distinct (take n σ))) (address_refusal (seven_bits (take n σ))) (family_refusal (families_below 1 fs)) 0 0 0

-- of any call on n parts
abbrev pub bus_refusal_by : ℕ → List ℕ → Bool → List ℕ → BusCall → ℕ
bus_refusal_by n fs sound σ start = wire_refusal n fs sound σ
bus_refusal_by n fs sound σ (put v) = wire_refusal n fs sound σ
bus_refusal_by n fs sound σ get = wire_refusal n fs sound σ
bus_refusal_by n fs sound σ stop = wire_refusal n fs sound σ
bus_refusal_by n fs sound σ (give j s) = refusal_by n fs sound 0 (give_chain j s)
bus_refusal_by n fs sound σ (ask j q) = refusal_by n fs sound 0 (ask_chain j q)

-- 7: what a call is given is sound: the records, and the bus state where it is given one
abbrev pub sound_for : BusCall → Bus → List Device → Bool
sound_for start b ds = all_sound ds && sound_bus (length ds) b
sound_for (put v) b ds = all_sound ds && sound_bus (length ds) b
sound_for get b ds = all_sound ds && sound_bus (length ds) b
sound_for stop b ds = all_sound ds && sound_bus (length ds) b
sound_for (give j s) b ds = all_sound ds
sound_for (ask j q) b ds = all_sound ds
