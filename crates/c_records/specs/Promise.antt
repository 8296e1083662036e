-- What C is given for the result of each kind of call.
use Rattle.std.specs.Prelude.{ℕ, Bool, ⊤}
use Rattle.store.specs.declared.record.Placement.{Placement}
use Rattle.store.specs.declared.record.Answered.{Answered}
use Rattle.store.specs.Refusals.{given_by}
use Rattle.store_fresh.specs.Promise.{fresh_number}
use Rattle.query_size.specs.Promise.{size_given_by}
use Rattle.query_has.specs.Promise.{has_given_by}
use Rattle.query_weight.specs.Promise.{weight_given_by}
use Rattle.file_save.specs.Promise.{save_given_by}
use Rattle.store_audit.specs.declared.audit.Audited.{Audited}
use Rattle.c_records.specs.declared.CFreshened.{CFreshened}
use Rattle.c_records.specs.declared.CPlaced.{CPlaced}
use Rattle.c_records.specs.declared.CMeasured.{CMeasured}
use Rattle.c_records.specs.declared.CAsked.{CAsked}
use Rattle.c_records.specs.declared.CWeighed.{CWeighed}
use Rattle.c_records.specs.declared.CSaved.{CSaved}
use Rattle.c_records.specs.declared.CAudited.{CAudited}

-- The record that the call gave, the refusal's number, 0 where there is none, and the value, "0 where the answer has
-- such a field" and is refused. All but the record is what the call's own promise takes from its answer.
abbrev pub freshened_of : Answered ⊤ → CFreshened
freshened_of b = record { store = b.store; refusal = fresh_number b.answer }

abbrev pub placed_of : Answered Placement → CPlaced
placed_of b = record { store = b.store; refusal = (given_by b.answer).refusal; handle = (given_by b.answer).handle; added = (given_by b.answer).added }

abbrev pub measured_of : Answered ℕ → CMeasured
measured_of b = record { store = b.store; refusal = (size_given_by b.answer).refusal; size = (size_given_by b.answer).size }

abbrev pub asked_of : Answered Bool → CAsked
asked_of b = record { store = b.store; refusal = (has_given_by b.answer).refusal; member = (has_given_by b.answer).member }

abbrev pub weighed_of : Answered ℕ → CWeighed
weighed_of b = record { store = b.store; refusal = (weight_given_by b.answer).refusal; sum = (weight_given_by b.answer).sum }

abbrev pub saved_of : Answered ℕ → CSaved
saved_of b = record { store = b.store; refusal = (save_given_by b.answer).refusal; length = (save_given_by b.answer).file_length }

abbrev pub audited_of : Audited → CAudited
audited_of b = record { store = b.store; sound = b.sound }
