-- `decode::decode_core` meets its contract. Assumes nothing.
use mathlib.Core.Path.{◌≡◌, sym, ap, ◌∙◌}
use mathlib.Core.List.{List}
use Prim.Native.Nat.{ℕ}
use lib.ListN.{length, drop}
use lib.Seq.{length-take-le}
use Rattle.std.specs.Prelude.{Option}
use Rattle.std.proofs.lemmas.Result.{err_from_is_err_and}
use Rattle.circuit.specs.Literals.{Clause}
use Rattle.sheet.specs.Steps.{map_for}
use Rattle.sheet.specs.Calls.{decoding, sheet_map, sheet_slots, settings_of}
use Rattle.frame.specs.Frame.{front}
use Rattle.table.proofs.Lent.{read_into, read_refused}
use Rattle.table.proofs.Buffers.{left_refused, left_accepted}
use Rattle.assign.specs.Clauses.{truths, first_false_from}
use Rattle.decode.specs.Tried.{unless_false}
use Rattle.decode.proofs.Chain.{ready}
use Rattle.decode.proofs.Deciding.{decoding_refused, decoding_decided, slots_fit, slots_named, slots_read, values_put, values_kept}
use Rattle.decode.proofs.decode_core.Goals as goal
use Rattle.decode.proofs.decode_core.Goals.{then-is_none, else-is_none}

-- ---- refused
pub returns-in_err-read_decodable-clause-answer : goal.returns-in_err-read_decodable-clause-answer
returns-in_err-read_decodable-clause-answer c =
    let a = c.args in
    let p = err_from_is_err_and c.from_residual.result c.from_residual.ensures.1 in
    rw (p.1, p.2) (sym (decoding_refused a.table.now a.records (length a.map.now) (length a.slots.now) a.model.now (length a.values.now) (read_refused c.read_decodable.new.sheet c.read_decodable.ensures.answer c.in_err-read_decodable.was)))

pub returns-in_err-read_decodable-clause-map : goal.returns-in_err-read_decodable-clause-map
returns-in_err-read_decodable-clause-map c = left_refused sheet_map c.args.map.now (read_refused c.read_decodable.new.sheet c.read_decodable.ensures.answer c.in_err-read_decodable.was)

pub returns-in_err-read_decodable-clause-slots : goal.returns-in_err-read_decodable-clause-slots
returns-in_err-read_decodable-clause-slots c = left_refused sheet_slots c.args.slots.now (read_refused c.read_decodable.new.sheet c.read_decodable.ensures.answer c.in_err-read_decodable.was)

pub returns-in_err-read_decodable-clause-values : goal.returns-in_err-read_decodable-clause-values
returns-in_err-read_decodable-clause-values c =
    let a = c.args in
    left_refused (settings_of a.model.now) a.values.now (decoding_refused a.table.now a.records (length a.map.now) (length a.slots.now) a.model.now (length a.values.now) (read_refused c.read_decodable.new.sheet c.read_decodable.ensures.answer c.in_err-read_decodable.was))

-- ---- written
pub write_table-requires : goal.write_table-requires
write_table-requires c =
    let a = c.args in
    let r = ready a.table.now a.records (length a.map.now) (length a.slots.now) a.model.now (length a.values.now) (read_into c.read_decodable.ensures.answer c.in_ok-read_decodable.was) in
    record { accepted = r.fit.accepted; map_room = r.fit.map_room; slot_room = r.fit.slot_room }

pub slice_bounds-first_false-end : goal.slice_bounds-first_false-end
slice_bounds-first_false-end c =
    let a = c.args in
    let r = ready a.table.now a.records (length a.map.now) (length a.slots.now) a.model.now (length a.values.now) (read_into c.read_decodable.ensures.answer c.in_ok-read_decodable.was) in
    rw c.counts-written.ensures (slots_fit r.fit.accepted a.slots.now c.write_table.ensures.slots)

pub slice_bounds-first_false-end-2 : goal.slice_bounds-first_false-end-2
slice_bounds-first_false-end-2 c =
    let a = c.args in
    let r = ready a.table.now a.records (length a.map.now) (length a.slots.now) a.model.now (length a.values.now) (read_into c.read_decodable.ensures.answer c.in_ok-read_decodable.was) in
    sym (length-take-le c.counts-written.result.slots c.write_table.new.slots (rw c.counts-written.ensures (slots_fit r.fit.accepted a.slots.now c.write_table.ensures.slots)))

pub first_false-false_clause-requires : goal.first_false-false_clause-requires
first_false-false_clause-requires c =
    let a = c.args in
    let r = ready a.table.now a.records (length a.map.now) (length a.slots.now) a.model.now (length a.values.now) (read_into c.read_decodable.ensures.answer c.in_ok-read_decodable.was) in
    rw c.counts-written.ensures (slots_named r.fit.accepted a.slots.now c.write_table.ensures.slots r.variables)

pub put_settings-requires : goal.put_settings-requires
unfolding front
put_settings-requires c =
    let a = c.args in
    let r = ready a.table.now a.records (length a.map.now) (length a.slots.now) a.model.now (length a.values.now) (read_into c.read_decodable.ensures.answer c.in_ok-read_decodable.was) in
    record {
      written = record { accepted = r.fit.accepted; behind = drop (length (map_for c.read_decodable.new.sheet.rows)) a.map.now; in_map = c.write_table.ensures.map; variables = r.variables };
      room = r.room;
    }

-- ---- 19 is decided
decided : (c : goal.Joined-is_none) → decoding c.args.table.now c.args.records (length c.args.map.now) (length c.args.slots.now) c.args.model.now (length c.args.values.now) ≡ unless_false c.first_false-false_clause.result c.read_decodable.new.sheet
decided c =
    let a = c.args in
    let is = read_into c.read_decodable.ensures.answer c.in_ok-read_decodable.was in
    let r = ready a.table.now a.records (length a.map.now) (length a.slots.now) a.model.now (length a.values.now) is in
    let e = slots_read r.fit.accepted a.slots.now c.write_table.ensures.slots in
    decoding_decided a.table.now a.records (length a.map.now) (length a.slots.now) a.model.now (length a.values.now) is
    ∙ ap (λ (k : Option ℕ). unless_false k c.read_decodable.new.sheet) (ap (λ (cs : List Clause). first_false_from 1 (truths a.model.now cs)) (sym e) ∙ sym (rw c.counts-written.ensures at c.first_false-false_clause.ensures))

pub returns-clause-answer : goal.returns-clause-answer
returns-clause-answer c = sym (decided c)

pub returns-clause-map : goal.returns-clause-map
unfolding front
returns-clause-map c = c.write_table.ensures.map ∙ left_accepted sheet_map c.args.map.now (read_into c.read_decodable.ensures.answer c.in_ok-read_decodable.was)

pub returns-clause-slots : goal.returns-clause-slots
unfolding front
returns-clause-slots c = c.write_table.ensures.slots ∙ left_accepted sheet_slots c.args.slots.now (read_into c.read_decodable.ensures.answer c.in_ok-read_decodable.was)

pub returns-clause-values : goal.returns-clause-values
returns-clause-values c =
    let a = c.args in
    let sheet = c.read_decodable.new.sheet in
    let k = c.first_false-false_clause.result in
    elim c.if-is_none.branch [
      | then-is_none w ↦ rw w.values-is (values_put a.model.now a.values.now sheet k (decided c) (rw w.if-is_none.true at c.is_none.ensures) w.put_settings.ensures)
      | else-is_none w ↦ rw w.values-is (values_kept a.model.now a.values.now sheet k (decided c) (rw w.if-is_none.false at c.is_none.ensures))
    ]
